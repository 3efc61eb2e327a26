-- Where a number of places leads: to the left where it is not below zero, and to the right else.
use Rattle.std.proofs.Common.{◌≡◌, ℕ, suc, ◌+◌, ◌-◌, ◌*◌, ◌/◌, ◌%◌, ◌<◌, Bool, true, false, ℤ, pos, negsuc, List, ◌++◌, length, take, drop, sym, ap, ◌∙◌, arith}
use Rattle.std.specs.Prelude.{◌==◌, unsigned_abs}
use Rattle.std.specs.Int.Signed.{lt_z}
use Rattle.std.proofs.lemmas.Bool.{eqb-false, ltb-true, true≢false}
use Rattle.std.proofs.lemmas.Nat.{mod_below}
use Rattle.trac_rules.specs.Octal.{bits_of, rotate, rotated_right, shift, shifted_left, shifted_right}
use Rattle.trac_num.proofs.Bits.{length-bits_of}
use Rattle.trac_num.proofs.Sliding.{places_around}

-- a number that is not below zero is its size
not_below : (z by : ℤ) (count : ℕ) → z ≡ by → lt_z z (pos 0) ≡ false → count ≡ unsigned_abs z → by ≡ pos count
not_below (pos n) by count e l s = sym e ∙ ap pos (sym s)
not_below (negsuc n) by count e l s = absurd (true≢false l)

below : (z by : ℤ) (count : ℕ) → z ≡ by → lt_z z (pos 0) ≡ true → count ≡ unsigned_abs z → (n : ℕ) × (count ≡ suc n) × (by ≡ negsuc n)
below (pos n) by count e l s = absurd (omega (arith, ltb-true n 0 l))
below (negsuc n) by count e l s = (n, s, sym e)

pub shift_left : (z by : ℤ) (count : ℕ) (bits : List Bool) → z ≡ by → lt_z z (pos 0) ≡ false → count ≡ unsigned_abs z → shift by bits ≡ shifted_left count bits
shift_left z by count bits e l s = ap (λ b. shift b bits) (not_below z by count e l s)

pub shift_right : (z by : ℤ) (count : ℕ) (bits : List Bool) → z ≡ by → lt_z z (pos 0) ≡ true → count ≡ unsigned_abs z → shift by bits ≡ shifted_right count bits
shift_right z by count bits e l s =
    let at = below z by count e l s in
    ap (λ b. shift b bits) at.2 ∙ ap (λ n. shifted_right n bits) (sym at.1)

-- a length that is not zero
some : (n : ℕ) → false ≡ (n == 0) → 0 < n
some n e = let differ = eqb-false n 0 (sym e) in omega (arith, differ)

pub rotate_left : (z by : ℤ) (count : ℕ) (a : List ℕ) → z ≡ by → lt_z z (pos 0) ≡ false → count ≡ unsigned_abs z → false ≡ (length a == 0) →
    let k = 3 * (count / 3 % length a) + count % 3 in rotate by (bits_of a) ≡ drop k (bits_of a) ++ take k (bits_of a)
rotate_left z by count a e l s full =
    ap (λ b. rotate b (bits_of a)) (not_below z by count e l s)
    ∙ ap (λ k. drop k (bits_of a) ++ take k (bits_of a)) (sym (places_around a count (some (length a) full)))

pub rotate_right : (z by : ℤ) (count : ℕ) (a : List ℕ) → z ≡ by → lt_z z (pos 0) ≡ true → count ≡ unsigned_abs z → false ≡ (length a == 0) →
    let k = 3 * (length a - 1 - count / 3 % length a) + (3 - count % 3) in rotate by (bits_of a) ≡ drop k (bits_of a) ++ take k (bits_of a)
rotate_right z by count a e l s full =
    let at = below z by count e l s in
    let back : length (bits_of a) - count % length (bits_of a) ≡ 3 * (length a - 1 - count / 3 % length a) + (3 - count % 3) =
    omega (arith, places_around a count (some (length a) full), length-bits_of a, mod_below (count / 3) (length a) (some (length a) full), mod_below count 3 (omega arith)) in
    ap (λ b. rotate b (bits_of a)) at.2 ∙ ap (λ n. rotated_right n (bits_of a)) (sym at.1)
    ∙ ap (λ k. drop k (bits_of a) ++ take k (bits_of a)) back
