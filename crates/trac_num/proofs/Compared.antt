-- Two numerals compared by their signs and by the digits after them.
use Rattle.std.proofs.Common.{◌≡◌, ℕ, zero, suc, ◌+◌, ◌<◌, true, false, not, ◌==◌, ltb, List, [], ◌∷◌, length, refl, sym, ap, ◌∙◌, arith, ⊎_elim, pos, neg_ℤ, int_lt}
use Rattle.std.proofs.Math.Nat.{one-le-pow}
use Rattle.std.proofs.lemmas.Bool.{lt-ltb, le-ltb, eq-eqb, ne_eqb, cases_eq}
use Rattle.std.specs.Str.Parse.{digits_value, starts_with_minus, without_leading_sign}
use Rattle.trac_num.proofs.Larger.{same_added, value_above}
use Rattle.trac_num.specs.Magnitude.{IsMagnitude, IsMagnitudeOf}
use Rattle.trac_rules.specs.Number.{is_greater, whole_number}

-- ---- whole numbers by their signs

pub minus_number : (numeral digits : List ℕ) → starts_with_minus numeral ≡ true → digits_value 10 digits ≡ digits_value 10 (without_leading_sign numeral) → whole_number numeral ≡ neg_ℤ (pos (digits_value 10 digits))
unfolding whole_number
minus_number numeral digits t e = rw e (rw t refl)

pub plain_number : (numeral digits : List ℕ) → starts_with_minus numeral ≡ false → digits_value 10 digits ≡ digits_value 10 (without_leading_sign numeral) → whole_number numeral ≡ pos (digits_value 10 digits)
unfolding whole_number
plain_number numeral digits f e = rw e (rw f refl)

both_below : (m n : ℕ) → int_lt (neg_ℤ (pos n)) (neg_ℤ (pos m)) ≡ ltb m n
both_below zero zero = refl
both_below zero (suc n) = sym (lt-ltb 0 (suc n) (omega arith))
both_below (suc m) zero = sym (le-ltb (suc m) 0 (omega arith))
both_below (suc m) (suc n) = sym (same_added 1 m n) ∙ ap (λ k. ltb k (1 + n)) (omega arith) ∙ ap (λ k. ltb (suc m) k) (omega arith)

not_below_minus : (m n : ℕ) → int_lt (pos n) (neg_ℤ (pos m)) ≡ false
not_below_minus zero n = le-ltb n 0 (omega arith)
not_below_minus (suc m) n = refl

below_some : (m n : ℕ) → 0 < m → int_lt (neg_ℤ (pos n)) (pos m) ≡ true
below_some m zero l = lt-ltb 0 m l
below_some m (suc n) l = refl

some_below : (m n : ℕ) → 0 < n → int_lt (neg_ℤ (pos n)) (pos m) ≡ true
some_below m zero l = absurd (omega arith)
some_below m (suc n) l = refl

-- ---- magnitudes of 0

magnitude_above : (digits : List ℕ) → IsMagnitude digits → (length digits ≡ 0 → ⊥) → 0 < digits_value 10 digits
magnitude_above [] form n = absurd (n refl)
magnitude_above (d ∷ ds) form n = omega (arith, value_above d ds form, one-le-pow (length ds) 10 (omega arith))

magnitude_zero : (digits : List ℕ) → length digits ≡ 0 → digits_value 10 digits ≡ 0
magnitude_zero [] e = refl
magnitude_zero (d ∷ ds) e = absurd (omega arith)

-- ---- the cases of the signs

pub both_minus : (a b first second : List ℕ) → IsMagnitudeOf a first → IsMagnitudeOf b second → starts_with_minus a ≡ true → starts_with_minus b ≡ true → ltb (digits_value 10 first) (digits_value 10 second) ≡ is_greater a b
unfolding is_greater
both_minus a b first second ha hb ta tb =
    rw (minus_number a first ta ha.value) (rw (minus_number b second tb hb.value) (sym (both_below (digits_value 10 first) (digits_value 10 second))))

pub first_minus : (a b first second : List ℕ) → IsMagnitudeOf a first → IsMagnitudeOf b second → starts_with_minus a ≡ true → starts_with_minus b ≡ false → false ≡ is_greater a b
unfolding is_greater
first_minus a b first second ha hb ta fb =
    rw (minus_number a first ta ha.value) (rw (plain_number b second fb hb.value) (sym (not_below_minus (digits_value 10 first) (digits_value 10 second))))

pub no_minus : (a b first second : List ℕ) → IsMagnitudeOf a first → IsMagnitudeOf b second → starts_with_minus a ≡ false → starts_with_minus b ≡ false → ltb (digits_value 10 second) (digits_value 10 first) ≡ is_greater a b
unfolding is_greater
no_minus a b first second ha hb fa fb = rw (plain_number a first fa ha.value) (rw (plain_number b second fb hb.value) refl)

pub second_minus_some : (a b first second : List ℕ) → IsMagnitudeOf a first → IsMagnitudeOf b second → starts_with_minus a ≡ false → starts_with_minus b ≡ true → (length first ≡ 0 → ⊥) → true ≡ is_greater a b
unfolding is_greater
second_minus_some a b first second ha hb fa tb n =
    rw (plain_number a first fa ha.value) (rw (minus_number b second tb hb.value)
    (sym (below_some (digits_value 10 first) (digits_value 10 second) (magnitude_above first ha.form n))))

pub second_minus_zero : (a b first second : List ℕ) → IsMagnitudeOf a first → IsMagnitudeOf b second → starts_with_minus a ≡ false → starts_with_minus b ≡ true → length first ≡ 0 → not (length second == 0) ≡ is_greater a b
unfolding is_greater
second_minus_zero a b first second ha hb fa tb e =
    rw (plain_number a first fa ha.value) (rw (minus_number b second tb hb.value)
    (⊎_elim
    (λ (z : length second ≡ 0).
    ap not (eq-eqb (length second) 0 z)
    ∙ sym (ap (λ n. int_lt (neg_ℤ (pos n)) (pos (digits_value 10 first))) (magnitude_zero second z)
    ∙ ap (λ n. int_lt (pos 0) (pos n)) (magnitude_zero first e)))
    (λ (n : length second ≡ 0 → ⊥).
    ap not (ne_eqb (length second) 0 n)
    ∙ sym (some_below (digits_value 10 first) (digits_value 10 second) (magnitude_above second hb.form n)))
    (cases_eq (length second) 0)))
