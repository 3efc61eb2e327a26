-- Texts of digits, and the numbers that they write.
use Rattle.std.proofs.Common.{◌≡◌, ℕ, zero, suc, ◌+◌, ◌-◌, ◌*◌, ◌^◌, ◌<◌, ◌≤◌, true, List, [], ◌∷◌, length, get_or, drop, refl, ap, ◌∙◌, arith, subst}
use Rattle.std.proofs.lemmas.Bool.{and_parts, and_from, leb-true}
use Rattle.std.proofs.lemmas.Int.Digits.{digits_value-lt}
use Rattle.std.proofs.Math.Nat.{pow-suc}
use Rattle.std.proofs.lemmas.List.{drop_more}
use Rattle.std.proofs.lemmas.Str.{digit_value_digit}
use Rattle.std.proofs.lemmas.Str.Parse.{tells_all_ascii_digits, numerals_by_value}
use Rattle.std.specs.Char.{digit_value, is_ascii_digit}
use Rattle.std.specs.Str.{all_ascii_digits}
use Rattle.std.specs.Str.Parse.{AllDigits, digits_value, digits_value_after}

pub digit_at : (ds : List ℕ) (i : ℕ) → all_ascii_digits ds ≡ true → i < length ds → is_ascii_digit (get_or ds i 0) ≡ true
digit_at [] i t l = absurd (omega arith)
digit_at (d ∷ ds) zero t l = (and_parts (is_ascii_digit d) (all_ascii_digits ds) t).0
digit_at (d ∷ ds) (suc i) t l = digit_at ds i (and_parts (is_ascii_digit d) (all_ascii_digits ds) t).1 (omega arith)

pub digits_drop : (n : ℕ) (ds : List ℕ) → all_ascii_digits ds ≡ true → all_ascii_digits (drop n ds) ≡ true
digits_drop zero ds t = t
digits_drop (suc n) [] t = refl
digits_drop (suc n) (d ∷ ds) t = digits_drop n ds (and_parts (is_ascii_digit d) (all_ascii_digits ds) t).1

-- one more digit before them
pub digits_more : (text : List ℕ) (k : ℕ) → k < length text → is_ascii_digit (get_or text k 0) ≡ true → all_ascii_digits (drop (k + 1) text) ≡ true → all_ascii_digits (drop k text) ≡ true
digits_more text k l d t = rw (drop_more text k 0 l) (and_from (is_ascii_digit (get_or text k 0)) (all_ascii_digits (drop (k + 1) text)) d t)

-- the same at the place before another one
pub digits_before : (text : List ℕ) (k : ℕ) → 0 < k → k ≤ length text → is_ascii_digit (get_or text (k - 1) 0) ≡ true → all_ascii_digits (drop k text) ≡ true → all_ascii_digits (drop (k - 1) text) ≡ true
digits_before text k p l d t =
    let next : k ≡ k - 1 + 1 = omega arith in
    digits_more text (k - 1) (omega arith) d (subst (λ n. all_ascii_digits (drop n text) ≡ true) next t)

pub all_digits_from : (ds : List ℕ) → all_ascii_digits ds ≡ true → AllDigits 10 ds
all_digits_from ds t = (numerals_by_value (λ xs. all_ascii_digits xs ≡ true) tells_all_ascii_digits).to ds t

-- a digit is worth what its byte is above `0`
pub digit_worth : (b : ℕ) → is_ascii_digit b ≡ true → (48 ≤ b) × (b ≤ 57) × (digit_value b + 48 ≡ b)
digit_worth b t =
    let both = and_parts _ _ t in
    let low : 48 ≤ b = leb-true 48 b both.0 in
    let high : b ≤ 57 = leb-true b 57 both.1 in
    (low, high, digit_value_digit b (low, high))

-- ---- the number that they write

shared_out : (n w p : ℕ) → (n * 10 + w) * p ≡ n * (p * 10) + (0 * 10 + w) * p
shared_out n w p = omega arith

pub value_after : (n : ℕ) (ds : List ℕ) → digits_value_after 10 n ds ≡ n * 10 ^ length ds + digits_value 10 ds
value_after n [] = omega arith
value_after n (d ∷ ds) =
    let whole = value_after (n * 10 + digit_value d) ds in
    let first = value_after (0 * 10 + digit_value d) ds in
    let power : 10 ^ suc (length ds) ≡ 10 ^ length ds * 10 = pow-suc 10 (length ds) in
    rw power (omega (arith, whole, first, shared_out n (digit_value d) (10 ^ length ds)))

pub value_first : (d : ℕ) (ds : List ℕ) → digits_value 10 (d ∷ ds) ≡ digit_value d * 10 ^ length ds + digits_value 10 ds
value_first d ds = value_after (0 * 10 + digit_value d) ds ∙ ap (λ n. n * 10 ^ length ds + digits_value 10 ds) (omega arith)

pub value_below : (ds : List ℕ) → all_ascii_digits ds ≡ true → digits_value 10 ds < 10 ^ length ds
value_below ds t = digits_value-lt 10 ds (all_digits_from ds t)
