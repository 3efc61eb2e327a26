-- The number of a short numeral, digit by digit.
use Rattle.std.proofs.Common.{◌≡◌, ◌∙◌, ℕ, ◌+◌, ◌-◌, ◌*◌, ◌^◌, ◌<◌, ◌≤◌, true, false, ℤ, pos, neg_ℤ, ◌-ℤ◌, FitsSigned, w64, List, [], length, get_or, drop, take, length-drop, ◌⊎◌, of_z, to_z, zero, suc, refl, sym, ap, arith, subst, ⊎_elim}
use Rattle.std.proofs.Math.Facts.{to_z_pos, to_z-of_z}
use Rattle.std.proofs.lemmas.Int.{ints}
use Rattle.std.proofs.lemmas.Int.Digits.{digits_value_more}
use Rattle.std.proofs.lemmas.Str.Parse.{digits_value-take-le, digits_value_short, numerals_by_value, tells_all_ascii_digits}
use Rattle.std.specs.Str.{all_ascii_digits}
use Rattle.std.specs.Str.Parse.{digits_value, starts_with_minus, without_leading_sign}
use Rattle.trac_num.proofs.Compared.{minus_number, plain_number}
use Rattle.trac_num.proofs.Digits.{digit_at, digit_worth}
use Rattle.trac_num.proofs.Numerals.{numeral_parts, sign_or_none}
use Rattle.trac_rules.specs.Number.{IsNumeralOrNull, is_numeral, whole_number}

pub short_below : (ds : List ℕ) → all_ascii_digits ds ≡ true → length ds ≤ 18 → digits_value 10 ds < 10 ^ 18
short_below ds t l = digits_value_short (numerals_by_value (λ xs. all_ascii_digits xs ≡ true) tells_all_ascii_digits) ds 18 t l

pub digits_of : (numeral : List ℕ) → IsNumeralOrNull numeral → all_ascii_digits (without_leading_sign numeral) ≡ true
digits_of numeral form =
    ⊎_elim (λ (e : numeral ≡ []). rw e refl) (λ (t : is_numeral numeral ≡ true). (numeral_parts numeral t).1) form

digits_short : (numeral : List ℕ) → length numeral ≤ 18 → length (without_leading_sign numeral) ≤ 18
digits_short numeral l =
    ⊎_elim
    (λ (s : ((get_or numeral 0 0 ≡ 43) ⊎ (get_or numeral 0 0 ≡ 45)) × (without_leading_sign numeral ≡ drop 1 numeral)).
    omega (arith, length-drop 1 numeral, ap (λ (ds : List ℕ). length ds) s.1, l))
    (λ (s : (get_or numeral 0 0 ≡ 43 → ⊥) × (get_or numeral 0 0 ≡ 45 → ⊥) × (without_leading_sign numeral ≡ numeral)).
    omega (arith, ap (λ (ds : List ℕ). length ds) s.2, l))
    (sign_or_none numeral)

-- one digit more
pub record OneMore (ds : List ℕ) (i s : ℕ) : Type 0 where
  pub low : 48 ≤ get_or ds i 0
  pub high : get_or ds i 0 ≤ 57
  pub value : s * 10 + (get_or ds i 0 - 48) ≡ digits_value 10 (take (i + 1) ds)
  pub below : s * 10 + (get_or ds i 0 - 48) < 10 ^ 18

pub one_more : (numeral ds : List ℕ) (i s : ℕ) → IsNumeralOrNull numeral → length numeral ≤ 18 → ds ≡ without_leading_sign numeral → i < length ds → s ≡ digits_value 10 (take i ds) → OneMore ds i s
one_more numeral ds i s form short is h e =
    let t : all_ascii_digits ds ≡ true = ap all_ascii_digits is ∙ digits_of numeral form in
    let l : length ds ≤ 18 = omega (arith, digits_short numeral short, ap (λ (xs : List ℕ). length xs) is) in
    let worth = digit_worth (get_or ds i 0) (digit_at ds i t h) in
    let more = digits_value_more 10 ds i h in
    let within = digits_value-take-le 10 ds (i + 1) (omega arith) in
    let most = short_below ds t l in
    record {
      low = worth.0;
      high = worth.1;
      value = omega (arith, worth, more, e);
      below = omega (arith, worth, more, e, within, most);
    }

-- ---- as integers of the code

-- zero less so small a number is held
less_of : (s : ℕ) → pos 0 -ℤ pos s ≡ neg_ℤ (pos s)
less_of s = search (arith, ints)

neg_held : (s : ℕ) → s < 10 ^ 18 → FitsSigned w64 (neg_ℤ (pos s))
neg_held zero l = record { sfits = omega arith }
neg_held (suc s) l = record { sfits = omega arith }

pub short_held : (s : ℕ) → s < 10 ^ 18 → FitsSigned w64 (pos s)
short_held s l = record { sfits = omega arith }

pub short_turned : (s : ℕ) → s < 10 ^ 18 → pos 0 -ℤ to_z w64 s ≡ neg_ℤ (pos s)
short_turned s l = ap (λ (z : ℤ). pos 0 -ℤ z) (to_z_pos w64 {n = s} (omega (arith, l))) ∙ less_of s

pub turned_held : (s : ℕ) → s < 10 ^ 18 → FitsSigned w64 (pos 0 -ℤ to_z w64 s)
turned_held s l = subst (λ (z : ℤ). FitsSigned w64 z) (sym (short_turned s l)) (neg_held s l)

-- of the digits of a numeral
pub sum_below : (numeral ds : List ℕ) (s : ℕ) → IsNumeralOrNull numeral → length numeral ≤ 18 → ds ≡ without_leading_sign numeral → s ≡ digits_value 10 ds → s < 10 ^ 18
sum_below numeral ds s form l e v =
    let below = short_below (without_leading_sign numeral) (digits_of numeral form) (digits_short numeral l) in
    omega (arith, below, v, ap (λ (xs : List ℕ). digits_value 10 xs) e)

-- its number, where a minus stands first, and where none does
pub short_minus : (numeral ds : List ℕ) (s : ℕ) → s < 10 ^ 18 → ds ≡ without_leading_sign numeral → s ≡ digits_value 10 ds → starts_with_minus numeral ≡ true →
    to_z w64 (of_z w64 (pos 0 -ℤ to_z w64 s)) ≡ whole_number numeral
short_minus numeral ds s l e v t =
    to_z-of_z (turned_held s l) ∙ short_turned s l ∙ ap (λ (n : ℕ). neg_ℤ (pos n)) v ∙ sym (minus_number numeral ds t (ap (λ (xs : List ℕ). digits_value 10 xs) e))

pub short_plain : (numeral ds : List ℕ) (s : ℕ) → s < 10 ^ 18 → ds ≡ without_leading_sign numeral → s ≡ digits_value 10 ds → starts_with_minus numeral ≡ false →
    to_z w64 s ≡ whole_number numeral
short_plain numeral ds s l e v f =
    to_z_pos w64 {n = s} (omega (arith, l)) ∙ ap pos v ∙ sym (plain_number numeral ds f (ap (λ (xs : List ℕ). digits_value 10 xs) e))
