-- std reads a numeral as the number that it writes.
use Rattle.std.proofs.Common.{◌≡◌, ◌∙◌, ◌<◌, ℕ, length, arith, true, ℤ, w64, of_z, to_z, List, [], None, Some, Result, Ok, Err, refl, sym, ap, subst, ⊎_elim}
use Rattle.std.proofs.lemmas.Str.{IsUtf8-from_ascii, IsUtf8-nil}
use Rattle.std.specs.Int.{w128}
use Rattle.std.specs.Result.{result_ok}
use Rattle.std.specs.Str.{IsUtf8}
use Rattle.std.specs.Str.Parse.{ParsesSigned, signed_digits_value}
use Rattle.trac_num.proofs.Digits.{all_digits_from}
use Rattle.trac_num.proofs.Numerals.{numeral_parts, ascii_numeral}
use Rattle.trac_num.proofs.Range.{held, held_if_fits, in_range, same_narrow}
use Rattle.trac_rules.specs.declared.width.Width.{Width}
use Rattle.trac_rules.specs.declared.width.Width.TheVariants.{W64, W128}
use Rattle.trac_rules.proofs.Calculated.{narrow_number}
use Rattle.trac_rules.specs.Number.{IsNumeralOrNull, fits, is_numeral, number_of, whole_number}

pub utf8_numeral : (numeral : List ℕ) → IsNumeralOrNull numeral → IsUtf8 numeral
utf8_numeral numeral form =
    ⊎_elim
    (λ (e : numeral ≡ []). rw e IsUtf8-nil)
    (λ (t : is_numeral numeral ≡ true). IsUtf8-from_ascii numeral (ascii_numeral numeral t))
    form

-- so long a text is not empty
pub longer_is_numeral : (numeral : List ℕ) → IsNumeralOrNull numeral → 18 < length numeral → is_numeral numeral ≡ true
longer_is_numeral numeral form long =
    ⊎_elim (λ (e : numeral ≡ []). absurd (omega (arith, long, ap (λ (xs : List ℕ). length xs) e))) (λ (t : is_numeral numeral ≡ true). t) form

-- a numeral, read as an integer of the code that is as wide
pub parsed_number : {E : Type 0} (width : Width) (numeral : List ℕ) (r : Result ℤ E) → is_numeral numeral ≡ true → ParsesSigned (held width) 10 numeral r → result_ok r ≡ number_of width numeral
unfolding number_of whole_number
parsed_number width numeral (Ok x) t h = let f = in_range width (signed_digits_value 10 numeral) h.0.1 in rw f (ap Some h.1)
parsed_number width numeral (Err e) t h =
    let parts = numeral_parts numeral t in
    held_if_fits width None (signed_digits_value 10 numeral) (λ f. h ((parts.0, all_digits_from _ parts.1), f))

of_narrow_number : (width : Width) (numeral : List ℕ) (n : ℤ) → Some n ≡ number_of W64 numeral → Some n ≡ number_of width numeral
of_narrow_number W64 numeral n e = e
of_narrow_number W128 numeral n e = sym (narrow_number numeral n (sym e))

pub number_of_narrow : {E : Type 0} (width : Width) (numeral : List ℕ) (r : Result ℤ E) (n : ℤ) → is_numeral numeral ≡ true → ParsesSigned w64 10 numeral r → r ≡ Ok n →
    Some (to_z w128 (of_z w128 (to_z w64 (of_z w64 n)))) ≡ number_of width numeral
number_of_narrow {E} width numeral (Ok m) n t h was =
    let same : m ≡ n = cc in
    rw (← same) (ap Some (same_narrow m (subst (λ (k : ℤ). fits W64 k ≡ true) (sym h.1) (in_range W64 (signed_digits_value 10 numeral) h.0.1))) ∙ of_narrow_number width numeral m (parsed_number {E = E} W64 numeral (Ok m) t h))
number_of_narrow {E} width numeral (Err e) n t h was = absurd (cc)

pub no_narrow_number : {E : Type 0} (numeral : List ℕ) (r : Result ℤ E) (e : E) → is_numeral numeral ≡ true → ParsesSigned w64 10 numeral r → r ≡ Err e → None ≡ number_of W64 numeral
no_narrow_number numeral r e t h was = ap result_ok (sym was) ∙ parsed_number W64 numeral r t h

-- a number of 64 bits that is known to be the numeral's
pub number_of_short : (width : Width) (numeral : List ℕ) (n : ℤ) → n ≡ whole_number numeral → fits W64 n ≡ true → Some (to_z w128 (of_z w128 (to_z w64 (of_z w64 n)))) ≡ number_of width numeral
unfolding number_of
number_of_short width numeral n e t =
    let kept : Some n ≡ number_of W64 numeral = rw (← e) (rw t refl) in
    ap Some (same_narrow n t) ∙ of_narrow_number width numeral n kept
