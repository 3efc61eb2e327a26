-- A quotient is cut toward zero, and what is printed is read back.
use Rattle.std.proofs.Common.{◌≡◌, ◌+ℤ◌, ◌-ℤ◌, ◌*ℤ◌, ℕ, zero, suc, ◌-◌, ◌/◌, ◌^◌, ◌<◌, ◌==◌, Bool, true, false, cond, ℤ, pos, negsuc, neg_ℤ, unsigned_abs, int_div, int_rem, List, ◌∷◌, length, get_or, Option, None, Some, refl, sym, ap, ◌∙◌, arith, ⊎_elim}
use Rattle.std.proofs.Math.Nat.{div-mul-le_self}
use Rattle.std.proofs.lemmas.Bool.{and_parts, and_from, cases_Bool, false≢true, le-leb, lt-ltb, ltb-true, leb-true, ne_eqb}
use Rattle.std.proofs.lemmas.Bool.Decides.{Decides-int_eq}
use Rattle.std.proofs.lemmas.Fmt.{decimal_is_IsNumeral_wide}
use Rattle.std.proofs.lemmas.Int.{quot-rem, rem_below, unsigned_abs-mul}
use Rattle.std.proofs.lemmas.Option.{cond_some, none-some}
use Rattle.std.proofs.lemmas.Str.Parse.{digit_at, numerals_by_value, tells_all_ascii_digits}
use Rattle.std.specs.Fmt.{decimal}
use Rattle.std.specs.Ordering.{int_eq}
use Rattle.std.specs.Str.{all_ascii_digits}
use Rattle.std.specs.Str.Parse.{digits_value}
use Rattle.trac_rules.specs.declared.primitive.Operation.{Operation}
use Rattle.trac_rules.specs.declared.primitive.Operation.TheVariants.{Add, Subtract, Multiply, Divide}
use Rattle.trac_rules.specs.declared.width.Width.{Width}
use Rattle.trac_rules.specs.declared.width.Width.TheVariants.{W64, W128}
use Rattle.trac_rules.specs.Computing.{result_of}
use Rattle.trac_rules.specs.Number.{IsCutQuotient, difference_of, fits, if_fits, is_numeral, number_of, number_text, product_of, quotient_of, sum_of, whole_number}

-- ---- quotients

some_size : (b : ℤ) → (b ≡ pos 0 → ⊥) → 0 < unsigned_abs b
some_size (pos zero) n = absurd (n refl)
some_size (pos (suc k)) n = omega arith
some_size (negsuc k) n = omega arith

size_of_minus : (k : ℕ) → unsigned_abs (neg_ℤ (pos k)) ≡ k
size_of_minus zero = refl
size_of_minus (suc k) = refl

size_of_quotient : (a b : ℤ) → unsigned_abs (int_div a b) ≡ unsigned_abs a / unsigned_abs b
size_of_quotient (pos m) (pos n) = refl
size_of_quotient (pos m) (negsuc n) = size_of_minus (m / suc n)
size_of_quotient (negsuc m) (pos n) = size_of_minus (suc m / n)
size_of_quotient (negsuc m) (negsuc n) = refl

pub quotient_is_cut : (width : Width) (a b q : ℤ) → quotient_of width a b ≡ Some q → IsCutQuotient a b q
unfolding quotient_of
quotient_is_cut width a b q e =
    ⊎_elim
    (λ (t : int_eq b (pos 0) ≡ true). let missing = rw t at e in absurd (none-some q missing))
    (λ (f : int_eq b (pos 0) ≡ false).
    let kept : if_fits width (int_div a b) ≡ Some q = rw f at e in
    let same : int_div a b ≡ q = (cond_some (fits width (int_div a b)) (int_div a b) q kept).1 in
    rw (← same) (record {
      remainder = int_rem a b;
      whole = sym (quot-rem a b);
      smaller = rem_below a b (some_size b (λ z. false≢true (sym f ∙ (Decides-int_eq b (pos 0)).1 z)));
      within = rw (unsigned_abs-mul (int_div a b) b) (rw (size_of_quotient a b) (div-mul-le_self (unsigned_abs a) (unsigned_abs b)));
    }))
    (cases_Bool (int_eq b (pos 0)))

-- ---- printed numbers

-- what is known of the decimal text of a number
record IsDecimal (n : ℕ) (text : List ℕ) : Type 0 where
  some : 0 < length text
  digits : all_ascii_digits text ≡ true
  no_plus : (get_or text 0 0 == 43) ≡ false
  no_minus : (get_or text 0 0 == 45) ≡ false
  value : digits_value 10 text ≡ n

decimal_is : (n : ℕ) → n < 10 ^ 64 → IsDecimal n (decimal n)
decimal_is n l =
    let known = decimal_is_IsNumeral_wide n l in
    let first = digit_at (decimal n) 0 known.0.1 known.0.0 in
    record {
      some = known.0.0;
      digits = (numerals_by_value (λ xs. all_ascii_digits xs ≡ true) tells_all_ascii_digits).from (decimal n) known.0.1;
      no_plus = ne_eqb (get_or (decimal n) 0 0) 43 (λ e. omega (arith, first.0, e));
      no_minus = ne_eqb (get_or (decimal n) 0 0) 45 (λ e. omega (arith, first.0, e));
      value = known.1;
    }

plain_form : (n : ℕ) (text : List ℕ) → IsDecimal n text → is_numeral text ≡ true
plain_form n text d = rw d.no_minus (rw d.no_plus (and_from _ _ (lt-ltb 0 (length text) d.some) d.digits))

plain_number : (n : ℕ) (text : List ℕ) → IsDecimal n text → whole_number text ≡ pos n
unfolding whole_number
plain_number n text d = rw d.no_minus (rw d.no_plus (ap pos d.value))

minus_form : (n : ℕ) (text : List ℕ) → IsDecimal n text → is_numeral (45 ∷ text) ≡ true
minus_form n text d = and_from _ _ (lt-ltb 0 (length text) d.some) d.digits

minus_number : (n : ℕ) (text : List ℕ) → IsDecimal n text → whole_number (45 ∷ text) ≡ neg_ℤ (pos n)
unfolding whole_number
minus_number n text d = ap (λ k. neg_ℤ (pos k)) d.value

narrow_plus : (width : Width) (k : ℕ) → fits width (pos k) ≡ true → k < 10 ^ 64
narrow_plus W64 k t = omega (arith, ltb-true k (2 ^ 63) t)
narrow_plus W128 k t = omega (arith, ltb-true k (2 ^ 127) t)

narrow_minus : (width : Width) (k : ℕ) → fits width (negsuc k) ≡ true → suc k < 10 ^ 64
narrow_minus W64 k t = omega (arith, leb-true k (2 ^ 63 - 1) (and_parts _ _ t).0)
narrow_minus W128 k t = omega (arith, leb-true k (2 ^ 127 - 1) (and_parts _ _ t).0)

pub printed_form : (width : Width) (n : ℤ) → fits width n ≡ true → is_numeral (number_text n) ≡ true
printed_form width (pos k) t = plain_form k (decimal k) (decimal_is k (narrow_plus width k t))
printed_form width (negsuc k) t = minus_form (suc k) (decimal (suc k)) (decimal_is (suc k) (narrow_minus width k t))

pub printed_number : (width : Width) (n : ℤ) → fits width n ≡ true → number_of width (number_text n) ≡ Some n
unfolding number_of
printed_number width (pos k) t = rw (plain_number k (decimal k) (decimal_is k (narrow_plus width k t))) (rw t refl)
printed_number width (negsuc k) t = rw (minus_number (suc k) (decimal (suc k)) (decimal_is (suc k) (narrow_minus width k t))) (rw t refl)

-- ---- both widths

pub narrow_fits : (n : ℤ) → fits W64 n ≡ true → fits W128 n ≡ true
narrow_fits (pos k) t = lt-ltb k (2 ^ 127) (omega (arith, ltb-true k (2 ^ 63) t))
narrow_fits (negsuc k) t = and_from _ _ (le-leb k (2 ^ 127 - 1) (omega (arith, leb-true k (2 ^ 63 - 1) (and_parts _ _ t).0))) refl

if_narrow : (m n : ℤ) → if_fits W64 m ≡ Some n → if_fits W128 m ≡ Some n
if_narrow m n e =
    let kept = cond_some (fits W64 m) m n e in
    rw (narrow_fits m kept.0) (ap Some kept.1)

pub narrow_number : (numeral : List ℕ) (n : ℤ) → number_of W64 numeral ≡ Some n → number_of W128 numeral ≡ Some n
unfolding number_of
narrow_number numeral n e = if_narrow (whole_number numeral) n e

-- an operation without a range; none for a divisor of 0
abbrev pub exact : Operation → ℤ → ℤ → Option ℤ
exact Add a b = Some (a +ℤ b)
exact Subtract a b = Some (a -ℤ b)
exact Multiply a b = Some (a *ℤ b)
exact Divide a b = cond (int_eq b (pos 0)) None (Some (int_div a b))

-- what there is, if it fits
abbrev pub fitted : Width → Option ℤ → Option ℤ
fitted width None = None
fitted width (Some n) = if_fits width n

pub result_is_fitted : (operation : Operation) (width : Width) (a b : ℤ) → result_of operation width a b ≡ fitted width (exact operation a b)
unfolding sum_of difference_of product_of quotient_of
result_is_fitted Add width a b = refl
result_is_fitted Subtract width a b = refl
result_is_fitted Multiply width a b = refl
result_is_fitted Divide width a b = by (int_eq b (pos 0))
  where
    by : (t : Bool) → cond t None (if_fits width (int_div a b)) ≡ fitted width (cond t None (Some (int_div a b)))
    by true = refl
    by false = refl

narrow_fitted : (o : Option ℤ) (n : ℤ) → fitted W64 o ≡ Some n → fitted W128 o ≡ Some n
narrow_fitted None n e = e
narrow_fitted (Some m) n e = if_narrow m n e

pub narrow_result : (operation : Operation) (a b n : ℤ) → result_of operation W64 a b ≡ Some n → result_of operation W128 a b ≡ Some n
narrow_result operation a b n e =
    result_is_fitted operation W128 a b ∙ narrow_fitted (exact operation a b) n (sym (result_is_fitted operation W64 a b) ∙ e)
