-- The range of numbers is that of the integers which the code holds.
use Rattle.std.proofs.Common.{◌≡◌, ◌-◌, ◌^◌, ◌<◌, ◌+ℤ◌, ◌-ℤ◌, ◌*ℤ◌, Bool, true, false, cond, ℤ, pos, negsuc, FitsSigned, w64, of_z, to_z, to_z-of_z, int_div, Option, None, Some, SomeIff, refl, sym, ap, subst, ◌∙◌, arith, ⊎_elim}
use Rattle.std.proofs.lemmas.Bool.{and_parts, and_from, ltb-true, leb-true, lt-ltb, le-leb, cases_Bool, false_from_ne_true, false≢true}
use Rattle.std.proofs.lemmas.Bool.Decides.{Decides-int_eq}
use Rattle.std.proofs.lemmas.Option.{cond_some, none-some}
use Rattle.std.specs.Prelude.{IfSome}
use Rattle.std.specs.Option.{option_and_then}
use Rattle.std.specs.Int.{CanDivide, w128, Width as Bits}
use Rattle.std.specs.Ordering.{int_eq}
use Rattle.trac_rules.specs.declared.primitive.Operation.{Operation}
use Rattle.trac_rules.specs.declared.primitive.Operation.TheVariants.{Add, Subtract, Multiply, Divide}
use Rattle.trac_rules.specs.declared.width.Width.{Width}
use Rattle.trac_rules.specs.declared.width.Width.TheVariants.{W64, W128}
use Rattle.trac_rules.specs.Computing.{result_of}
use Rattle.trac_rules.specs.Number.{difference_of, fits, if_fits, product_of, quotient_of, sum_of}
use Rattle.trac_rules.proofs.Calculated.{exact, fitted, narrow_fits, narrow_result, result_is_fitted}

-- the integers of the code that are as wide
abbrev pub held : Width → Bits
held W64 = w64
held W128 = w128

pub in_range : (width : Width) (n : ℤ) → FitsSigned (held width) n → fits width n ≡ true
in_range W64 (pos k) h = lt-ltb k (2 ^ 63) h.sfits
in_range W64 (negsuc k) h = and_from _ _ (le-leb k (2 ^ 63 - 1) (omega (arith, h.sfits))) refl
in_range W128 (pos k) h = lt-ltb k (2 ^ 127) h.sfits
in_range W128 (negsuc k) h = and_from _ _ (le-leb k (2 ^ 127 - 1) (omega (arith, h.sfits))) refl

pub is_held : (width : Width) (n : ℤ) → fits width n ≡ true → FitsSigned (held width) n
is_held W64 (pos k) t = record { sfits = ltb-true k (2 ^ 63) t }
is_held W64 (negsuc k) t = record { sfits = omega (arith, leb-true k (2 ^ 63 - 1) (and_parts _ _ t).0) }
is_held W128 (pos k) t = record { sfits = ltb-true k (2 ^ 127) t }
is_held W128 (negsuc k) t = record { sfits = omega (arith, leb-true k (2 ^ 127 - 1) (and_parts _ _ t).0) }

-- a result that is there where it can be held is the one of the range
pub held_if_fits : (width : Width) (r : Option ℤ) (n : ℤ) → SomeIff r (FitsSigned (held width) n) n → r ≡ if_fits width n
held_if_fits width None n never = let f : fits width n ≡ false = false_from_ne_true (fits width n) (λ t. never (is_held width n t)) in rw f refl
held_if_fits width (Some x) n h = let t : fits width n ≡ true = in_range width n h.0 in rw t (ap Some h.1)

-- 0 has no bits, and a divisor that is not 0 has some
bits_of_zero : (width : Width) → of_z (held width) (pos 0) ≡ 0
bits_of_zero W64 = refl
bits_of_zero W128 = refl

bits_above_zero : (width : Width) (b : ℤ) → FitsSigned (held width) b → (b ≡ pos 0 → ⊥) → 0 < of_z (held width) b
bits_above_zero W64 (pos k) h n = omega (arith, λ (e : k ≡ 0). n (ap pos e))
bits_above_zero W64 (negsuc k) h n = omega (arith, h.sfits)
bits_above_zero W128 (pos k) h n = omega (arith, λ (e : k ≡ 0). n (ap pos e))
bits_above_zero W128 (negsuc k) h n = omega (arith, h.sfits)

quotient_if_fits : (width : Width) (r : Option ℤ) (a b : ℤ) → FitsSigned (held width) b → SomeIff r (CanDivide (held width) a b) (int_div a b) → r ≡ quotient_of width a b
unfolding quotient_of
quotient_if_fits width None a b h never =
    ⊎_elim
    (λ (t : int_eq b (pos 0) ≡ true). rw t refl)
    (λ (f : int_eq b (pos 0) ≡ false).
    rw f (held_if_fits width None (int_div a b) (λ k. never (bits_above_zero width b h (λ e. absurd (false≢true (sym f ∙ (Decides-int_eq b (pos 0)).1 e))), k))))
    (cases_Bool (int_eq b (pos 0)))
quotient_if_fits width (Some x) a b h there =
    ⊎_elim
    (λ (t : int_eq b (pos 0) ≡ true).
    let zero : b ≡ pos 0 = (Decides-int_eq b (pos 0)).0 t in
    absurd (omega (arith, ap (of_z (held width)) zero, bits_of_zero width, there.0.0)))
    (λ (f : int_eq b (pos 0) ≡ false). rw f (held_if_fits width (Some x) (int_div a b) (there.0.1, there.1)))
    (cases_Bool (int_eq b (pos 0)))

-- ---- what std's checked operations return

abbrev pub IsChecked : Operation → Width → ℤ → ℤ → Option ℤ → Type 0
IsChecked Add width a b r = SomeIff r (FitsSigned (held width) (a +ℤ b)) (a +ℤ b)
IsChecked Subtract width a b r = SomeIff r (FitsSigned (held width) (a -ℤ b)) (a -ℤ b)
IsChecked Multiply width a b r = SomeIff r (FitsSigned (held width) (a *ℤ b)) (a *ℤ b)
IsChecked Divide width a b r = SomeIff r (CanDivide (held width) a b) (int_div a b)

-- is the result of that width
pub checked : (operation : Operation) (width : Width) (a b : ℤ) (r : Option ℤ) → FitsSigned (held width) b → IsChecked operation width a b r → r ≡ result_of operation width a b
unfolding sum_of difference_of product_of
checked Add width a b r h is = held_if_fits width r (a +ℤ b) is
checked Subtract width a b r h is = held_if_fits width r (a -ℤ b) is
checked Multiply width a b r h is = held_if_fits width r (a *ℤ b) is
checked Divide width a b r h is = quotient_if_fits width r a b h is

-- ---- one width from the other

pub of_narrow : (operation : Operation) (width : Width) (a b n : ℤ) → result_of operation W64 a b ≡ Some n → Some n ≡ result_of operation width a b
of_narrow operation W64 a b n e = sym e
of_narrow operation W128 a b n e = sym (narrow_result operation a b n e)

fitted_twice : (width : Width) (o : Option ℤ) → fitted width (fitted W128 o) ≡ fitted width o
fitted_twice width None = refl
fitted_twice width (Some n) = by width (fits W128 n) refl
  where
    by : (w : Width) (t : Bool) → fits W128 n ≡ t → fitted w (cond t (Some n) None) ≡ if_fits w n
    by w true t = refl
    by W128 false f = rw f refl
    by W64 false f = let none : fits W64 n ≡ false = false_from_ne_true (fits W64 n) (λ t. false≢true (sym f ∙ narrow_fits n t)) in rw none refl

of_wide : (operation : Operation) (width : Width) (a b : ℤ) (r : Option ℤ) → r ≡ result_of operation W128 a b → fitted width r ≡ result_of operation width a b
of_wide operation width a b r e =
    ap (fitted width) (e ∙ result_is_fitted operation W128 a b) ∙ fitted_twice width (exact operation a b) ∙ sym (result_is_fitted operation width a b)

-- ---- numbers as the code holds them

fits_of_fitted : (width : Width) (o : Option ℤ) (n : ℤ) → fitted width o ≡ Some n → fits width n ≡ true
fits_of_fitted width None n e = absurd (none-some n e)
fits_of_fitted width (Some m) n e = let kept = cond_some (fits width m) m n e in subst (λ (k : ℤ). fits width k ≡ true) kept.1 kept.0

fits_of_result : (operation : Operation) (width : Width) (a b n : ℤ) → result_of operation width a b ≡ Some n → fits width n ≡ true
fits_of_result operation width a b n e = fits_of_fitted width (exact operation a b) n (sym (result_is_fitted operation width a b) ∙ e)

pub same_wide : (n : ℤ) → fits W128 n ≡ true → to_z w128 (of_z w128 n) ≡ n
same_wide n t = to_z-of_z (is_held W128 n t)

-- a number of 64 bits, made one of 128
pub same_narrow : (n : ℤ) → fits W64 n ≡ true → to_z w128 (of_z w128 (to_z w64 (of_z w64 n))) ≡ n
same_narrow n t = ap (λ (m : ℤ). to_z w128 (of_z w128 m)) (to_z-of_z (is_held W64 n t)) ∙ same_wide n (narrow_fits n t)

-- and one of 128 bits that is small enough, made one of 64
narrow_held : (x z a : ℤ) → (x ≡ z) × (fits W64 z ≡ true) → z ≡ a → to_z w64 (of_z w64 x) ≡ a
narrow_held x z a h s = to_z-of_z (is_held W64 x (subst (λ (k : ℤ). fits W64 k ≡ true) (sym h.0) h.1)) ∙ h.0 ∙ s

if_some : (r p : Option ℤ) → r ≡ p → IfSome r (λ n. p ≡ Some n)
if_some None p e = tt
if_some (Some n) p e = sym e

-- what std returns of two numbers of 64 bits
pub narrow_checked : (operation : Operation) (a b x y z w : ℤ) (r : Option ℤ) → (x ≡ z) × (fits W64 z ≡ true) → z ≡ a → (y ≡ w) × (fits W64 w ≡ true) → w ≡ b →
    IsChecked operation W64 (to_z w64 (of_z w64 x)) (to_z w64 (of_z w64 y)) r → IfSome r (λ n. result_of operation W64 a b ≡ Some n)
narrow_checked operation a b x y z w r first za second wb is =
    let ex = narrow_held x z a first za in
    let ey = narrow_held y w b second wb in
    let small : fits W64 (to_z w64 (of_z w64 y)) ≡ true = subst (λ (k : ℤ). fits W64 k ≡ true) (wb ∙ sym ey) second.1 in
    if_some r (result_of operation W64 a b)
    (checked operation W64 (to_z w64 (of_z w64 x)) (to_z w64 (of_z w64 y)) r (is_held W64 (to_z w64 (of_z w64 y)) small) is
    ∙ ap (λ (k : ℤ). result_of operation W64 k (to_z w64 (of_z w64 y))) ex ∙ ap (λ (k : ℤ). result_of operation W64 a k) ey)

-- ---- results as the code makes them

pub narrow_made : (operation : Operation) (width : Width) (a b n : ℤ) → result_of operation W64 a b ≡ Some n →
    Some (to_z w128 (of_z w128 (to_z w64 (of_z w64 n)))) ≡ result_of operation width a b
narrow_made operation width a b n e = ap Some (same_narrow n (fits_of_result operation W64 a b n e)) ∙ of_narrow operation width a b n e

-- what std returns of two numbers of 128 bits
pub wide_made : (operation : Operation) (width : Width) (a b : ℤ) (r : Option ℤ) → FitsSigned w128 b → IsChecked operation W128 a b r →
    option_and_then (if_fits width) r ≡ result_of operation width a b
wide_made operation width a b None h is = of_wide operation width a b None (checked operation W128 a b None h is)
wide_made operation width a b (Some n) h is = of_wide operation width a b (Some n) (checked operation W128 a b (Some n) h is)
