-- Octal digits and their three bits.
use Rattle.std.proofs.Common.{◌≡◌, ℕ, zero, suc, ◌+◌, ◌-◌, ◌*◌, ◌/◌, ◌%◌, ◌^◌, ◌≤◌, Bool, true, false, [], ◌∷◌, ◌++◌, take, drop, refl, ap, ◌∙◌, arith}
use Rattle.std.specs.Prelude.{◌==◌, ◌&&◌, ◌||◌, not, bit_and, bit_or, bit_xor}
use Rattle.std.proofs.lemmas.Bool.{eqb-true, agree_below, agree_below_at}
use Rattle.trac_rules.specs.declared.octals.TheConstants.{ZERO}
use Rattle.trac_rules.specs.Octal.{digit_bits, digit_of, is_octal_digit, is_odd}
use Rattle.trac_rules.proofs.OctalTexts.{digit_range}

-- the three bits
abbrev pub four : ℕ → Bool
four b = is_odd ((b - ZERO) / 4)

abbrev pub two : ℕ → Bool
two b = is_odd ((b - ZERO) / 2)

abbrev pub one : ℕ → Bool
one b = is_odd (b - ZERO)

pub digit_bits-digit_of : (x y z : Bool) → digit_bits (digit_of x y z) ≡ x ∷ y ∷ z ∷ []
digit_bits-digit_of true true true = refl
digit_bits-digit_of true true false = refl
digit_bits-digit_of true false true = refl
digit_bits-digit_of true false false = refl
digit_bits-digit_of false true true = refl
digit_bits-digit_of false true false = refl
digit_bits-digit_of false false true = refl
digit_bits-digit_of false false false = refl

pub digit_of_is_octal : (x y z : Bool) → is_octal_digit (digit_of x y z) ≡ true
digit_of_is_octal true true true = refl
digit_of_is_octal true true false = refl
digit_of_is_octal true false true = refl
digit_of_is_octal true false false = refl
digit_of_is_octal false true true = refl
digit_of_is_octal false true false = refl
digit_of_is_octal false false true = refl
digit_of_is_octal false false false = refl

-- a test that passes at the digits of the eight values passes at each digit
pub at_digit : (f : ℕ → Bool) → agree_below (λ v. f (ZERO + v)) (λ _. true) 8 ≡ true → (b : ℕ) → is_octal_digit b ≡ true → f b ≡ true
at_digit f table b h =
    let range = digit_range b h in
    let back : ZERO + (b - ZERO) ≡ b = omega (arith, range.0) in
    rw back at (agree_below_at (λ v. f (ZERO + v)) (λ _. true) 8 (b - ZERO) table (omega (arith, range.0, range.1)))

-- the same of two digits
pub at_digits : (f : ℕ → ℕ → Bool) → agree_below (λ v. agree_below (λ w. f (ZERO + v) (ZERO + w)) (λ _. true) 8) (λ _. true) 8 ≡ true →
    (x y : ℕ) → is_octal_digit x ≡ true → is_octal_digit y ≡ true → f x y ≡ true
at_digits f table x y hx hy =
    at_digit (λ b. f x b) (at_digit (λ b. agree_below (λ w. f b (ZERO + w)) (λ _. true) 8) table x hx) y hy

-- ---- operations on digits

pub or_of_digits : (x y : ℕ) → is_octal_digit x ≡ true → is_octal_digit y ≡ true → bit_or x y ≡ digit_of (four x || four y) (two x || two y) (one x || one y)
or_of_digits x y hx hy =
    eqb-true _ _ (at_digits (λ a b. bit_or a b == digit_of (four a || four b) (two a || two b) (one a || one b)) refl x y hx hy)

pub and_of_digits : (x y : ℕ) → is_octal_digit x ≡ true → is_octal_digit y ≡ true → bit_and x y ≡ digit_of (four x && four y) (two x && two y) (one x && one y)
and_of_digits x y hx hy =
    eqb-true _ _ (at_digits (λ a b. bit_and a b == digit_of (four a && four b) (two a && two b) (one a && one b)) refl x y hx hy)

pub not_of_digit : (x : ℕ) → is_octal_digit x ≡ true → bit_xor x 7 ≡ digit_of (not (four x)) (not (two x)) (not (one x))
not_of_digit x h =
    eqb-true _ _ (at_digit (λ a. bit_xor a 7 == digit_of (not (four a)) (not (two a)) (not (one a))) refl x h)

-- ---- three of the six bits of two digits

-- the digit of them, after so many skipped bits
abbrev pub across : ℕ → ℕ → ℕ → ℕ
across x y s = ZERO + ((x - ZERO) * 8 + (y - ZERO)) / 2 ^ (3 - s) % 8

pub digit_bits-across : (x y s : ℕ) → is_octal_digit x ≡ true → is_octal_digit y ≡ true → s ≤ 3 → digit_bits (across x y s) ≡ take 3 (drop s (digit_bits x ++ digit_bits y))
digit_bits-across x y zero hx hy l =
    ap digit_bits (eqb-true _ _ (at_digits (λ a b. across a b 0 == digit_of (four a) (two a) (one a)) refl x y hx hy))
    ∙ digit_bits-digit_of (four x) (two x) (one x)
digit_bits-across x y (suc zero) hx hy l =
    ap digit_bits (eqb-true _ _ (at_digits (λ a b. across a b 1 == digit_of (two a) (one a) (four b)) refl x y hx hy))
    ∙ digit_bits-digit_of (two x) (one x) (four y)
digit_bits-across x y (suc (suc zero)) hx hy l =
    ap digit_bits (eqb-true _ _ (at_digits (λ a b. across a b 2 == digit_of (one a) (four b) (two b)) refl x y hx hy))
    ∙ digit_bits-digit_of (one x) (four y) (two y)
digit_bits-across x y (suc (suc (suc zero))) hx hy l =
    ap digit_bits (eqb-true _ _ (at_digits (λ a b. across a b 3 == digit_of (four b) (two b) (one b)) refl x y hx hy))
    ∙ digit_bits-digit_of (four y) (two y) (one y)
digit_bits-across x y (suc (suc (suc (suc s)))) hx hy l = absurd (omega arith)
