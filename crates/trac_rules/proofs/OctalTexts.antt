-- Octal strings: the longest tail, and the text of the bits of a text.
use Rattle.std.proofs.Common.{◌≡◌, ℕ, ◌+◌, ◌-◌, ◌/◌, ◌<◌, ◌≤◌, Bool, true, List, [], ◌∷◌, refl, sym, ap, ◌∙◌, arith, ⊎_elim}
use Rattle.std.specs.Prelude.{◌==◌, nat_le}
use Rattle.std.proofs.lemmas.Bool.{and_parts, leb-true, eqb-true, agree_below_at}
use Rattle.trac_rules.specs.declared.octals.TheConstants.{ZERO, SEVEN}
use Rattle.trac_rules.specs.Octal.{IsOctal, bits_of, digit_of, is_octal, is_octal_digit, is_odd, octal_tail, text_of}
use Rattle.trac_rules.proofs.Numerals.{longest_tail_passes, longest_tail_whole}

-- ---- the longest tail

pub octal_tail-octal : (text : List ℕ) → IsOctal text → octal_tail text ≡ text
octal_tail-octal [] h = refl
octal_tail-octal (b ∷ rest) h = longest_tail_whole is_octal b rest h

pub octal_tail_is_octal : (text : List ℕ) → IsOctal (octal_tail text)
octal_tail_is_octal text =
    ⊎_elim (λ (none : octal_tail text ≡ []). rw none refl) (λ (all : is_octal (octal_tail text) ≡ true). all) (longest_tail_passes is_octal text)

-- ---- digits and their bits

-- a digit is at least `0` and at most `7`
pub digit_range : (b : ℕ) → is_octal_digit b ≡ true → (ZERO ≤ b) × (b ≤ SEVEN)
digit_range b h =
    let both = and_parts (nat_le ZERO b) (nat_le b SEVEN) h in
    (leb-true ZERO b both.0, leb-true b SEVEN both.1)

pub digit_of-value : (v : ℕ) → v < 8 → digit_of (is_odd (v / 4)) (is_odd (v / 2)) (is_odd v) ≡ ZERO + v
digit_of-value v l =
    eqb-true _ _ (agree_below_at (λ n. digit_of (is_odd (n / 4)) (is_odd (n / 2)) (is_odd n) == ZERO + n) (λ _. true) 8 v refl l)

pub digit_of-bits : (b : ℕ) → is_octal_digit b ≡ true → digit_of (is_odd ((b - ZERO) / 4)) (is_odd ((b - ZERO) / 2)) (is_odd (b - ZERO)) ≡ b
digit_of-bits b h =
    let range = digit_range b h in
    digit_of-value (b - ZERO) (omega (arith, range.0, range.1)) ∙ omega (arith, range.0, range.1)

pub text_of-bits_of : (text : List ℕ) → IsOctal text → text_of (bits_of text) ≡ text
text_of-bits_of [] h = refl
text_of-bits_of (b ∷ text) h =
    let both = and_parts (is_octal_digit b) (is_octal text) h in
    rw (digit_of-bits b both.0, text_of-bits_of text both.1) refl

pub text_from_bits : (text : List ℕ) (bits : List Bool) → IsOctal text → bits_of text ≡ bits → text ≡ text_of bits
text_from_bits text bits h e = sym (text_of-bits_of text h) ∙ ap text_of e
