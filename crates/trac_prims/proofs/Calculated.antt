-- A result after a prefix.
use Rattle.std.proofs.Common.{◌≡◌, List, ℕ, ◌++◌, ap, ◌∙◌}
use Rattle.std.specs.Prelude.{ℤ, Option, None, Some}
use Rattle.trac_rules.specs.declared.width.Width.{Width}
use Rattle.trac_rules.specs.Number.{after_prefix, calculated, number_of, number_text, numeral_of, on_both, prefix_of}

pub calculated-None : (operation : Width → ℤ → ℤ → Option ℤ) (width : Width) (first second : List ℕ) → None ≡ on_both (operation width) (number_of width (numeral_of first)) (number_of width (numeral_of second)) →
    None ≡ calculated operation width first second
unfolding calculated
calculated-None operation width first second e = ap (after_prefix (prefix_of first)) e

pub calculated-Some : (operation : Width → ℤ → ℤ → Option ℤ) (width : Width) (first second text : List ℕ) (n : ℤ) → Some n ≡ on_both (operation width) (number_of width (numeral_of first)) (number_of width (numeral_of second)) →
    text ≡ prefix_of first ++ number_text n → Some text ≡ calculated operation width first second
unfolding calculated
calculated-Some operation width first second text n e is = ap Some is ∙ ap (after_prefix (prefix_of first)) e
