-- What the calls on octal strings give, from the bits of the text that they make.
use Rattle.std.proofs.Common.{◌≡◌, ℕ, ℤ, Bool, List, sym, ap, ◌∙◌}
use Rattle.std.specs.Prelude.{Option, Some}
use Rattle.trac_rules.specs.Computing.{moved, octal_argument}
use Rattle.trac_rules.specs.Effect.{argument, gives}
use Rattle.trac_rules.specs.Octal.{IsOctal, bits_of, octal_tail, text_of}
use Rattle.trac_rules.specs.State.{Storage}
use Rattle.trac_rules.proofs.OctalTexts.{text_from_bits}

-- the bits of two arguments, joined
pub gives_joined : (join : List Bool → List Bool → List Bool) (arguments : List (List ℕ)) (text first second : List ℕ) (storage : Storage) → IsOctal text →
    bits_of text ≡ join (bits_of first) (bits_of second) → first ≡ octal_tail (argument 1 arguments) → second ≡ octal_tail (argument 2 arguments) →
    gives (text_of (join (octal_argument 1 arguments) (octal_argument 2 arguments))) storage ≡ gives text storage
gives_joined join arguments text first second storage octal bits one two =
    let wanted = join (octal_argument 1 arguments) (octal_argument 2 arguments) in
    ap (λ (t : List ℕ). gives t storage) (sym (text_from_bits text wanted octal (bits ∙ (λ i. join (bits_of (one i)) (bits_of (two i))))))

-- the bits of the second argument, moved by the number of the first
pub gives_moved : (by : ℤ → List Bool → List Bool) (arguments : List (List ℕ)) (text given : List ℕ) (read n : ℤ) (number : Option ℤ) (storage : Storage) → IsOctal text →
    bits_of text ≡ by read (bits_of given) → read ≡ n → given ≡ octal_tail (argument 2 arguments) → Some n ≡ number →
    gives (moved by number (octal_argument 2 arguments)) storage ≡ gives text storage
gives_moved by arguments text given read n number storage octal bits same tail is =
    let old = octal_argument 2 arguments in
    ap (λ (t : List ℕ). gives t storage)
    (sym (text_from_bits text (by n old) octal (bits ∙ (λ i. by (same i) (bits_of (tail i)))) ∙ ap (λ o. moved by o old) is))
