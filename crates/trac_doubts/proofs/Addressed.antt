-- A block by its number in decimal.
use Rattle.std.proofs.Common.{◌≡◌, ℕ, ◌<◌, ◌^◌, Bool, true, false, List, sym, ap, arith, length}
use Rattle.std.specs.Prelude.{MatchOption, None, Option, Some, bytes_eq, decimal, is_some, pos}
use Rattle.std.proofs.lemmas.Bool.{false≢true, false_from_ne_true}
use Rattle.std.proofs.lemmas.Fmt.{length-decimal-le}
use Rattle.std.proofs.lemmas.Slice.Eq.{bytes_eq-Decides}
use Rattle.trac_rules.specs.declared.width.Width.TheVariants.{W64}
use Rattle.trac_rules.specs.Blocks.{block_at, is_address, number_addressed}
use Rattle.trac_rules.specs.Form.{Form, all_items}
use Rattle.trac_rules.specs.Number.{number_of, numeral_of}
use Rattle.trac_rules.specs.Pieces.{bytes_in}
use Rattle.trac_rules.specs.State.{Block, Held}
use Rattle.trac_rules.proofs.Addresses.{spelled}
use Rattle.trac_rules.proofs.Balanced.{first_place_none}
use Rattle.trac_prims.proofs.Addressing.{found_so, none_spelled}

-- of a live block of the number that a text writes: the form is its address where the text is that number in decimal
pub spelled_so : (form : Form) (text : List ℕ) (blocks : List Block) (n : ℕ) (held : Held) (same : Bool) → length blocks < 2 ^ 63 → bytes_in (all_items form) ≡ text →
    number_of W64 (numeral_of text) ≡ Some (pos n) → block_at n blocks ≡ Some held → same ≡ bytes_eq (decimal n) text → same ≡ is_some (number_addressed form blocks)
spelled_so form text blocks n held true small bytes read live is =
    sym (ap is_some (found_so form text blocks small bytes n held live ((bytes_eq-Decides (decimal n) text).0 (sym is))))
spelled_so form text blocks n held false small bytes read live is = sym (ap is_some (none_spelled form text blocks small bytes n read (sym is)))

-- what is said of an option that is there, and of one that is not
pub of_none : {T : Type 0} (P : Type 0) (Q : T → Type 0) (o : Option T) → is_some o ≡ false → MatchOption o P Q → P
of_none P Q None e said = said
of_none P Q (Some x) e said = absurd (false≢true (sym e))

pub of_some : {T : Type 0} (P : Type 0) (Q : T → Type 0) (o : Option T) → is_some o ≡ true → MatchOption o P Q → (x : T) × Q x
of_some P Q None e said = absurd (false≢true e)
of_some P Q (Some x) e said = (x, said)

-- no number of a block is so long
pub too_long : (form : Form) (blocks : List Block) → length blocks < 2 ^ 63 → 20 < length (bytes_in (all_items form)) → false ≡ is_some (number_addressed form blocks)
too_long form blocks small long =
    sym (ap is_some (first_place_none (is_address form blocks) (length blocks) (λ k within.
    false_from_ne_true (is_address form blocks k) (λ is.
    let short = length-decimal-le 20 k (omega arith) (omega (arith, within, small)) (omega (arith, within, small)) in
    absurd (omega (arith, short, long, ap length (spelled form blocks k is)))))))
