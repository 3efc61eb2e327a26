-- A form is the address of one block at most.
use Rattle.std.proofs.Common.{◌≡◌, ℕ, ◌<◌, ◌^◌, true, false, List, length, sym, ◌∙◌, arith, ⊎_elim}
use Rattle.std.specs.Prelude.{Some, is_some, bytes_eq, decimal}
use Rattle.std.proofs.lemmas.Bool.{and_parts, cases_Bool}
use Rattle.std.proofs.lemmas.Fmt.{decimal_injective}
use Rattle.std.proofs.lemmas.Slice.Eq.{bytes_eq-Decides}
use Rattle.trac_rules.specs.Blocks.{block_at, is_address, number_addressed}
use Rattle.trac_rules.specs.Form.{Form, all_items}
use Rattle.trac_rules.specs.Pieces.{bytes_in}
use Rattle.trac_rules.specs.State.{Block}
use Rattle.trac_rules.proofs.Balanced.{first_place_some}

pub spelled : (form : Form) (blocks : List Block) (number : ℕ) → is_address form blocks number ≡ true → decimal number ≡ bytes_in (all_items form)
spelled form blocks number is =
    let parts = and_parts (is_some (block_at number blocks)) (bytes_eq (decimal number) (bytes_in (all_items form))) is in
    (bytes_eq-Decides (decimal number) (bytes_in (all_items form))).0 parts.1

pub addressed_alone : (form : Form) (blocks : List Block) (number : ℕ) → length blocks < 2 ^ 64 → number < length blocks →
    is_address form blocks number ≡ true → number_addressed form blocks ≡ Some number
addressed_alone form blocks number few within is =
    first_place_some (is_address form blocks) (length blocks) number within is (λ j before.
    ⊎_elim
    (λ (t : is_address form blocks j ≡ true).
    let same : j ≡ number = decimal_injective j number (omega (arith, before, within, few)) (omega (arith, within, few))
    (spelled form blocks j t ∙ sym (spelled form blocks number is)) in
    absurd (omega (arith, before, same)))
    (λ (t : is_address form blocks j ≡ false). t)
    (cases_Bool (is_address form blocks j)))
