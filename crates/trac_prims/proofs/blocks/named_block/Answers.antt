use Rattle.std.proofs.Common.{◌≡◌, ℕ, Some, sym, ap, subst, ◌∙◌}
use Rattle.std.specs.Prelude.{IfOk, Option, option_map}
use Rattle.std.specs.Option.{option_and_then}
use Rattle.std.specs.FinMap as finite
use Rattle.trac_forms.specs.Stored.{storage_in}
use Rattle.trac_rules.specs.Blocks.{named_block_number, number_addressed}
use Rattle.trac_rules.specs.Handling.{named_form}
use Rattle.trac_prims.specs.Blocks.{IsBlock}
use Rattle.trac_prims.proofs.blocks.named_block.Goals as goal

pub returns-clause-found : goal.returns-clause-found
returns-clause-found g c =
    let storage = storage_in c.args.store.now in
    let form = c.in-Some.form.now in
    let held : named_form c.args.args.now storage ≡ Some form = ap (finite.get storage.forms) (sym c.get.ensures) ∙ sym c.in-Some.ensures.value in
    let number : named_block_number c.args.args.now storage ≡ number_addressed form storage.blocks = ap (option_and_then (λ f. number_addressed f storage.blocks)) held in
    subst (λ (n : Option ℕ). IfOk c.addressed.result (λ found. IsBlock n storage.blocks (option_map (λ x. (x.0, x.1.now.held)) found))) (sym number)
    (c.addressed.ensures.found form (sym (c.as_slice.ensures.value ∙ c.in_ok-text.ensures.made)))
