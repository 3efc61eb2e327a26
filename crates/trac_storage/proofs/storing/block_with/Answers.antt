-- The names are those of the forms, and all of them move.
use Rattle.std.proofs.Common.{List, ℕ, refl, ap, ◌∙◌, arith}
use Rattle.std.specs.Prelude.{Vec}
use Rattle.std.proofs.lemmas.List.{take_all}
use Rattle.trac_rules.specs.Form.{Form}
use Rattle.trac_rules.specs.State.{Storage}
use Rattle.trac_rules.specs.Undone.{names_in}
use Rattle.trac_change.specs.Changed.{named_forms}
use Rattle.trac_storage.proofs.Entries.{names_next}
use Rattle.trac_storage.proofs.storing.block_with.Goals as goal

pub loop-name-preserved : goal.loop-name-preserved
loop-name-preserved g c =
    let at = c.loop-name in
    names_next at.names.items c.push.new.self.items c.in_ok-from_slice.field-0 c.args.forms.now at.name-index c.loop-name-item.result (omega (arith, c.loop-name-test.true)) c.loop-name-item.is
    c.in_ok-push.ensures.items (c.in_ok-from_slice.ensures.items ∙ c.as_slice.ensures.value) at.invariant

pub returns-clause-held : goal.returns-clause-held
returns-clause-held g c =
    let names = c.loop-name.invariant ∙ ap (λ (forms : List (Vec ℕ g.row.A.Denot × Form)). names_in (named_forms forms)) (take_all c.loop-name.name-index c.args.forms.now c.loop-name-test.false) in
    rw (c.move_into.ensures.block, names, ap (λ (s : Storage). s.forms) c.in_ok-store.ensures.forms) refl
