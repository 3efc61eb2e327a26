use Rattle.std.proofs.Common.{map, sym, ap, ◌∙◌, Bor, List, ℕ}
use Rattle.std.specs.Prelude.{codes, option_copied}
use Rattle.trac_state_lines.specs.StateLines.{form_line}
use Rattle.trac_state_lines.proofs.Shown.{form_missing, forms_more}
use Rattle.trac_state_lines.proofs.states.forms_into.Goals as goal

pub unreachable-requires : goal.unreachable-requires
unreachable-requires g c =
    form_missing c.args.store.now.forms c.deref-name-items.result.now c.loop-name.name-index _ (option_copied c.get.result)
    (ap (map (λ (name : Bor (List ℕ)). name.now)) c.deref-name-items.ensures.value ∙ c.in-Ok.ensures.names) c.loop-name-test.true
    (ap option_copied c.in_default-get.is) c.get.ensures.value

pub loop-name-preserved : goal.loop-name-preserved
loop-name-preserved g c =
    forms_more (form_line (codes "form")) c.args.store.now.forms c.deref-name-items.result.now c.loop-name.name-index _ c.in-Some.form.now c.args.out.now.items c.loop-name.out.items
    c.form_line_into.new.out.items (ap (map (λ (name : Bor (List ℕ)). name.now)) c.deref-name-items.ensures.value ∙ c.in-Ok.ensures.names) c.loop-name-test.true
    (sym (ap option_copied c.in-Some.is) ∙ c.get.ensures.value) c.loop-name.invariant c.in_ok-form_line_into.ensures
