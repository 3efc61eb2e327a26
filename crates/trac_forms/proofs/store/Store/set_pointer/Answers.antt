-- The form of the name is changed in its entry, where it has one.
use Rattle.std.proofs.Common.{length, sym, ap, ◌∙◌}
use Rattle.std.specs.Prelude.{option_map}
use Rattle.trac_rules.specs.Form.{Form, all_items, pointed_at}
use Rattle.trac_forms.proofs.Tables.{changed_in_place, form_found, kept_order, no_form, none_changed}
use Rattle.trac_forms.proofs.store.Store.set_pointer.Goals as goal

pub returns-in_err-i-clause-old : goal.returns-in_err-i-clause-old
returns-in_err-i-clause-old g c =
    c.from_residual.ensures ∙ ap (option_map (λ (form : Form). length form.before)) (sym (no_form c.self.inside.table.entries _ c.args.self.now c.self.view_is c.args.name.now (sym c.in_err-i.ensures.found)))

pub returns-in_err-i-clause-set : goal.returns-in_err-i-clause-set
returns-in_err-i-clause-set g c =
    none_changed c.self.inside.table.entries _ c.args.self.now c.self.view_is c.args.name.now (sym c.in_err-i.ensures.found) (λ form. pointed_at c.args.place (all_items form))

pub invariant_of-self : goal.invariant_of-self
invariant_of-self g c =
    kept_order c.self.inside.table.entries c.self.inside.live c.self.inside.recent c.self.invariant c.in_ok-i.i (λ form. pointed_at c.args.place (all_items form)) c.point_at.new.table.entries
    c.in_ok-i.ensures.within c.point_at.ensures.set

pub returns-clause-old : goal.returns-clause-old
returns-clause-old g c =
    c.point_at.ensures.old ∙ ap (option_map (λ (form : Form). length form.before)) (sym (form_found c.self.inside.table.entries _ c.args.self.now c.self.view_is c.args.name.now _ c.in_ok-i.ensures.value))

pub returns-clause-set : goal.returns-clause-set
returns-clause-set g c =
    changed_in_place c.self.inside.table.entries _ c.args.self.now c.self.view_is c.args.name.now c.in_ok-i.i (λ form. pointed_at c.args.place (all_items form)) _ c.point_at.new.table.entries
    (sym c.in_ok-i.ensures.index) c.in_ok-i.ensures.unique c.in_ok-i.ensures.value c.point_at.ensures.set
