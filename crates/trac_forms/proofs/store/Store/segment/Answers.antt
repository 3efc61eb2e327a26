-- The form of the name is changed in its entry, where it has one.
use Rattle.std.proofs.Common.{◌≡◌, length, sym, ap, subst, ◌∙◌}
use Rattle.std.specs.Prelude.{Option, IfSome, option_map}
use Rattle.trac_rules.specs.Cuts.{cut_of}
use Rattle.trac_rules.specs.Form.{Form}
use Rattle.trac_rules.specs.Segmenting.{segmented}
use Rattle.trac_forms.proofs.Tables.{changed_in_place, form_found, kept_order, no_form, none_changed}
use Rattle.trac_forms.proofs.store.Store.segment.Goals as goal

pub segment_at-requires-clause-cut : goal.segment_at-requires-clause-cut
segment_at-requires-clause-cut g c = subst (λ (found : Option Form). IfSome found (λ form. c.args.cut.now ≡ cut_of (g.T.Texts.texts c.args.texts.now) form)) (form_found c.self.inside.table.entries _ c.args.self.now c.self.view_is c.args.name.now _ c.in_ok-i.ensures.value) c.requires

pub returns-in_err-i-clause-old : goal.returns-in_err-i-clause-old
returns-in_err-i-clause-old g c =
    c.from_residual.ensures ∙ ap (option_map (λ (form : Form). length form.before)) (sym (no_form c.self.inside.table.entries _ c.args.self.now c.self.view_is c.args.name.now (sym c.in_err-i.ensures.found)))

pub returns-in_err-i-clause-cut : goal.returns-in_err-i-clause-cut
returns-in_err-i-clause-cut g c =
    none_changed c.self.inside.table.entries _ c.args.self.now c.self.view_is c.args.name.now (sym c.in_err-i.ensures.found) (λ form. segmented (g.T.Texts.texts c.args.texts.now) form)

pub invariant_of-self : goal.invariant_of-self
invariant_of-self g c =
    kept_order c.self.inside.table.entries c.self.inside.live c.self.inside.recent c.self.invariant c.in_ok-i.i (λ form. segmented (g.T.Texts.texts c.args.texts.now) form) c.segment_at.new.table.entries
    c.in_ok-i.ensures.within c.segment_at.ensures.cut

pub returns-clause-old : goal.returns-clause-old
returns-clause-old g c =
    c.segment_at.ensures.old ∙ ap (option_map (λ (form : Form). length form.before)) (sym (form_found c.self.inside.table.entries _ c.args.self.now c.self.view_is c.args.name.now _ c.in_ok-i.ensures.value))

pub returns-clause-cut : goal.returns-clause-cut
returns-clause-cut g c =
    changed_in_place c.self.inside.table.entries _ c.args.self.now c.self.view_is c.args.name.now c.in_ok-i.i (λ form. segmented (g.T.Texts.texts c.args.texts.now) form) _ c.segment_at.new.table.entries
    (sym c.in_ok-i.ensures.index) c.in_ok-i.ensures.unique c.in_ok-i.ensures.value c.segment_at.ensures.cut
