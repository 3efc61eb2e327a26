-- The form of the name is changed in its entry, where it has one.
use Rattle.std.proofs.Common.{IsTrue, sym, subst}
use Rattle.std.specs.Prelude.{Option, IfSome, is_some}
use Rattle.trac_rules.specs.Cuts.{joined}
use Rattle.trac_rules.specs.Form.{Form, all_items}
use Rattle.trac_forms.specs.Stored.{unsegmented}
use Rattle.trac_forms.proofs.Tables.{changed_in_place, form_found, kept_order, none_changed}
use Rattle.trac_forms.proofs.store.Store.unsegment.Goals as goal

pub returns-in_default : goal.returns-in_default
returns-in_default g c =
    none_changed c.self.inside.table.entries _ c.args.self.now c.self.view_is c.args.name.now (sym c.in_default.ensures.found) (unsegmented (g.T.Texts.texts c.args.texts.now) c.args.cut c.args.pointer)

pub unsegment_at-requires-clause-there : goal.unsegment_at-requires-clause-there
unsegment_at-requires-clause-there g c =
    subst (λ (found : Option Form). IfSome found (λ form. IsTrue (is_some (joined (g.T.Texts.texts c.args.texts.now) c.args.cut (all_items form)))))
    (form_found c.self.inside.table.entries _ c.args.self.now c.self.view_is c.args.name.now _ c.in-Some.ensures.value) c.requires

pub invariant_of-self : goal.invariant_of-self
invariant_of-self g c =
    kept_order c.self.inside.table.entries c.self.inside.live c.self.inside.recent c.self.invariant c.in-Some.i (unsegmented (g.T.Texts.texts c.args.texts.now) c.args.cut c.args.pointer)
    c.unsegment_at.new.table.entries c.in-Some.ensures.within c.unsegment_at.ensures

pub returns : goal.returns
returns g c =
    changed_in_place c.self.inside.table.entries _ c.args.self.now c.self.view_is c.args.name.now c.in-Some.i (unsegmented (g.T.Texts.texts c.args.texts.now) c.args.cut c.args.pointer) _
    c.unsegment_at.new.table.entries (sym c.in-Some.ensures.index) c.in-Some.ensures.unique c.in-Some.ensures.value c.unsegment_at.ensures
