-- What is taken at the name's entry, if there is one, which may change its place.
use Rattle.std.proofs.Common.{sym, ◌∙◌, arith}
use Rattle.std.specs.Prelude.{None, Some}
use Rattle.indexmap.specs.Layout.{length-set_value_at}
use Rattle.std.proofs.lemmas.List.Sorted.{length_permutation}
use Rattle.trac_forms.proofs.Tables.{form_found, no_form, not_taken, written_at}
use Rattle.trac_forms.proofs.store.Store.take.Goals as goal

pub returns-in-None-clause-taken : goal.returns-in-None-clause-taken
returns-in-None-clause-taken g c = sym (no_form c.self.inside.table.entries _ c.args.self.now c.self.view_is c.args.name.now (sym c.in-None.ensures.found))

pub returns-in-None-clause-gone : goal.returns-in-None-clause-gone
returns-in-None-clause-gone g c = not_taken c.self.inside.table.entries _ c.args.self.now c.self.view_is c.args.name.now (sym c.in-None.ensures.found)

pub returns-clause-taken : goal.returns-clause-taken
returns-clause-taken g c = sym (form_found c.self.inside.table.entries _ c.args.self.now c.self.view_is c.args.name.now (Some c.take_at.result) (sym c.take_at.ensures.taken ∙ c.in-Some.ensures.value))

pub invariant_of-self : goal.invariant_of-self
invariant_of-self g c =
    let order = c.self.invariant in
    record {
      parted = c.take_at.ensures.parted;
      forms_recent = (c.take_at.ensures.first c.self.inside.recent order.forms_recent order.within).within;
      within = omega (arith, order.within, length_permutation _ _ c.take_at.ensures.gone, length-set_value_at c.self.inside.table.entries c.in-Some.i None);
    }

pub returns-clause-gone : goal.returns-clause-gone
returns-clause-gone g c =
    let order = c.self.invariant in
    written_at c.self.inside.table.entries _ c.args.self.now c.self.view_is c.args.name.now c.in-Some.i None _ (sym c.in-Some.ensures.index) c.in-Some.ensures.unique c.take_at.ensures.gone
    (c.take_at.ensures.first c.self.inside.recent order.forms_recent order.within).names
