-- The name has an entry among the recent ones, which is written.
use Rattle.std.proofs.Common.{ap, sym, ◌∙◌, arith}
use Rattle.std.specs.Prelude.{Some}
use Rattle.indexmap.proofs.MapLemmas.{Found-position}
use Rattle.std.proofs.lemmas.List.Sorted.{length_permutation}
use Rattle.indexmap.specs.Layout.{length-set_value_at}
use Rattle.std.specs.Str.{bytes_eq}
use Rattle.std.proofs.lemmas.Bool.{false≢true}
use Rattle.trac_forms.specs.Stored.{made_known}
use Rattle.trac_forms.specs.Table.{kept_in}
use Rattle.trac_forms.proofs.Tables.{form_found, name_found, written_at}
use Rattle.trac_forms.proofs.store.Store.insert.Goals as goal

pub returns-in_err-place-clause-again : goal.returns-in_err-place-clause-again
returns-in_err-place-clause-again g c = λ there.
    absurd (false≢true (c.in_err-place.ensures.again (sym (name_found c.self.inside.table.entries _ c.args.self.now c.self.view_is c.args.name.now) ∙ there)))

pub put_at-requires-clause-parted : goal.put_at-requires-clause-parted
put_at-requires-clause-parted g c = c.in_ok-place.ensures.parted c.self.inside.live c.self.invariant.forms_recent c.self.invariant.parted

pub invariant_of-self-2 : goal.invariant_of-self-2
invariant_of-self-2 g c =
    let mark = c.in_ok-place.ensures.mark in
    let at = c.in_ok-place.ensures.place in
    let first = c.put_at.ensures.first c.know_at.new.recent at.among (omega (arith, c.self.invariant.forms_recent, mark.0)) mark.1 in
    record {
      parted = c.put_at.ensures.parted;
      forms_recent = first.within;
      within = omega (
        arith,
        mark.1,
        length_permutation _ _ c.put_at.ensures.put,
        length-set_value_at c.know_at.new.table.entries c.in_ok-place.place (Some c.args.form),
      );
    }

pub returns-clause-replaced : goal.returns-clause-replaced
returns-clause-replaced g c =
    let at = c.in_ok-place.ensures.place in
    let view = c.in_ok-place.ensures.known (kept_in c.self.inside.recent c.self.inside.blocks) ∙ ap (made_known c.args.name.now) c.self.view_is in
    sym
    (form_found c.know_at.new.table.entries _ _ view c.args.name.now (Some c.put_at.result)
    (sym c.put_at.ensures.replaced ∙ sym (Found-position (bytes_eq c.args.name.now) _ _ at.place).value))

pub returns-clause-put : goal.returns-clause-put
returns-clause-put g c =
    let mark = c.in_ok-place.ensures.mark in
    let at = c.in_ok-place.ensures.place in
    let first = c.put_at.ensures.first c.know_at.new.recent at.among (omega (arith, c.self.invariant.forms_recent, mark.0)) mark.1 in
    let view = c.in_ok-place.ensures.known (kept_in c.self.inside.recent c.self.inside.blocks) ∙ ap (made_known c.args.name.now) c.self.view_is in
    written_at c.know_at.new.table.entries _ _ view c.args.name.now c.in_ok-place.place (Some c.args.form) c.put_at.new.table.entries at.place at.distinct c.put_at.ensures.put first.names
