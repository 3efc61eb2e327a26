-- The name has an entry, which is put among the recent ones and written.
use Rattle.std.proofs.Common.{ap, sym, ◌∙◌, ◌≡◌, ◌≤◌, length, arith}
use Rattle.std.specs.Prelude.{Some}
use Rattle.std.specs.FinSet as set
use Rattle.std.specs.Str.{bytes_eq}
use Rattle.std.proofs.lemmas.Bool.{false≢true}
use Rattle.indexmap.specs.Layout.{length-set_value_at}
use Rattle.indexmap.proofs.MapLemmas.{Found-position}
use Rattle.std.proofs.lemmas.List.Sorted.{length_permutation}
use Rattle.trac_forms.specs.Stored.{Stored}
use Rattle.trac_forms.specs.Table.{IsParted, IsRecentAt, kept_in, stored}
use Rattle.trac_forms.proofs.Recents.{more_inside, more_mark, parted_recent, recent_at, stored_recent}
use Rattle.trac_forms.proofs.Tables.{form_found, name_found, written_at}
use Rattle.trac_forms.proofs.store.Store.put.Given.{Over}
use Rattle.trac_forms.proofs.store.Store.put.Goals as goal
use Rattle.trac_forms.proofs.store.Store.put.Goals.{After-make_recent-place}

pub returns-in_err-i-clause-replaced : goal.returns-in_err-i-clause-replaced
returns-in_err-i-clause-replaced g c = absurd (false≢true (c.in_err-i.ensures.found ∙ sym (name_found c.self.inside.table.entries _ c.args.self.now c.self.view_is c.args.name.now) ∙ c.requires))

pub returns-in_err-i-clause-put : goal.returns-in_err-i-clause-put
returns-in_err-i-clause-put g c = absurd (false≢true (c.in_err-i.ensures.found ∙ sym (name_found c.self.inside.table.entries _ c.args.self.now c.self.view_is c.args.name.now) ∙ c.requires))

-- after that, it has an entry among the recent ones, and nothing else has changed
record Made (g : Over) (c : After-make_recent-place g) : Type 0 where
  at : IsRecentAt c.args.name.now c.make_recent-place.new.table.entries c.make_recent-place.new.recent c.make_recent-place.result
  view : stored c.make_recent-place.new.table.entries (kept_in c.make_recent-place.new.recent c.self.inside.blocks)
      ≡ record c.args.self.now { recent = set.insert c.args.self.now.recent c.args.name.now }
  parted : IsParted c.make_recent-place.new.table.entries c.self.inside.live
  less : c.self.inside.live ≤ c.make_recent-place.new.recent
  within : c.make_recent-place.new.recent ≤ length c.make_recent-place.new.table.entries

made : (g : Over) (c : After-make_recent-place g) → Made g c
made g c =
    let es = c.self.inside.table.entries in
    let new = c.make_recent-place.new.table.entries in
    let n = c.self.inside.recent in
    let name = c.args.name.now in
    let order = c.self.invariant in
    let says = c.make_recent-place.ensures in
    let found = sym c.in_ok-i.ensures.index in
    let more = c.make_recent-place.new.recent in
    let place = c.make_recent-place.result in
    let i = c.in_ok-i.i in
    let apart = c.in_ok-i.ensures.unique in
    record {
      at = recent_at es new n i place more name order.within found apart says.moved says.place says.mark;
      view = stored_recent es new n i place more name order.within found apart says.moved says.place says.mark (kept_in n c.self.inside.blocks)
          ∙ ap (λ (t : Stored). let u : Stored = record t { recent = set.insert t.recent name } in u) c.self.view_is;
      parted = parted_recent es new n i place more name order.within found apart says.moved says.place says.mark c.self.inside.live order.parted order.forms_recent;
      less = omega (arith, order.forms_recent, more_mark es new n i place more name order.within found apart says.moved says.place says.mark);
      within = more_inside es new n i place more name order.within found apart says.moved says.place says.mark;
    }

pub put_at-requires-clause-within : goal.put_at-requires-clause-within
put_at-requires-clause-within g c =
    let m = made g (goal.at.put_at-requires-clause-within g c).After-make_recent-place in
    omega (arith, m.at.among, m.within)

pub put_at-requires-clause-parted : goal.put_at-requires-clause-parted
put_at-requires-clause-parted g c = (made g (goal.at.put_at-requires-clause-parted g c).After-make_recent-place).parted

pub invariant_of-self : goal.invariant_of-self
invariant_of-self g c =
    let m = made g (goal.at.invariant_of-self g c).After-make_recent-place in
    record {
      parted = c.put_at.ensures.parted;
      forms_recent = (c.put_at.ensures.first c.make_recent-place.new.recent m.at.among m.less m.within).within;
      within = omega (
        arith,
        m.within,
        length_permutation _ _ c.put_at.ensures.put,
        length-set_value_at c.make_recent-place.new.table.entries c.make_recent-place.result (Some c.args.form),
      );
    }

pub returns-clause-replaced : goal.returns-clause-replaced
returns-clause-replaced g c =
    let m = made g (goal.at.returns-clause-replaced g c).After-make_recent-place in
    sym
    (form_found c.make_recent-place.new.table.entries _ _ m.view c.args.name.now (Some c.put_at.result)
    (sym c.put_at.ensures.replaced ∙ sym (Found-position (bytes_eq c.args.name.now) _ _ m.at.place).value))

pub returns-clause-put : goal.returns-clause-put
returns-clause-put g c =
    let m = made g (goal.at.returns-clause-put g c).After-make_recent-place in
    written_at c.make_recent-place.new.table.entries _ _ m.view c.args.name.now c.make_recent-place.result (Some c.args.form) c.put_at.new.table.entries m.at.place m.at.distinct c.put_at.ensures.put
    (c.put_at.ensures.first c.make_recent-place.new.recent m.at.among m.less m.within).names
