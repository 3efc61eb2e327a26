-- A name is known where it has an entry, and a new one gets the last; it is put among the recent ones then.
use Rattle.std.proofs.Common.{◌≡◌, ◌-◌, ◌∷◌, [], length, length-append, position, sym, ap, subst, ◌∙◌, arith}
use Rattle.std.specs.Prelude.{None, Some}
use Rattle.std.specs.Cmp.Lexicographic.{nat_list_eq_equiv}
use Rattle.std.specs.FinSet as set
use Rattle.std.specs.Map.{keys_of}
use Rattle.std.specs.Str.{bytes_eq}
use Rattle.trac_forms.specs.Stored.{Names, Stored}
use Rattle.trac_forms.specs.Table.{IsParted, known_of, stored}
use Rattle.trac_forms.proofs.Parted.{new_last, parted_push}
use Rattle.trac_forms.proofs.Recents.{more_inside, more_mark, parted_recent, recent_at, stored_recent}
use Rattle.trac_forms.proofs.Tables.{added_known, contains-known_of, known_again}
use Rattle.trac_forms.proofs.store.know_at.Given.{Over}
use Rattle.trac_forms.proofs.store.know_at.Goals as goal
use Rattle.trac_forms.proofs.store.know_at.Goals.{After-len-last}

pub make_recent-requires-clause-within : goal.make_recent-requires-clause-within
make_recent-requires-clause-within g c = c.in-Some.ensures.within

pub returns-in-Some-clause-known : goal.returns-in-Some-clause-known
returns-in-Some-clause-known g c = λ kept.
    let es = c.args.table.now.entries in
    let old = record kept { first = c.args.recent.now } in
    stored_recent es c.make_recent.new.table.entries c.args.recent.now c.in-Some.i c.make_recent.result c.make_recent.new.recent c.args.name.now c.requires (sym c.in-Some.ensures.index) c.in-Some.ensures.unique
    c.make_recent.ensures.moved c.make_recent.ensures.place c.make_recent.ensures.mark kept
    ∙ ap (λ (names : Names). let t : Stored = record (stored es old) { known = names; recent = set.insert (stored es old).recent c.args.name.now } in t)
    (sym (known_again (known_of es) c.args.name.now (contains-known_of es c.args.name.now ∙ sym c.in-Some.ensures.found)))

pub returns-in-Some-clause-place : goal.returns-in-Some-clause-place
returns-in-Some-clause-place g c =
    recent_at c.args.table.now.entries c.make_recent.new.table.entries c.args.recent.now c.in-Some.i c.make_recent.result c.make_recent.new.recent c.args.name.now c.requires (sym c.in-Some.ensures.index) c.in-Some.ensures.unique
    c.make_recent.ensures.moved c.make_recent.ensures.place c.make_recent.ensures.mark

pub returns-in-Some-clause-mark : goal.returns-in-Some-clause-mark
returns-in-Some-clause-mark g c = (
  more_mark c.args.table.now.entries c.make_recent.new.table.entries c.args.recent.now c.in-Some.i c.make_recent.result c.make_recent.new.recent c.args.name.now c.requires (sym c.in-Some.ensures.index) c.in-Some.ensures.unique
      c.make_recent.ensures.moved c.make_recent.ensures.place c.make_recent.ensures.mark,
  more_inside c.args.table.now.entries c.make_recent.new.table.entries c.args.recent.now c.in-Some.i c.make_recent.result c.make_recent.new.recent c.args.name.now c.requires (sym c.in-Some.ensures.index) c.in-Some.ensures.unique
      c.make_recent.ensures.moved c.make_recent.ensures.place c.make_recent.ensures.mark,
)

pub returns-in-Some-clause-parted : goal.returns-in-Some-clause-parted
returns-in-Some-clause-parted g c = λ live less parted.
    parted_recent c.args.table.now.entries c.make_recent.new.table.entries c.args.recent.now c.in-Some.i c.make_recent.result c.make_recent.new.recent c.args.name.now c.requires (sym c.in-Some.ensures.index) c.in-Some.ensures.unique
    c.make_recent.ensures.moved c.make_recent.ensures.place c.make_recent.ensures.mark live parted less

-- a name that had no entry has the last one
last_is : (g : Over) (c : After-len-last g) → (c.len-last.result - 1 ≡ length c.args.table.now.entries) × (position (bytes_eq c.args.name.now) (keys_of c.add_name.new.table.entries) ≡ Some (c.len-last.result - 1))
last_is g c =
    let es = c.args.table.now.entries in
    let is = c.in_ok-add_name.ensures.added in
    let last : c.len-last.result - 1 ≡ length es = omega (arith, c.len-last.ensures.len, ap length is, length-append es ((c.args.name.now, None) ∷ [])) in (
      last,
      ap (λ entries. position (bytes_eq c.args.name.now) (keys_of entries)) is
          ∙ new_last (bytes_eq c.args.name.now) es c.args.name.now None (sym c.in_default.ensures.index) (nat_list_eq_equiv.refl c.args.name.now) ∙ ap Some (sym last),
    )

pub returns-clause-known : goal.returns-clause-known
returns-clause-known g c = λ kept.
    let es = c.args.table.now.entries in
    let is = c.in_ok-add_name.ensures.added in
    let at = last_is g (goal.at.returns-clause-known g c).After-len-last in
    let old = record kept { first = c.args.recent.now } in
    stored_recent c.add_name.new.table.entries c.make_recent-2.new.table.entries c.args.recent.now (c.len-last.result - 1) c.make_recent-2.result c.make_recent-2.new.recent c.args.name.now
    (omega (arith, c.requires, at.0, c.len-last.ensures.len)) at.1 c.len-last.ensures.unique c.make_recent-2.ensures.moved c.make_recent-2.ensures.place c.make_recent-2.ensures.mark kept
    ∙ ap (λ (t : Stored). let u : Stored = record t { recent = set.insert t.recent c.args.name.now } in u)
    (ap (λ entries. stored entries old) is ∙ added_known es old c.args.name.now c.requires)

pub returns-clause-place : goal.returns-clause-place
returns-clause-place g c =
    let at = last_is g (goal.at.returns-clause-place g c).After-len-last in
    recent_at c.add_name.new.table.entries c.make_recent-2.new.table.entries c.args.recent.now (c.len-last.result - 1) c.make_recent-2.result c.make_recent-2.new.recent c.args.name.now
    (omega (arith, c.requires, at.0, c.len-last.ensures.len)) at.1 c.len-last.ensures.unique c.make_recent-2.ensures.moved c.make_recent-2.ensures.place c.make_recent-2.ensures.mark

pub returns-clause-parted : goal.returns-clause-parted
returns-clause-parted g c = λ live less parted.
    let at = last_is g (goal.at.returns-clause-parted g c).After-len-last in
    parted_recent c.add_name.new.table.entries c.make_recent-2.new.table.entries c.args.recent.now (c.len-last.result - 1) c.make_recent-2.result c.make_recent-2.new.recent c.args.name.now
    (omega (arith, c.requires, at.0, c.len-last.ensures.len)) at.1 c.len-last.ensures.unique c.make_recent-2.ensures.moved c.make_recent-2.ensures.place c.make_recent-2.ensures.mark live
    (subst (λ entries. IsParted entries live) (sym c.in_ok-add_name.ensures.added) (parted_push c.args.table.now.entries live parted c.args.name.now)) less
