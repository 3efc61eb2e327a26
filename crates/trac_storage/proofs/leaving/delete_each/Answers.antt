-- The form that is taken next; a name without a form is passed over.
use Rattle.std.proofs.Common.{refl, sym, ap, ◌∙◌, arith}
use Rattle.std.specs.Prelude.{length}
use Rattle.std.specs.Vec.Iter.{into_iter_items}
use Rattle.std.proofs.lemmas.List.{append-nil, length_push, map-append}
use Rattle.trac_forms.specs.Stored.{Stored, storage_in}
use Rattle.trac_rules.specs.Undone.{Restore}
use Rattle.trac_change.specs.Changed.{named_forms}
use Rattle.trac_storage.proofs.Emptied.{none_left}
use Rattle.trac_storage.proofs.Known.{among_same}
use Rattle.trac_storage.proofs.MovedForms.{moves_next, moves_none}
use Rattle.trac_storage.proofs.leaving.delete_each.Goals as goal

pub loop-name-init : goal.loop-name-init
loop-name-init g c =
    let all = c.into_iter-name-iterator.ensures.into_iter_gives.0 in
    let none = c.in_ok-taken.ensures.items in
    (rw all refl, rw (none, all) refl, omega (arith, ap length none, ap length all, c.in_ok-taken.ensures.exact, c.len.ensures, c.args.names.ok.0))

pub push_reserved-requires : goal.push_reserved-requires
push_reserved-requires g c = omega (arith, c.loop-name.invariant.2, ap length c.in-Some.ensures.steps.0)

pub loop-name-preserved-in-Some-take : goal.loop-name-preserved-in-Some-take
loop-name-preserved-in-Some-take g c =
    let so_far = rw c.in-Some.ensures.steps.0 at c.loop-name.invariant in
    let taken = c.loop-name.taken.items in
    rw (c.take.ensures.gone, c.as_slice.ensures.value, c.push_reserved.ensures.items, map-append) (
      so_far.0,
      moves_next (named_forms taken) c.loop-name.store.forms c.in-Some.name.items c.in-Some-take.form _ _ (rw c.as_slice.ensures.value at c.in-Some-take.ensures.taken) so_far.1,
      omega (arith, so_far.2, length_push taken (c.in-Some.name, c.in-Some-take.form), c.push_reserved.ensures.capacity),
    )

pub loop-name-preserved : goal.loop-name-preserved
loop-name-preserved g c =
    let so_far = rw c.in-Some.ensures.steps.0 at c.loop-name.invariant in
    rw (c.take.ensures.gone, c.as_slice.ensures.value) (
      so_far.0,
      moves_none (named_forms c.loop-name.taken.items) c.loop-name.store.forms c.in-Some.name.items _ _ (rw c.as_slice.ensures.value at c.in_default.ensures.taken) so_far.1,
      omega (arith, so_far.2),
    )

pub returns : goal.returns
returns g c =
    let at = c.loop-name in
    let all = rw (none_left (into_iter_items at.name-iterator) (sym at.name-iterator.rest.ok.0 ∙ c.in-None.ensures.steps.0)) at at.invariant in
    record {
      storage = ap storage_in all.0;
      undone = ap Restore (sym (append-nil (named_forms at.taken.items)) ∙ all.1);
      unchanged = tt;
      names = ap (λ (s : Stored). s.known) all.0;
      recent = among_same c.args.store.now.recent at.store.recent (ap (λ (s : Stored). s.recent) all.0);
      places = ap (λ (s : Stored). s.spare) all.0;
      err = tt;
    }
