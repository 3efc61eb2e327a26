-- A form that is taken goes into the block; nothing does for a name without a form.
use Rattle.std.proofs.Common.{refl, sym, ap, ◌∙◌, arith}
use Rattle.std.specs.Prelude.{length}
use Rattle.std.specs.Vec.Iter.{into_iter_items}
use Rattle.std.proofs.lemmas.Bool.{false≢true}
use Rattle.std.proofs.lemmas.List.{append-nil}
use Rattle.trac_rules.specs.State.{Held}
use Rattle.trac_storage.proofs.Emptied.{none_left}
use Rattle.trac_storage.proofs.MovedForms.{holds, left_too, moves_next, moves_none, still_left}
use Rattle.trac_storage.proofs.blocking.move_into.Goals as goal

pub loop-name-preserved-in-Some-take : goal.loop-name-preserved-in-Some-take
loop-name-preserved-in-Some-take g c =
    let at = c.loop-name in
    let name = c.in-Some.name.items in
    let so_far = rw c.in-Some.ensures.steps.0 at at.invariant in
    let there = rw c.as_slice.ensures.value at c.in-Some-take.ensures.taken in
    rw (c.take.ensures.gone, c.as_slice.ensures.value, c.push.ensures) (
      so_far.0,
      moves_next at.block.held at.store.forms name c.in-Some-take.form _ _ there so_far.1,
      omega (arith, so_far.2),
      left_too at.block.held at.store.forms name c.in-Some-take.form so_far.3,
    )

pub loop-name-preserved : goal.loop-name-preserved
loop-name-preserved g c =
    let at = c.loop-name in
    let name = c.in-Some.name.items in
    let so_far = rw c.in-Some.ensures.steps.0 at at.invariant in
    let missing = rw c.as_slice.ensures.value at c.in_default.ensures.taken in
    rw (c.take.ensures.gone, c.as_slice.ensures.value) (
      so_far.0,
      moves_none at.block.held at.store.forms name _ _ missing so_far.1,
      omega (arith, so_far.2),
      still_left at.block.held at.store.forms name so_far.3,
    )

pub returns : goal.returns
returns g c =
    let at = c.loop-name in
    let all = rw (none_left (into_iter_items at.name-iterator) (sym at.name-iterator.rest.ok.0 ∙ c.in-None.ensures.steps.0)) at at.invariant in
    record { store = all.0; block = sym (append-nil at.block.held) ∙ all.1 }

pub loop-name-init : goal.loop-name-init
loop-name-init g c =
    let all = c.into_iter-name-iterator.ensures.into_iter_gives.0 in (
      rw all refl,
      rw (c.requires.none, all) refl,
      omega (arith, ap length all, c.requires.room),
      λ q there. absurd (false≢true (ap (λ (h : Held). holds q h) (sym c.requires.none) ∙ there)),
    )

pub loop-name-smaller-in-Some-take : goal.loop-name-smaller-in-Some-take
loop-name-smaller-in-Some-take g c = omega (arith, ap length c.in-Some.ensures.steps.0)

pub loop-name-smaller : goal.loop-name-smaller
loop-name-smaller g c = omega (arith, ap length c.in-Some.ensures.steps.0)
