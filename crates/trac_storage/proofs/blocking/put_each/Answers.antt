use Rattle.std.proofs.Common.{sym, ◌∙◌}
use Rattle.std.specs.Vec.Iter.{into_iter_items}
use Rattle.trac_storage.proofs.Emptied.{none_left}
use Rattle.trac_storage.proofs.blocking.put_each.Goals as goal

pub put-requires : goal.put-requires
put-requires g c =
    let so_far = rw c.in-Some.ensures.steps.0 at c.loop-name.invariant in
    rw c.as_slice.ensures.value so_far.1.0

pub loop-name-preserved : goal.loop-name-preserved
loop-name-preserved g c =
    let so_far = rw c.in-Some.ensures.steps.0 at c.loop-name.invariant in
    rw (c.put.ensures.put, c.as_slice.ensures.value) (so_far.0, so_far.1.1)

pub returns : goal.returns
returns g c =
    let at = c.loop-name in
    (rw (none_left (into_iter_items at.name-iterator) (sym at.name-iterator.rest.ok.0 ∙ c.in-None.ensures.steps.0)) at at.invariant).0
