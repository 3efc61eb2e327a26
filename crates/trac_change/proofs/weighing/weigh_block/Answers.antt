-- Of the form that is weighed now, and of those after it, the weight is within that of all.
use Rattle.std.proofs.Common.{arith}
use Rattle.trac_change.proofs.Weighed.{held_next}
use Rattle.trac_change.proofs.weighing.weigh_block.Goals as goal

pub overflow_add-weight : goal.overflow_add-weight
overflow_add-weight g c = omega (arith, c.requires, c.len.ensures.len, c.loop-i.invariant, held_next c.args.block.now.held c.loop-i.i c.in-Some.ensures)

pub overflow_add-weight-in-loop-i : goal.overflow_add-weight-in-loop-i
overflow_add-weight-in-loop-i g c = omega (arith, c.requires, c.len.ensures.len, c.loop-i.invariant, held_next c.args.block.now.held c.loop-i.i c.in-Some.ensures)

pub overflow_add-weight-in-loop-i-2 : goal.overflow_add-weight-in-loop-i-2
overflow_add-weight-in-loop-i-2 g c = omega (arith, c.requires, c.len.ensures.len, c.loop-i.invariant, held_next c.args.block.now.held c.loop-i.i c.in-Some.ensures)

pub loop-i-preserved : goal.loop-i-preserved
loop-i-preserved g c = omega (arith, c.requires, c.len.ensures.len, c.loop-i.invariant, held_next c.args.block.now.held c.loop-i.i c.in-Some.ensures)
