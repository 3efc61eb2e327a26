-- Of the function that is weighed now, and of those after it, the weight is within that of all.
use Rattle.std.proofs.Common.{arith}
use Rattle.trac_journal.proofs.Weighed.{functions_next}
use Rattle.trac_journal.proofs.emptied_weight.weigh_functions.Goals as goal

pub weigh_pieces-requires : goal.weigh_pieces-requires
weigh_pieces-requires g c = omega (arith, c.requires, c.loop-function.invariant, functions_next c.args.functions.now c.loop-function.function-index c.loop-function-test.true c.function-item.is)

pub overflow_add-weight : goal.overflow_add-weight
overflow_add-weight g c = omega (arith, c.requires, c.weigh_pieces.ensures, c.loop-function.invariant, functions_next c.args.functions.now c.loop-function.function-index c.loop-function-test.true c.function-item.is)

pub overflow_add-weight-in-loop-function : goal.overflow_add-weight-in-loop-function
overflow_add-weight-in-loop-function g c = omega (arith, c.requires, c.weigh_pieces.ensures, c.loop-function.invariant, functions_next c.args.functions.now c.loop-function.function-index c.loop-function-test.true c.function-item.is)

pub loop-function-preserved : goal.loop-function-preserved
loop-function-preserved g c = omega (arith, c.weigh_pieces.ensures, c.loop-function.invariant, functions_next c.args.functions.now c.loop-function.function-index c.loop-function-test.true c.function-item.is)
