-- Of the form that is weighed now, and of those after it, the weight is within that of all.
use Rattle.std.proofs.Common.{arith}
use Rattle.trac_change.proofs.Weighed.{forms_next}
use Rattle.trac_change.proofs.weighing.weigh_forms.Goals as goal

pub overflow_add-weight : goal.overflow_add-weight
overflow_add-weight g c = omega (arith, c.requires, c.len.ensures.len, c.len-in-loop-name.ensures, c.loop-name.invariant, forms_next c.args.forms.now c.loop-name.name-index c.loop-name-test.true c.loop-name-item.is)

pub overflow_add-weight-in-loop-name : goal.overflow_add-weight-in-loop-name
overflow_add-weight-in-loop-name g c = omega (arith, c.requires, c.len.ensures.len, c.len-in-loop-name.ensures, c.loop-name.invariant, forms_next c.args.forms.now c.loop-name.name-index c.loop-name-test.true c.loop-name-item.is)

pub overflow_add-weight-in-loop-name-2 : goal.overflow_add-weight-in-loop-name-2
overflow_add-weight-in-loop-name-2 g c = omega (arith, c.requires, c.len.ensures.len, c.len-in-loop-name.ensures, c.loop-name.invariant, forms_next c.args.forms.now c.loop-name.name-index c.loop-name-test.true c.loop-name-item.is)

pub loop-name-preserved : goal.loop-name-preserved
loop-name-preserved g c = omega (arith, c.requires, c.len.ensures.len, c.len-in-loop-name.ensures, c.loop-name.invariant, forms_next c.args.forms.now c.loop-name.name-index c.loop-name-test.true c.loop-name-item.is)
