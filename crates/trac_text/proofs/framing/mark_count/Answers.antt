-- Each function adds its arguments.
use Rattle.std.proofs.Common.{arith}
use Rattle.trac_text.proofs.Framed.{count_more}
use Rattle.trac_text.proofs.framing.mark_count.Goals as goal

pub loop-arguments-preserved : goal.loop-arguments-preserved
loop-arguments-preserved g c = omega (arith, count_more c.args.functions.now c.loop-arguments.arguments-index c.loop-arguments-item.result (omega arith) c.loop-arguments-item.is, c.loop-arguments.invariant, c.saturating_add-total.ensures, c.len.ensures)
