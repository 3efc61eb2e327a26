use Rattle.std.proofs.Common.{sym}
use Rattle.trac_text.proofs.Cutting.{end_of-mark, end_of-end}
use Rattle.trac_text.proofs.args.end_at.Goals as goal

pub returns-then-i-marks : goal.returns-then-i-marks
returns-then-i-marks c = sym (end_of-mark c.args.end c.args.marks.now c.args.i _ c.if-i-marks.true)

pub returns-else-i-marks : goal.returns-else-i-marks
returns-else-i-marks c = sym (end_of-end c.args.end c.args.marks.now c.args.i c.if-i-marks.false)
