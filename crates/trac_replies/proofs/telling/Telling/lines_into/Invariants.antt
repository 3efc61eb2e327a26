use Rattle.std.specs.Prelude.{vec_len}
use Rattle.trac_replies.proofs.telling.Telling.lines_into.Given as goal

abbrev pub decreases-loop-step : goal.decreases-loop-step
decreases-loop-step g l = vec_len l.steps
