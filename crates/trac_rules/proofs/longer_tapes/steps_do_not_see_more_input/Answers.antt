use Rattle.trac_rules.proofs.LongerTapes.{step-both, step-ended, step-lengthened}
use Rattle.trac_rules.proofs.longer_tapes.steps_do_not_see_more_input.Goals as goal

pub returns : goal.returns
returns c = record { lengthened = step-lengthened; ended = step-ended; both = step-both }
