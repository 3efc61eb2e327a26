use Rattle.trac_dialogue.proofs.Talked.{gives_both}
use Rattle.trac_dialogue.proofs.dialogue.pass_line.Goals as goal

pub returns-in-Ok-clause-gave : goal.returns-in-Ok-clause-gave
returns-in-Ok-clause-gave g c = gives_both _ _ _ c.say.ensures.gave c.say-in-Err-Budget.ensures.gave

pub returns-in-Err-say-clause-gave : goal.returns-in-Err-say-clause-gave
returns-in-Err-say-clause-gave g c = gives_both _ _ _ c.say.ensures.gave c.say-in-Err-Budget.ensures.gave
