use Rattle.trac_dialogue.proofs.Talked.{few_takes, gives_both, seek_takes, takes_both}
use Rattle.trac_dialogue.proofs.dialogue.take_line.Goals as goal

pub returns-in-Ok-Line-clause-gave : goal.returns-in-Ok-Line-clause-gave
returns-in-Ok-Line-clause-gave g c = gives_both _ _ _ c.ask.ensures.gave c.answer-replied.ensures.gave

pub returns-in-Ok-TooLong-clause-gave : goal.returns-in-Ok-TooLong-clause-gave
returns-in-Ok-TooLong-clause-gave g c = gives_both _ _ _ c.ask.ensures.gave c.pass_line.ensures.gave

pub returns-in-Ok-TooLong-clause-took : goal.returns-in-Ok-TooLong-clause-took
returns-in-Ok-TooLong-clause-took g c =
    takes_both _ _ _ (seek_takes _ _ _ _ c.in-Ok-TooLong.ensures.read) (few_takes _ _ c.pass_line.ensures.took)
