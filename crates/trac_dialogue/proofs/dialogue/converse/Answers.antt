use Rattle.trac_dialogue.proofs.Talked.{gives_both, takes_both}
use Rattle.trac_dialogue.proofs.dialogue.converse.Goals as goal

pub returns-in-Err-clause-took : goal.returns-in-Err-clause-took
returns-in-Err-clause-took g c = takes_both _ _ _ c.loop-turn.invariant.took c.take_line.ensures.took

pub returns-in-Err-clause-gave : goal.returns-in-Err-clause-gave
returns-in-Err-clause-gave g c = gives_both _ _ _ c.loop-turn.invariant.gave c.take_line.ensures.gave

pub loop-turn-preserved : goal.loop-turn-preserved
loop-turn-preserved g c = record {
  took = takes_both _ _ _ c.loop-turn.invariant.took c.take_line.ensures.took;
  gave = gives_both _ _ _ c.loop-turn.invariant.gave c.take_line.ensures.gave;
  at_end = c.in-Ok.ensures.at_end;
}
