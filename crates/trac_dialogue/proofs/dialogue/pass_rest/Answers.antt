use Rattle.std.proofs.Common.{ap, subst}
use Rattle.trac_streams.specs.Pending.{Pending}
use Rattle.trac_streams.specs.Reading.{IsFront}
use Rattle.trac_dialogue.proofs.Passed.{passed_few, passing_more}
use Rattle.trac_dialogue.proofs.dialogue.pass_rest.Goals as goal

pub returns-in-Err-clause-took : goal.returns-in-Err-clause-took
returns-in-Err-clause-took g c =
    passed_few _ _ _ c.loop-part.part c.pass_all.new.self c.seek.new.self c.loop-part.invariant.passing c.loop-part-test.true (ap (λ (p : Pending). p.bytes) c.pass_all.ensures)
    c.in-Err.ensures.failed.gathers

pub returns-in-Ok-Line-clause-took : goal.returns-in-Ok-Line-clause-took
returns-in-Ok-Line-clause-took g c =
    passed_few _ _ _ c.loop-part.part c.pass_all.new.self c.seek.new.self c.loop-part.invariant.passing c.loop-part-test.true (ap (λ (p : Pending). p.bytes) c.pass_all.ensures)
    c.in-Ok-Line.ensures.read

pub loop-part-preserved : goal.loop-part-preserved
loop-part-preserved g c = record {
  passing = passing_more _ _ _ c.loop-part.part c.pass_all.new.self c.seek.new.self c.loop-part.invariant.passing (ap (λ (p : Pending). p.bytes) c.pass_all.ensures) c.in-Ok-TooLong.ensures.read
      (subst (IsFront c.seek.new.self.bytes c.seek.new.self.ended) c.in-Ok-TooLong.field-0-is c.in-Ok-TooLong.ensures.front);
  at_end = c.in-Ok-TooLong.ensures.read.at_end;
}
