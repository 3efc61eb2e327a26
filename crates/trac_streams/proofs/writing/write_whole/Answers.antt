use Rattle.std.proofs.Common.{ℕ, ◌-◌, ◌+◌, length, take, drop, arith}
use Rattle.std.proofs.lemmas.List.{length-drop, length-take, take_all}
use Rattle.trac_streams.proofs.Known.{Appends-nothing, Appends-both, Appends-kept, Appends-same, front_taken, taken_after}
use Rattle.trac_streams.proofs.writing.write_whole.Goals as goal

pub loop-at-init : goal.loop-at-init
loop-at-init g c = record { within = omega arith; gave = Appends-nothing (g.W.Write.contents c.args.output.now) }

pub returns-in-Ok-eq0-clause-err : goal.returns-in-Ok-eq0-clause-err
returns-in-Ok-eq0-clause-err g c =
    let k : ℕ = c.loop-at.at + c.in-Ok-eq0.field-0 in
    record {
      written = take k c.args.text.now;
      front = front_taken k c.args.text.now;
      gave = Appends-same _ _ _ _ (taken_after c.loop-at.at c.in-Ok-eq0.field-0 c.args.text.now)
          (Appends-both _ _ _ _ _ c.loop-at.invariant.gave c.in-Ok-eq0.ensures.bytes);
    }

pub loop-at-preserved : goal.loop-at-preserved
loop-at-preserved g c = record {
  within = omega (arith, c.in-Ok.ensures.bound, length-take (length c.args.text.now - c.loop-at.at) (drop c.loop-at.at c.args.text.now), length-drop c.loop-at.at c.args.text.now, c.loop-at.invariant.within);
  gave = Appends-same _ _ _ _ (taken_after c.loop-at.at c.in-Ok.count c.args.text.now)
      (Appends-both _ _ _ _ _ c.loop-at.invariant.gave c.in-Ok.ensures.bytes);
}

pub returns-in-Err-clause-err : goal.returns-in-Err-clause-err
returns-in-Err-clause-err g c = record {
  written = take c.loop-at.at c.args.text.now;
  front = front_taken c.loop-at.at c.args.text.now;
  gave = Appends-kept _ _ _ _ c.loop-at.invariant.gave c.in-Err.ensures.bytes;
}

pub returns-clause-ok : goal.returns-clause-ok
returns-clause-ok g c =
    Appends-same _ _ _ _ (take_all c.loop-at.at c.args.text.now c.loop-at-test.false) c.loop-at.invariant.gave
