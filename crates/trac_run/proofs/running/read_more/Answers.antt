use Rattle.std.proofs.Common.{arith, refl}
use Rattle.trac_run.proofs.Taken.{takes_none}
use Rattle.trac_run.proofs.running.read_more.Goals as goal

pub returns-in-Err : goal.returns-in-Err
returns-in-Err g c = record {
  ok = tt;
  err =
      takes_none _ _ _ _ c.read.new.buf c.in-Ok.count c.in-Err.refusal c.ending_of_feed.result c.requires.open_ (omega arith) (omega (arith, c.in-Ok.ensures.bound)) (omega (arith, c.read.auto.buf))
      c.ending_of_feed.ensures c.in-Ok.ensures.bytes.0 c.in-Err.ensures;
  waits = tt;
  counted = refl;
}
