use Rattle.std.proofs.Common.{ap, arith}
use Rattle.trac_text.specs.Holding.{ShownTexts, bytes_in}
use Rattle.trac_step.proofs.engine.Core.make_room.Goals as goal

pub returns-clause-ok : goal.returns-clause-ok
returns-clause-ok g c = record {
  text = omega (arith, c.in_ok-reserve.ensures.ok, ap (λ (x : ShownTexts). bytes_in x.texts) c.reserve.ensures.same, c.len.ensures, c.args.made.now.value.ok.0);
  output = omega (arith, c.in_ok-reserve-2.ensures.ok, c.len-2.ensures, c.args.made.now.print.ok.0);
}
