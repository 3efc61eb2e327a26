use Rattle.std.proofs.Common.{ap, sym}
use Rattle.std.specs.Prelude.{Option, option_map}
use Rattle.trac_rules.specs.Goals.{next_call}
use Rattle.trac_rules.specs.Scanning.{Call}
use Rattle.trac_session.proofs.Doubted.{called}
use Rattle.trac_session.proofs.doubts.arguments_called.Goals as goal

pub returns-in-Some : goal.returns-in-Some
returns-in-Some g c = called (next_call c.args.machine.now.state) _ c.in-Some.arguments c.in-Some.ensures

pub returns-in-None : goal.returns-in-None
returns-in-None g c = ap (λ (o : Option Call). option_map (λ call. call.arguments) o) (sym c.in-None.ensures)
