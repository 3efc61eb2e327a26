use Rattle.std.proofs.Common.{ap}
use Rattle.trac_forms.specs.Stored.{storage_in}
use Rattle.trac_session.proofs.Doubted.{judged}
use Rattle.trac_session.proofs.doubts.ahead.Goals as goal

pub returns : goal.returns
returns g c =
    judged c.args.width c.args.machine.now.state c.arguments_called-call.result c.active.result.now c.depth.result (storage_in c.store.result.now) c.arguments_called-call.ensures c.active.ensures c.depth.ensures
    (ap storage_in c.store.ensures)
