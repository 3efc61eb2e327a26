use Rattle.trac_step.specs.Record.{kept_in, recorded_by}
use Rattle.trac_step.proofs.GoneBack.{gone_back_over}
use Rattle.trac_step.proofs.engine.Core.undo.Goals as goal

pub returns-clause-state : goal.returns-clause-state
returns-clause-state g c =
    gone_back_over (recorded_by c.args.taken) c.args.self.now c.go_back.new.self (kept_in c.go_back.new.keeper.taken) c.go_back.result c.go_back.ensures.back c.go_back.ensures.none
