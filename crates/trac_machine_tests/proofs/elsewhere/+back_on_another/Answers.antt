use Rattle.std.proofs.Common.{◌≡◌, Some, sym, subst, arith}
use Rattle.trac_rules.specs.State.{State}
use Rattle.trac_step.specs.Record.{before}
use Rattle.trac_step.proofs.Rooms.{no_less_then}
use Rattle.trac_machine_tests.proofs.Walks.{goes_back, room_before}
use Rattle.trac_machine_tests.proofs.elsewhere.+back_on_another.Goals as goal

pub go_back-requires : goal.go_back-requires
go_back-requires g t c =
    goes_back _ c.args.machine.now.state c.args.other.now c.back_on_another.new.other (subst (λ (s : State). before c.take_step-taken.result s ≡ Some c.args.machine.now.state) (sym c.back_on_another.ensures.state) c.take_step-taken.ensures.back) c.back_on_another.ensures.room (room_before _ c.args.left c.args.machine.now.state c.args.other.now (omega arith) c.requires.leads)

pub returns-clause-room : goal.returns-clause-room
returns-clause-room g t c =
    no_less_then c.args.other.now c.back_on_another.new.other c.go_back.new.machine c.back_on_another.ensures.room c.go_back.ensures.room
