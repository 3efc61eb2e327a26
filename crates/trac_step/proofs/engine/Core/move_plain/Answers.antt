use Rattle.std.proofs.Common.{length, ap, arith}
use Rattle.trac_rules.specs.PlainRuns.{moved_on}
use Rattle.trac_step.specs.Layout.{Shown}
use Rattle.trac_step.proofs.Lifting.{moved_lifts, rule_shown}
use Rattle.trac_step.proofs.Rooms.{HasRoom-moved_on}
use Rattle.trac_step.proofs.engine.Core.move_plain.Goals as goal

pub returns-clause-moved : goal.returns-clause-moved
returns-clause-moved g c = rule_shown c.self.view_is (moved_on c.gather_plain.result) (moved_lifts c.gather_plain.result) c.gather_plain.new.self c.gather_plain.ensures.moved

pub returns-clause-held : goal.returns-clause-held
returns-clause-held g c = λ k few.
    HasRoom-moved_on c.args.self.now c.args.self.now.state k (omega (arith, few, c.gather_plain.ensures.within, ap (λ (m : Shown). length m.state.active) c.self.view_is)) c.recall_room.ensures.room
