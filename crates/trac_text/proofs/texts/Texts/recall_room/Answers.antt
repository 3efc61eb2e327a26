use Rattle.trac_text.proofs.Holding.{can_hold_now}
use Rattle.trac_text.proofs.texts.Texts.recall_room.Goals as goal

pub returns : goal.returns
returns g c = can_hold_now (record { sound = c.self.invariant; view = c.self.view_is })
