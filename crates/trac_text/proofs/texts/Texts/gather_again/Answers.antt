use Rattle.std.proofs.Common.{arith}
use Rattle.trac_text.proofs.ScanningBack.{back_at, gathers_again, is_there, some_mark}
use Rattle.trac_text.proofs.texts.Texts.gather_again.Goals as goal

pub pop_mark-requires-clause-marks : goal.pop_mark-requires-clause-marks
pop_mark-requires-clause-marks g c = some_mark (record { sound = c.self.invariant; view = c.self.view_is }) (is_there _ _ c.requires)

pub pop_mark-requires-clause-room : goal.pop_mark-requires-clause-room
pop_mark-requires-clause-room g c = omega (arith, (gathers_again (record { sound = c.self.invariant; view = c.self.view_is }) c.requires).now.sound.text_room)

pub invariant_of-self : goal.invariant_of-self
invariant_of-self g c = (back_at (gathers_again (record { sound = c.self.invariant; view = c.self.view_is }) c.requires) c.pop_mark.ensures.text c.pop_mark.ensures.marks).now.sound

pub returns-clause-back : goal.returns-clause-back
returns-clause-back g c = (back_at (gathers_again (record { sound = c.self.invariant; view = c.self.view_is }) c.requires) c.pop_mark.ensures.text c.pop_mark.ensures.marks).state

pub returns-clause-rooms : goal.returns-clause-rooms
returns-clause-rooms g c = (back_at (gathers_again (record { sound = c.self.invariant; view = c.self.view_is }) c.requires) c.pop_mark.ensures.text c.pop_mark.ensures.marks).now.view
