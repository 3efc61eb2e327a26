use Rattle.trac_text.proofs.ScanningBack.{back_at, takes_beginning_back}
use Rattle.trac_text.proofs.texts.Texts.take_beginning_back.Goals as goal

pub pop_beginning-requires-clause-begins : goal.pop_beginning-requires-clause-begins
pop_beginning-requires-clause-begins g c = (takes_beginning_back (record { sound = c.self.invariant; view = c.self.view_is }) c.requires).begins

pub pop_beginning-requires-clause-room : goal.pop_beginning-requires-clause-room
pop_beginning-requires-clause-room g c = (takes_beginning_back (record { sound = c.self.invariant; view = c.self.view_is }) c.requires).room

pub overflow_sub-self : goal.overflow_sub-self
overflow_sub-self g c = (takes_beginning_back (record { sound = c.self.invariant; view = c.self.view_is }) c.requires).some

pub invariant_of-self : goal.invariant_of-self
invariant_of-self g c = (back_at (takes_beginning_back (record { sound = c.self.invariant; view = c.self.view_is }) c.requires).back c.pop_beginning.ensures.text c.pop_beginning.ensures.marks).now.sound

pub returns-clause-back : goal.returns-clause-back
returns-clause-back g c = (back_at (takes_beginning_back (record { sound = c.self.invariant; view = c.self.view_is }) c.requires).back c.pop_beginning.ensures.text c.pop_beginning.ensures.marks).state

pub returns-clause-rooms : goal.returns-clause-rooms
returns-clause-rooms g c = (back_at (takes_beginning_back (record { sound = c.self.invariant; view = c.self.view_is }) c.requires).back c.pop_beginning.ensures.text c.pop_beginning.ensures.marks).now.view
