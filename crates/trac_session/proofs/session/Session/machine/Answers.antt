use Rattle.trac_session.proofs.Known.{names_shown}
use Rattle.trac_session.proofs.Trailed.{room_shown, trail_shown}
use Rattle.trac_session.proofs.session.Session.machine.Goals as goal

pub returns-clause-room : goal.returns-clause-room
returns-clause-room g c = room_shown c.self.inside.tape.items c.self.inside.journal.records c.self.inside.machine c.args.self.now c.self.invariant.sound c.width-width.ensures.room c.self.view_is

pub returns-clause-names : goal.returns-clause-names
returns-clause-names g c = λ none. names_shown c.self.inside.journal.records c.self.inside.machine c.args.self.now c.self.invariant c.self.view_is none

pub returns-clause-trail : goal.returns-clause-trail
returns-clause-trail g c = trail_shown c.self.inside.journal.records c.args.self.now c.self.invariant c.self.view_is
