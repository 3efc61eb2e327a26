use Rattle.trac_session.proofs.Walked.{Back_answered}
use Rattle.trac_session.specs.Replies.{reply_of}
use Rattle.trac_session.proofs.session.Session.go.Goals as goal

pub returns-in-Backward : goal.returns-in-Backward
returns-in-Backward g c = rw c.in-Backward.is (Back_answered c.args.self.now c.step_back.new.self (reply_of c.step_back.result) c.step_back.ensures)
