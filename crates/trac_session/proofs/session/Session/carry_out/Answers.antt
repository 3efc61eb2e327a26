use Rattle.std.proofs.Common.{subst, sym}
use Rattle.trac_rules.specs.Session.{Back, Answers}
use Rattle.trac_session.proofs.Walked.{Back_answered}
use Rattle.trac_session.proofs.session.Session.carry_out.Goals as goal

pub returns-in-Back : goal.returns-in-Back
returns-in-Back g c =
    rw c.in-Back.is (subst (λ reply. Answers Back c.args.self.now reply c.step_back.new.self) (sym c.reply_to-in-Back.ensures) (Back_answered c.args.self.now c.step_back.new.self _ c.step_back.ensures))
