use Rattle.std.proofs.Common.{◌≡◌, length, refl, ap, subst, sym, ◌∙◌, arith}
use Rattle.trac_journal.specs.Journaled.{Journaled}
use Rattle.trac_rules.specs.Session.{Step}
use Rattle.trac_step.specs.Layout.{Shown}
use Rattle.trac_forms.specs.Stored.{Names}
use Rattle.trac_session.specs.Journal.{earlier_of}
use Rattle.trac_session.specs.Knowing.{AreRecent}
use Rattle.trac_session.proofs.Aged.{recent_passed}
use Rattle.trac_session.proofs.Known.{own_passed}
use Rattle.trac_session.proofs.Passed.{HasPassed, IsSound-passed, Step_moved, Step_passed, moved_weigh_nothing, no_plain_ahead}
use Rattle.trac_session.proofs.Summed.{journal_weighs}
use Rattle.trac_session.proofs.Trailed.{walked}
use Rattle.trac_session.proofs.session.Session.pass_plain.Given.{Over}
use Rattle.trac_session.proofs.session.Session.pass_plain.Goals as goal
use Rattle.trac_session.proofs.session.Session.pass_plain.Goals.{After-push_moved}

passed : (g : Over) (c : After-push_moved g) →
    HasPassed c.self.inside.limit c.self.inside.journal.records c.push_moved.new.self.records c.self.inside.machine c.move_plain-count.new.self c.move_plain-count.result
passed g c =
    let count : c.len.result ≡ length c.self.inside.journal.records = c.len.ensures in
    let plain = c.move_plain-count.ensures in
    record {
      proper = plain.proper;
      plain = plain.plain;
      fits = omega (arith, c.self.invariant.sound.within_limit);
      kept = ap (λ (j : Journaled). j.records) c.push_moved.ensures;
      moved = plain.moved;
      held = plain.held;
    }

pub invariant_of-self : goal.invariant_of-self
invariant_of-self g c =
    let run = passed g (goal.at.invariant_of-self g c).After-push_moved in
    let sound = c.self.invariant.sound in
    walked Step c.move_plain-count.result c.self.invariant (ap (λ (u : Shown). u.width) c.move_plain-count.ensures.moved) (IsSound-passed run sound) (Step_passed run sound refl)
    (own_passed c.move_plain-count.result c.self.inside.journal.records c.push_moved.new.self.records c.self.inside.machine c.move_plain-count.new.self run.kept run.moved c.self.invariant.names)
    (subst (λ (names : Names). AreRecent c.self.inside.mark names (earlier_of c.push_moved.new.self.records c.move_plain-count.new.self.state)) (sym (ap (λ (u : Shown). u.recent) run.moved))
    (recent_passed c.self.inside.mark c.move_plain-count.result c.self.inside.machine.recent c.self.inside.machine.state (earlier_of c.self.inside.journal.records c.self.inside.machine.state)
    (earlier_of c.push_moved.new.self.records c.move_plain-count.new.self.state) (Step_moved run {bytes = c.self.inside.tape.items} {ended = c.self.inside.ended} refl).earlier c.move_plain-count.ensures.recent
    c.self.invariant.recent))

pub returns-clause-passed : goal.returns-clause-passed
returns-clause-passed g c = Step_passed (passed g (goal.at.returns-clause-passed g c).After-push_moved) c.self.invariant.sound c.self.view_is

pub returns-clause-moved : goal.returns-clause-moved
returns-clause-moved g c = Step_moved (passed g (goal.at.returns-clause-moved g c).After-push_moved) c.self.view_is

pub returns-clause-weight : goal.returns-clause-weight
returns-clause-weight g c =
    let run = passed g (goal.at.returns-clause-weight g c).After-push_moved in
    let sound = IsSound-passed run c.self.invariant.sound in
    sym (journal_weighs {width = c.move_plain-count.new.self.width} _ c.self.inside.limit c.self.inside.tape.items c.self.inside.ended c.push_moved.new.self.records c.move_plain-count.new.self.state _ refl sound.records)
    ∙ moved_weigh_nothing c.self.inside.journal.records c.push_moved.new.self.records c.move_plain-count.result run.kept
    ∙ journal_weighs _ _ _ _ c.self.inside.journal.records _ _ c.self.view_is c.self.invariant.sound.records

pub returns-clause-end : goal.returns-clause-end
returns-clause-end g c = λ fewer.
    let run = passed g (goal.at.returns-clause-end g c).After-push_moved in
    let count : c.len.result ≡ length c.self.inside.journal.records = c.len.ensures in
    no_plain_ahead c.min.result run (IsSound-passed run c.self.invariant.sound) c.move_plain-count.ensures.end (λ place. omega (arith, place, fewer, c.min.ensures, c.self.invariant.sound.within_limit))
