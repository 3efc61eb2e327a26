use Rattle.std.proofs.Common.{ap, length, refl, subst, sym, ◌∙◌, arith}
use Rattle.std.specs.Prelude.{Option, IsSome, Some}
use Rattle.trac_rules.specs.Session.{PlainSession, Back}
use Rattle.trac_rules.specs.State.{State}
use Rattle.trac_step.specs.Layout.{Shown}
use Rattle.trac_session.specs.Journal.{IsWithinReach, earlier_of}
use Rattle.trac_session.specs.Runs.{HasMovedBack}
use Rattle.trac_forms.specs.Stored.{Names}
use Rattle.trac_session.proofs.Aged.{AreNewer, recent_passed_back}
use Rattle.trac_session.proofs.Known.{IsSound-forgotten, at_start, few_old, plain_forgotten, recent_trimmed, walked_forgotten}
use Rattle.trac_session.proofs.Passed.{Back_moved, Back_passed, HasPassedBack, IsSound-passed-back, length-moved, moved_back_says, passed_back}
use Rattle.trac_session.proofs.RunsEnd.{run_ends, some_moved}
use Rattle.trac_session.proofs.session.Session.pass_back.Given.{Over}
use Rattle.trac_session.proofs.session.Session.pass_back.Goals as goal
use Rattle.trac_session.proofs.session.Session.pass_back.Goals.{After-move_back}

pub pop_moved-count-requires : goal.pop_moved-count-requires
pop_moved-count-requires g c = few_old c.self.inside.journal.records c.self.inside.machine c.self.invariant

pub move_back-requires : goal.move_back-requires
move_back-requires g c =
    subst (λ (before : Option State). IsSome before) (sym (moved_back_says c.pop_moved-count.result c.pop_moved-count.new.journal.records c.self.invariant.sound c.pop_moved-count.ensures.taken).1) refl

-- the bytes went back, as the fields show it before names are forgotten
went : (g : Over) (c : After-move_back g) →
    HasPassedBack c.self.inside.journal.records c.pop_moved-count.new.journal.records c.self.inside.machine c.move_back.new.self c.pop_moved-count.result
went g c = passed_back c.pop_moved-count.result c.pop_moved-count.new.journal.records c.self.inside.machine c.pop_moved-count.ensures.taken c.move_back.ensures.state c.move_back.ensures.others

pub forget_names-requires : goal.forget_names-requires
forget_names-requires g c = at_start (IsSound-passed-back c.self.invariant.sound (went g (goal.at.forget_names-requires g c).After-move_back))

pub invariant_of-self : goal.invariant_of-self
invariant_of-self g c =
    let back = went g (goal.at.invariant_of-self g c).After-move_back in
    let sound = c.self.invariant.sound in
    let inside = c.self.inside in
    let k = c.move_back.new.self in
    let new = c.pop_moved-count.new.journal.records in
    walked_forgotten Back c.pop_moved-count.result c.self.invariant (ap (λ (u : Shown). u.width) c.move_back.ensures.others) (IsSound-passed-back sound back) (Back_passed sound back refl)
    c.forget_names.ensures.forgotten
    (recent_trimmed inside.mark c.pop_moved-count.new.self new k (IsSound-passed-back sound back) c.pop_moved-count.ensures.trimmed
    (subst (λ (names : Names). AreNewer inside.mark names (earlier_of new k.state)) (sym (ap (λ (u : Shown). u.recent) c.move_back.ensures.others))
    (recent_passed_back inside.mark c.pop_moved-count.result inside.machine.recent k.state (earlier_of new k.state) (earlier_of inside.journal.records inside.machine.state)
    (Back_moved sound back {ended = inside.ended} refl).earlier c.self.invariant.recent)))

pub returns-clause-passed : goal.returns-clause-passed
returns-clause-passed g c =
    Back_passed c.self.invariant.sound (went g (goal.at.returns-clause-passed g c).After-move_back) c.self.view_is
    ∙ ap (λ (p : PlainSession). Some p) (sym (plain_forgotten c.pop_moved-count.new.journal.records c.move_back.new.self c.forget_names.new.machine c.forget_names.ensures.forgotten))

pub returns-clause-moved : goal.returns-clause-moved
returns-clause-moved g c =
    subst (λ (q : PlainSession). HasMovedBack c.pop_moved-count.result c.args.self.now q)
    (sym (plain_forgotten c.pop_moved-count.new.journal.records c.move_back.new.self c.forget_names.new.machine c.forget_names.ensures.forgotten))
    (Back_moved c.self.invariant.sound (went g (goal.at.returns-clause-moved g c).After-move_back) c.self.view_is)

pub returns-clause-end : goal.returns-clause-end
returns-clause-end g c = λ fewer.
    let old = c.self.inside.journal.records in
    let new = c.pop_moved-count.new.journal.records in
    let back = went g (goal.at.returns-clause-end g c).After-move_back in
    let sound = IsSound-forgotten new c.move_back.new.self c.forget_names.new.machine c.forget_names.ensures.forgotten (IsSound-passed-back c.self.invariant.sound back) in
    run_ends (IsWithinReach c.forget_names.new.machine (length c.self.inside.tape.items)) new c.forget_names.new.machine.state sound.records
    (λ first. c.pop_moved-count.ensures.end
    (omega (arith, fewer, c.len-records.ensures, some_moved new first, length-moved new old c.pop_moved-count.result c.pop_moved-count.ensures.taken)) first)
