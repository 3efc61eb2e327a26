-- Each end of the loop is that of a byte that was carried so far.
use Rattle.std.proofs.Common.{length, refl, sym, ◌∙◌, inl, inr, ap, subst, arith}
use Rattle.trac_rules.specs.Session.{PlainSession}
use Rattle.trac_rules.specs.State.{State}
use Rattle.trac_follow_step.specs.Places.{place_of}
use Rattle.trac_follow.proofs.RunsBack.{run_on, same_session}
use Rattle.trac_follow.proofs.StepsBack.{GoesBack, HasTold, WentBack, has_told, no_way_back, none_by_test, refused_end, some_by_test, step_to, stops, turned_end, turned_on, went_back}
use Rattle.trac_follow.proofs.history.follow_from.Given.{Over}
use Rattle.trac_follow.proofs.history.follow_from.Goals as goal
use Rattle.trac_follow.proofs.history.follow_from.Goals.{After-machine-in-loop-steps-2, After-turn_of, else-loop-steps-test, then-loop-steps-test+else-count-gt0+then-is_some}

pub loop-steps-preserved-then-count-gt0 : goal.loop-steps-preserved-then-count-gt0
loop-steps-preserved-then-count-gt0 g c = (
  omega (arith, c.pass_back-count.ensures.most, c.loop-steps-test.true),
  run_on c.args.width c.args.session.now c.loop-steps.session c.pass_back-count.new.self (place_of c.args.place) (place_of c.loop-steps.here) (place_of c.before_run-here.result) c.loop-steps.steps
      c.loop-steps.measure.0 c.pass_back-count.result c.loop-steps.measure.1 c.loop-steps.invariant.1 c.pass_back-count.ensures.passed c.pass_back-count.ensures.moved
      c.machine-then-count-gt0.result.now.state c.machine-then-count-gt0.ensures.last c.before_run-here.ensures,
)

-- what is known before the step back, which was done
came : (g : Over) (c : After-machine-in-loop-steps-2 g) →
    GoesBack c.args.width c.args.session.now c.pass_back-count.new.self (place_of c.args.place) (place_of c.loop-steps.here) c.loop-steps.steps c.loop-steps.measure.0 c.loop-steps.measure.1
    × WentBack c.pass_back-count.new.self c.back.new.self
came g c =
    let same = same_session c.pass_back-count.result c.loop-steps.session c.pass_back-count.new.self c.pass_back-count.ensures.passed c.if-count-gt0.false in (
      subst (λ (p : PlainSession). GoesBack c.args.width c.args.session.now p (place_of c.args.place) (place_of c.loop-steps.here) c.loop-steps.steps c.loop-steps.measure.0 c.loop-steps.measure.1) same
          c.loop-steps.invariant.1,
      went_back c.pass_back-count.new.self c.back.new.self c.back.result.done c.back.result.why c.back.ensures (none_by_test c.back.result.why c.is_some.result c.is_some.ensures c.if-is_some.false),
    )

-- and what is told of it
told : (g : Over) (c : After-turn_of g) →
    HasTold c.args.width c.args.session.now c.pass_back-count.new.self c.back.new.self (place_of c.args.place) (place_of c.loop-steps.here) c.loop-steps.steps c.loop-steps.measure.0 c.loop-steps.measure.1 c.in-Ok.origin
told g c =
    let known = came g (goal.at.After-turn_of g c).After-machine-in-loop-steps-2 in
    let seen = c.seen_after-after.ensures in
    has_told c.args.width c.args.session.now c.pass_back-count.new.self c.back.new.self (place_of c.args.place) (place_of c.loop-steps.here) c.loop-steps.steps c.loop-steps.measure.0 c.loop-steps.measure.1
    c.seen_after-after.result c.machine-in-loop-steps.result.now.state c.machine-in-loop-steps-4.result.now.state c.in-Ok.origin known.0 known.1 seen.active seen.output seen.extent seen.gap seen.read
    c.machine-in-loop-steps.ensures.last c.machine-in-loop-steps-4.ensures.last c.in-Ok.ensures.tells

pub loop-steps-preserved-in-Some : goal.loop-steps-preserved-in-Some
loop-steps-preserved-in-Some g c =
    let known = came g (goal.at.loop-steps-preserved-in-Some g c).After-machine-in-loop-steps-2 in
    let left = c.seen_after-after.ensures.active ∙ ap (λ (s : State). length s.active) c.machine-in-loop-steps.ensures.last in (
      omega (arith, c.loop-steps-test.true),
      step_to c.args.width c.args.session.now c.pass_back-count.new.self c.back.new.self (place_of c.args.place) (place_of c.loop-steps.here) (place_of c.in-Some.there) c.loop-steps.steps
          c.loop-steps.measure.0 c.loop-steps.measure.1 c.machine-in-loop-steps-2.result.now.state known.0 known.1 c.machine-in-loop-steps-2.ensures.last
          (λ placed environment item h stands.
          let came = c.in-Some.ensures environment c.pass_back-count.new.self.last item h left stands in
          (came.0, came.1 c.loop-steps.measure.0 c.loop-steps.measure.1, came.2)),
    )

pub loop-steps-preserved-then-stays : goal.loop-steps-preserved-then-stays
loop-steps-preserved-then-stays g c =
    let known = came g (goal.at.loop-steps-preserved-then-stays g c).After-machine-in-loop-steps-2 in (
      omega (arith, c.loop-steps-test.true),
      step_to c.args.width c.args.session.now c.pass_back-count.new.self c.back.new.self (place_of c.args.place) (place_of c.loop-steps.here) (place_of c.loop-steps.here) c.loop-steps.steps
          c.loop-steps.measure.0 c.loop-steps.measure.1 c.machine-in-loop-steps-3.result.now.state known.0 known.1 c.machine-in-loop-steps-3.ensures.last
          (λ placed environment item h stands. c.stays.ensures c.if-stays.true environment c.pass_back-count.new.self.last item h stands placed),
    )

pub loop-steps-preserved : goal.loop-steps-preserved
loop-steps-preserved g c = (
  omega (arith, c.loop-steps-test.true),
  turned_on c.args.width c.args.session.now c.pass_back-count.new.self c.back.new.self (place_of c.args.place) c.loop-steps.here c.loop-steps.steps c.loop-steps.measure.0 c.loop-steps.measure.1
      c.in-Ok.origin (told g (goal.at.loop-steps-preserved g c).After-turn_of) c.machine-in-loop-steps-5.result.now.state c.machine-in-On.result.now.state c.turn_of.result c.in-On.there
      c.measured-measure-in-On.result.0 c.measured-measure-in-On.result.1 c.machine-in-loop-steps-5.ensures.last c.turn_of.ensures c.in-On.is c.machine-in-On.ensures.last c.measured-measure-in-On.ensures,
)

pub returns-in-Found-clause-followed : goal.returns-in-Found-clause-followed
returns-in-Found-clause-followed g c =
    turned_end c.args.width c.args.session.now c.pass_back-count.new.self c.back.new.self (place_of c.args.place) c.loop-steps.here c.loop-steps.steps c.loop-steps.measure.0 c.loop-steps.measure.1
    c.in-Ok.origin (told g (goal.at.returns-in-Found-clause-followed g c).After-turn_of) c.machine-in-loop-steps-5.result.now.state c.args.most c.turn_of.result c.in-Found.source _
    c.machine-in-loop-steps-5.ensures.last c.turn_of.ensures c.in-Found.is refl refl

pub returns-in_default-origin_of-clause-followed : goal.returns-in_default-origin_of-clause-followed
returns-in_default-origin_of-clause-followed g c =
    let known = came g (goal.at.returns-in_default-origin_of-clause-followed g c).After-machine-in-loop-steps-2 in
    refused_end c.args.width c.args.session.now c.pass_back-count.new.self c.back.new.self (place_of c.args.place) (place_of c.loop-steps.here) c.loop-steps.steps c.loop-steps.measure.0 c.loop-steps.measure.1
    c.machine-in-loop-steps-4.result.now.state c.args.most _ known.0 known.1 c.machine-in-loop-steps-4.ensures.last c.in_default-origin_of.ensures.lists refl refl

pub returns-clause-followed : goal.returns-clause-followed
returns-clause-followed g c = λ known.
    elim c.loop-steps-test.branch [
      | else-loop-steps-test w ↦
          stops c.args.width c.args.session.now c.loop-steps.session c.loop-steps-test.session (place_of c.args.place) c.loop-steps.here c.loop-steps.steps _ _ c.args.most _
          c.loop-steps.invariant.1 (inl (omega (arith, w.loop-steps-test.false, c.loop-steps.invariant.0))) w.session-is refl refl known
      | then-loop-steps-test+else-count-gt0+then-is_some w ↦
          let same = same_session w.pass_back-count.result c.loop-steps.session w.pass_back-count.new.self w.pass_back-count.ensures.passed w.if-count-gt0.false in
          let refusal = some_by_test w.back.result.why w.is_some.result w.is_some.ensures w.if-is_some.true in
          let nowhere = no_way_back w.pass_back-count.new.self w.back.new.self w.back.result.done w.back.result.why refusal.0 w.back.ensures refusal.1 in
          stops c.args.width c.args.session.now c.loop-steps.session c.loop-steps-test.session (place_of c.args.place) c.loop-steps.here c.loop-steps.steps _ _ c.args.most _
          c.loop-steps.invariant.1 (inr (ap (λ (p : PlainSession). p.earlier) (same ∙ sym nowhere.0) ∙ nowhere.1)) (w.session-is ∙ nowhere.0 ∙ sym same) refl refl known
    ]
