use Rattle.std.proofs.Common.{◌<◌, ◌∙◌, arith, sym}
use Rattle.trac_session.specs.Directions.{command_towards}
use Rattle.trac_session.specs.Goals.{goal_at}
use Rattle.trac_session.proofs.Heavy.{met_after, passed_walk, unmet_after, way_begun, way_ended, way_further, way_heavy, way_met, way_met_passing, way_passed, way_refused}
use Rattle.trac_session.proofs.Walked.{asked_for, one_walk, refused_same}
use Rattle.trac_session.proofs.session.Session.walk.Goals as goal

pub loop-direction-init : goal.loop-direction-init
loop-direction-init g c =
    way_begun c.args.direction (goal_at c.args.goal) c.args.n c.steps_within-most.result c.args.self.now c.steps_within-most.ensures.most c.steps_within-most.ensures.light c.steps_within-most.ensures.heavy

-- ---- over plain bytes

pub returns-then-has_met-clause-walk : goal.returns-then-has_met-clause-walk
returns-then-has_met-clause-walk g c =
    let more = passed_walk (command_towards c.args.direction) (goal_at c.args.goal) c.pass-passed.result c.loop-direction.self c.pass-passed.new.self c.pass-passed.ensures.passed c.pass-passed.ensures.quiet
    (λ several. c.at_once-left.ensures.quiet (omega (arith, several, c.pass-passed.ensures.most))) in
    let met = met_after c.pass-passed.result _ (sym c.has_met.ensures ∙ c.if-has_met.true) in
    way_met_passing c.loop-direction.invariant c.pass-passed.result c.pass-passed.new.self more met.0 met.1 (omega (arith, c.pass-passed.ensures.most, c.at_once-left.ensures.most, c.loop-direction.invariant.few)) c.pass-passed.ensures.weight

pub returns-then-done-most-clause-walk : goal.returns-then-done-most-clause-walk
returns-then-done-most-clause-walk g c =
    let more = passed_walk (command_towards c.args.direction) (goal_at c.args.goal) c.pass-passed.result c.loop-direction.self c.pass-passed.new.self c.pass-passed.ensures.passed c.pass-passed.ensures.quiet
    (λ several. c.at_once-left.ensures.quiet (omega (arith, several, c.pass-passed.ensures.most))) in
    let way = way_passed c.loop-direction.invariant c.pass-passed.result c.pass-passed.new.self more (unmet_after c.pass-passed.result _ (sym c.has_met.ensures ∙ c.if-has_met.false)) (omega (arith, c.pass-passed.ensures.most, c.at_once-left.ensures.most, c.loop-direction.invariant.few)) c.pass-passed.ensures.weight in
    way_ended way (omega (arith, c.if-done-most.true))

pub loop-direction-preserved-then-passed-left : goal.loop-direction-preserved-then-passed-left
loop-direction-preserved-then-passed-left g c =
    let more = passed_walk (command_towards c.args.direction) (goal_at c.args.goal) c.pass-passed.result c.loop-direction.self c.pass-passed.new.self c.pass-passed.ensures.passed c.pass-passed.ensures.quiet
    (λ several. c.at_once-left.ensures.quiet (omega (arith, several, c.pass-passed.ensures.most))) in
    let way = way_passed c.loop-direction.invariant c.pass-passed.result c.pass-passed.new.self more (unmet_after c.pass-passed.result _ (sym c.has_met.ensures ∙ c.if-has_met.false)) (omega (arith, c.pass-passed.ensures.most, c.at_once-left.ensures.most, c.loop-direction.invariant.few)) c.pass-passed.ensures.weight in
    way

-- ---- and a step

pub returns-in-Err-clause-walk : goal.returns-in-Err-clause-walk
returns-in-Err-clause-walk g c =
    let more = passed_walk (command_towards c.args.direction) (goal_at c.args.goal) c.pass-passed.result c.loop-direction.self c.pass-passed.new.self c.pass-passed.ensures.passed c.pass-passed.ensures.quiet
    (λ several. c.at_once-left.ensures.quiet (omega (arith, several, c.pass-passed.ensures.most))) in
    let way = way_passed c.loop-direction.invariant c.pass-passed.result c.pass-passed.new.self more (unmet_after c.pass-passed.result _ (sym c.has_met.ensures ∙ c.if-has_met.false)) (omega (arith, c.pass-passed.ensures.most, c.at_once-left.ensures.most, c.loop-direction.invariant.few)) c.pass-passed.ensures.weight in
    let left : c.pass-passed.result < c.at_once-left.result = omega (arith, c.if-passed-left.false, c.pass-passed.ensures.most) in
    rw c.refused.ensures (way_refused way c.go.new.self c.in-Err.refusal (omega (arith, left, c.at_once-left.ensures.most)) c.in-Err.ensures)

pub returns-in-Err-clause-asked : goal.returns-in-Err-clause-asked
returns-in-Err-clause-asked g c =
    let left : c.pass-passed.result < c.at_once-left.result = omega (arith, c.if-passed-left.false, c.pass-passed.ensures.most) in
    rw c.refused.ensures (asked_for c.args.direction c.pass-passed.new.self c.go.new.self c.in-Err.refusal
    (refused_same c.args.direction c.pass-passed.new.self c.go.new.self c.in-Err.refusal c.in-Err.ensures) c.in-Err.ensures (λ forward. c.pass-passed.ensures.end forward left))

pub returns-then-has_met-2-clause-walk : goal.returns-then-has_met-2-clause-walk
returns-then-has_met-2-clause-walk g c =
    let more = passed_walk (command_towards c.args.direction) (goal_at c.args.goal) c.pass-passed.result c.loop-direction.self c.pass-passed.new.self c.pass-passed.ensures.passed c.pass-passed.ensures.quiet
    (λ several. c.at_once-left.ensures.quiet (omega (arith, several, c.pass-passed.ensures.most))) in
    let way = way_passed c.loop-direction.invariant c.pass-passed.result c.pass-passed.new.self more (unmet_after c.pass-passed.result _ (sym c.has_met.ensures ∙ c.if-has_met.false)) (omega (arith, c.pass-passed.ensures.most, c.at_once-left.ensures.most, c.loop-direction.invariant.few)) c.pass-passed.ensures.weight in
    let left : c.pass-passed.result < c.at_once-left.result = omega (arith, c.if-passed-left.false, c.pass-passed.ensures.most) in
    let one = one_walk (command_towards c.args.direction) (goal_at c.args.goal) c.pass-passed.new.self c.go.new.self c.in_default.ensures in
    way_met way c.go.new.self c.in_default.ensures one (omega (arith, left, c.at_once-left.ensures.most)) (met_after 1 _ (sym c.has_met-in-loop-direction.ensures ∙ c.if-has_met-2.true)).1

pub returns-then-is_heavy-clause-walk : goal.returns-then-is_heavy-clause-walk
returns-then-is_heavy-clause-walk g c =
    let more = passed_walk (command_towards c.args.direction) (goal_at c.args.goal) c.pass-passed.result c.loop-direction.self c.pass-passed.new.self c.pass-passed.ensures.passed c.pass-passed.ensures.quiet
    (λ several. c.at_once-left.ensures.quiet (omega (arith, several, c.pass-passed.ensures.most))) in
    let way = way_passed c.loop-direction.invariant c.pass-passed.result c.pass-passed.new.self more (unmet_after c.pass-passed.result _ (sym c.has_met.ensures ∙ c.if-has_met.false)) (omega (arith, c.pass-passed.ensures.most, c.at_once-left.ensures.most, c.loop-direction.invariant.few)) c.pass-passed.ensures.weight in
    let left : c.pass-passed.result < c.at_once-left.result = omega (arith, c.if-passed-left.false, c.pass-passed.ensures.most) in
    let one = one_walk (command_towards c.args.direction) (goal_at c.args.goal) c.pass-passed.new.self c.go.new.self c.in_default.ensures in
    way_heavy way c.go.new.self c.in_default.ensures one (omega (arith, left, c.at_once-left.ensures.most)) (unmet_after 1 _ (sym c.has_met-in-loop-direction.ensures ∙ c.if-has_met-2.false) (omega arith)) (c.is_heavy.ensures.heavy c.if-is_heavy.true)

pub loop-direction-preserved : goal.loop-direction-preserved
loop-direction-preserved g c =
    let more = passed_walk (command_towards c.args.direction) (goal_at c.args.goal) c.pass-passed.result c.loop-direction.self c.pass-passed.new.self c.pass-passed.ensures.passed c.pass-passed.ensures.quiet
    (λ several. c.at_once-left.ensures.quiet (omega (arith, several, c.pass-passed.ensures.most))) in
    let way = way_passed c.loop-direction.invariant c.pass-passed.result c.pass-passed.new.self more (unmet_after c.pass-passed.result _ (sym c.has_met.ensures ∙ c.if-has_met.false)) (omega (arith, c.pass-passed.ensures.most, c.at_once-left.ensures.most, c.loop-direction.invariant.few)) c.pass-passed.ensures.weight in
    let left : c.pass-passed.result < c.at_once-left.result = omega (arith, c.if-passed-left.false, c.pass-passed.ensures.most) in
    let one = one_walk (command_towards c.args.direction) (goal_at c.args.goal) c.pass-passed.new.self c.go.new.self c.in_default.ensures in
    way_further way c.go.new.self c.in_default.ensures one (unmet_after 1 _ (sym c.has_met-in-loop-direction.ensures ∙ c.if-has_met-2.false) (omega arith)) (omega (arith, left, c.at_once-left.ensures.most)) (c.is_heavy.ensures.light c.if-is_heavy.false)
