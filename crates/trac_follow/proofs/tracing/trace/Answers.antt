use Rattle.std.proofs.Common.{◌≡◌, ◌+◌, refl, ap, subst, ◌∙◌, arith, Some}
use Rattle.trac_rules.specs.Session.{Back, repeated}
use Rattle.trac_rules.specs.State.{State}
use Rattle.trac_follow.specs.declared.tracing.End as ends
use Rattle.trac_follow.specs.Following.{IsKnown}
use Rattle.trac_follow.specs.Kept.{kept_place}
use Rattle.trac_follow_step.specs.Places.{Stands, place_of}
use Rattle.trac_follow.proofs.Traces.{Way, ends_untold, told_before_call, told_of_call, told_so, told_to_the_end, traced_so, way_ends, way_goes_on, way_is_long, way_walked}
use Rattle.trac_follow.proofs.tracing.trace.Given.{Over}
use Rattle.trac_follow.proofs.tracing.trace.Goals as goal
use Rattle.trac_follow.proofs.tracing.trace.Goals.{After-follow_leg-leg, After-width-width}

-- what is known where the trace begins
trail_known : (g : Over) (c : After-width-width g) → IsKnown c.width-width.result c.args.session.now (place_of c.args.place)
trail_known g c =
    (c.width-width.ensures, c.machine.ensures.trail, subst (λ (t : State). Stands t (place_of c.args.place)) c.machine.ensures.last (c.stands.ensures.there c.if-not-stands.false))

pub loop-leg-preserved : goal.loop-leg-preserved
loop-leg-preserved g c = (
  omega (arith, c.follow_leg-leg.ensures.most, c.loop-leg.invariant.0),
  way_goes_on _ _ _ _ _ _ _ c.loop-leg.invariant.1 _ _ _ c.follow_leg-leg.ensures.back c.follow_leg-leg.ensures.followed
      c.machine-machine.result.now.state (kept_place c.in-Ok.there) c.machine-machine.ensures.last c.in-Ok.ensures.leads,
  λ known.
      told_of_call _ _ _ _ _ _ _ c.loop-leg.invariant.1 _ _ _ c.follow_leg-leg.ensures.back c.follow_leg-leg.ensures.followed
      c.machine-machine.result.now.state (kept_place c.in-Ok.there) c.machine-machine.ensures.last c.in-Ok.ensures.leads known
      g.W.Witness.passes c.args.witness.now c.loop-leg.witness c.passed.new.self (c.loop-leg.invariant.2 known) (place_of c.place.result) c.place.ensures c.in-Ok-passed.ensures.ok,
)

-- the session has gone back over the legs before and this one
walked : (g : Over) (c : After-follow_leg-leg g) → repeated Back (c.loop-leg.steps + c.follow_leg-leg.result.steps) c.args.session.now ≡ Some c.follow_leg-leg.new.session
walked g c = way_walked _ _ _ _ _ _ _ c.loop-leg.invariant.1 _ _ _ c.follow_leg-leg.ensures.back c.follow_leg-leg.ensures.followed

pub returns-in-Err-clause-back : goal.returns-in-Err-clause-back
returns-in-Err-clause-back g c = ap (λ n. repeated Back n c.args.session.now) c.ended-in-Err.ensures.steps ∙ walked g (goal.at.returns-in-Err-clause-back g c).After-follow_leg-leg

pub returns-in_default-clause-back : goal.returns-in_default-clause-back
returns-in_default-clause-back g c = ap (λ n. repeated Back n c.args.session.now) c.ended-in_default.ensures.steps ∙ walked g (goal.at.returns-in_default-clause-back g c).After-follow_leg-leg

pub returns-in-Err-clause-traced : goal.returns-in-Err-clause-traced
returns-in-Err-clause-traced g c =
    let known = trail_known g (goal.at.returns-in-Err-clause-traced g c).After-width-width in
    traced_so _ _ _ _ _ _ _ _ c.ended-in-Err.ensures.steps (c.ended-in-Err.ensures.end ∙ c.in-Err.ensures.ends) known
    (way_ends _ _ _ _ _ _ _ c.loop-leg.invariant.1 _ _ _ c.follow_leg-leg.ensures.back c.follow_leg-leg.ensures.followed c.args.most c.loop-leg.invariant.0 refl c.in-Err.ensures.named known)

pub returns-in_default-clause-traced : goal.returns-in_default-clause-traced
returns-in_default-clause-traced g c =
    let known = trail_known g (goal.at.returns-in_default-clause-traced g c).After-width-width in
    traced_so _ _ _ _ _ _ ends.TheVariants.Untold _ c.ended-in_default.ensures.steps c.ended-in_default.ensures.end known
    (ends_untold _ _ _ _ _ _ _ c.loop-leg.invariant.1 _ _ _ c.follow_leg-leg.ensures.back c.follow_leg-leg.ensures.followed
    c.machine-machine.result.now.state (kept_place c.in-Ok.there) c.machine-machine.ensures.last c.in-Ok.ensures.leads known)

pub returns-clause-traced : goal.returns-clause-traced
returns-clause-traced g c =
    let known = trail_known g (goal.at.returns-clause-traced g c).After-width-width in
    let old = c.args.session.now in
    let cur = c.loop-leg.session in
    let steps = c.loop-leg.steps in
    let here = kept_place c.loop-leg.here in
    let all = subst (λ n. Way c.width-width.result old cur (place_of c.args.place) here steps n) (omega (arith, c.loop-leg-test.false, c.loop-leg.auto)) c.loop-leg.invariant.1 in
    traced_so _ _ _ _ _ _ ends.TheVariants.Earlier _ c.ended-2.ensures.steps c.ended-2.ensures.end known
    (way_is_long c.width-width.result old cur (place_of c.args.place) here steps c.args.most all c.loop-leg.invariant.0 known)

pub returns-in-Err-clause-told : goal.returns-in-Err-clause-told
returns-in-Err-clause-told g c =
    let known = trail_known g (goal.at.returns-in-Err-clause-told g c).After-width-width in
    told_so g.W.Witness.passes g.W.Witness.refuses c.args.session.now _ _ _ _ _ _ c.ended-in-Err.ensures.steps (c.ended-in-Err.ensures.end ∙ c.in-Err.ensures.ends)
    (told_to_the_end _ _ _ _ _ _ _ c.loop-leg.invariant.1 _ _ _ c.follow_leg-leg.ensures.back c.follow_leg-leg.ensures.followed g.W.Witness.passes g.W.Witness.refuses _ _ known
    (c.loop-leg.invariant.2 known))

pub returns-in_default-clause-told : goal.returns-in_default-clause-told
returns-in_default-clause-told g c =
    let known = trail_known g (goal.at.returns-in_default-clause-told g c).After-width-width in
    told_so g.W.Witness.passes g.W.Witness.refuses c.args.session.now _ _ ends.TheVariants.Untold _ _ _ c.ended-in_default.ensures.steps c.ended-in_default.ensures.end
    (told_before_call _ _ _ _ _ _ _ c.loop-leg.invariant.1 _ _ _ c.follow_leg-leg.ensures.back c.follow_leg-leg.ensures.followed
    c.machine-machine.result.now.state (kept_place c.in-Ok.there) c.machine-machine.ensures.last c.in-Ok.ensures.leads known
    g.W.Witness.passes c.args.witness.now c.loop-leg.witness c.passed.new.self (c.loop-leg.invariant.2 known) (place_of c.place.result) c.place.ensures g.W.Witness.refuses c.in_default.ensures.err)
