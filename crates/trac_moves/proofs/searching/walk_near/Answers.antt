use Rattle.std.proofs.Common.{min, sym, ◌∙◌, arith}
use Rattle.trac_rules.specs.Session.{Step}
use Rattle.trac_session.proofs.Walked.{repeated-from}
use Rattle.trac_moves.proofs.Searched.{kept_second, near_first, near_second}
use Rattle.trac_moves.proofs.SearchedAnew.{legs_within}
use Rattle.trac_moves.proofs.SearchedOn.{other_why, unmet, unmet_why}
use Rattle.trac_moves.proofs.searching.walk_near.Goals as goal

pub returns-then-has_met_nothing-clause-within : goal.returns-then-has_met_nothing-clause-within
returns-then-has_met_nothing-clause-within g c =
    legs_within c.walk_leg-first.result.done c.second_leg-leg.result.most c.walk_leg-second.result.done (min c.args.most c.args.room.steps) c.args.most
    (omega (arith, c.walk_leg-first.ensures.within, c.min.ensures)) (omega arith) c.second_leg-leg.ensures.kept c.second_leg-leg.ensures.others c.walk_leg-second.ensures.within

pub returns-then-has_met_nothing-clause-walked : goal.returns-then-has_met_nothing-clause-walked
returns-then-has_met_nothing-clause-walked g c =
    repeated-from Step c.walk_leg-first.result.done c.walk_leg-second.result.done c.args.session.now c.walk_leg-first.new.session c.walk_leg-first.ensures.walked ∙ c.walk_leg-second.ensures.walked

pub returns-then-has_met_nothing-clause-near : goal.returns-then-has_met_nothing-clause-near
returns-then-has_met_nothing-clause-near g c = λ begun.
    near_second c.args.room.light c.args.room.weight _ (min c.args.most c.args.room.steps) c.args.most c.walk_leg-first.result.done c.second_leg-leg.result.most c.second_leg-leg.result.weight
    c.walk_leg-second.result.done c.args.session.now c.walk_leg-first.new.session c.walk_leg-second.new.session c.walk_leg-second.result.why c.full_for.result c.args.room.lighter (omega arith) begun
    (unmet c.min.ensures (unmet_why c.walk_leg-first.result.why (sym c.has_met_nothing.ensures ∙ c.if-has_met_nothing.true)) (c.walk_leg-first.ensures.light begun))
    c.second_leg-leg.ensures.kept c.second_leg-leg.ensures.others c.walk_leg-second.ensures.within c.walk_leg-second.ensures.light c.walk_leg-second.ensures.heavy c.full_for.ensures

pub returns-then-has_met_nothing-clause-kept : goal.returns-then-has_met_nothing-clause-kept
returns-then-has_met_nothing-clause-kept g c = λ begun.
    kept_second c.args.room.light c.args.room.weight _ (min c.args.most c.args.room.steps) c.args.most c.walk_leg-first.result.done c.second_leg-leg.result.most c.second_leg-leg.result.weight
    c.walk_leg-second.result.done c.args.session.now c.walk_leg-first.new.session c.walk_leg-second.new.session c.walk_leg-second.result.why c.full_for.result c.args.room.lighter (omega arith) begun
    (unmet c.min.ensures (unmet_why c.walk_leg-first.result.why (sym c.has_met_nothing.ensures ∙ c.if-has_met_nothing.true)) (c.walk_leg-first.ensures.light begun))
    c.second_leg-leg.ensures.kept c.second_leg-leg.ensures.others c.walk_leg-second.ensures.within c.walk_leg-second.ensures.light c.walk_leg-second.ensures.heavy c.full_for.ensures

pub returns-else-has_met_nothing-clause-near : goal.returns-else-has_met_nothing-clause-near
returns-else-has_met_nothing-clause-near g c = λ begun.
    near_first c.args.room.light c.args.room.light _ c.min.result c.args.most c.args.most c.walk_leg-first.result.done c.args.session.now c.walk_leg-first.new.session
    c.walk_leg-first.result.why c.full_for-else-has_met_nothing.result (omega arith) (omega (arith, c.min.ensures)) (other_why c.walk_leg-first.result.why (sym c.has_met_nothing.ensures ∙ c.if-has_met_nothing.false))
    (c.walk_leg-first.ensures.light begun) c.full_for-else-has_met_nothing.ensures

pub returns-else-has_met_nothing-clause-kept : goal.returns-else-has_met_nothing-clause-kept
returns-else-has_met_nothing-clause-kept g c = λ begun.
    near_first c.args.room.light c.args.room.weight _ c.min.result (min c.args.most c.args.room.steps) c.args.most c.walk_leg-first.result.done c.args.session.now
    c.walk_leg-first.new.session c.walk_leg-first.result.why c.full_for-else-has_met_nothing.result c.args.room.lighter (omega (arith, c.min.ensures)) (other_why c.walk_leg-first.result.why (sym c.has_met_nothing.ensures ∙ c.if-has_met_nothing.false))
    (c.walk_leg-first.ensures.light begun) c.full_for-else-has_met_nothing.ensures
