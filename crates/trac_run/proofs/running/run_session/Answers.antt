use Rattle.trac_run.proofs.Ran.{few_so_far, so_far_new, so_far_turn, ran, ran_steps}
use Rattle.trac_run.proofs.running.run_session.Goals as goal

pub loop-ending-init : goal.loop-ending-init
loop-ending-init g c = so_far_new _ _ c.args.session.now.width c.args.budget c.args.session.now.limit c.args.session.now c.requires.some_records c.requires.new

pub take_turn-requires-clause-fresh : goal.take_turn-requires-clause-fresh
take_turn-requires-clause-fresh g c = c.loop-ending.invariant.fresh

pub take_turn-requires-clause-at_end : goal.take_turn-requires-clause-at_end
take_turn-requires-clause-at_end g c = c.loop-ending.invariant.on.at_end

pub take_turn-requires-clause-fits : goal.take_turn-requires-clause-fits
take_turn-requires-clause-fits g c = c.loop-ending.invariant.fits

pub take_turn-requires-clause-few_reads : goal.take_turn-requires-clause-few_reads
take_turn-requires-clause-few_reads g c = few_so_far _ _ _ _ c.args.session.now.width c.args.budget c.args.session.now _ _ _ c.requires.most_steps c.loop-ending.invariant

pub returns-in-Err-clause-runs : goal.returns-in-Err-clause-runs
returns-in-Err-clause-runs g c = ran _ _ _ _ _ _ c.args.session.now.width c.args.budget c.args.session.now _ _ _ _ _ c.in-Err.ending c.loop-ending.invariant c.in-Err.ensures.err c.take_turn.ensures.within

pub returns-in-Err-clause-steps : goal.returns-in-Err-clause-steps
returns-in-Err-clause-steps g c = (ran_steps _ _ _ _ _ c.args.session.now.width c.args.budget c.args.session.now _ _ _ _ _ c.loop-ending.invariant c.take_turn.ensures.within c.in-Err.ensures.steps).2.takes

pub returns-in-Err-clause-feeds : goal.returns-in-Err-clause-feeds
returns-in-Err-clause-feeds g c = ran_steps _ _ _ _ _ c.args.session.now.width c.args.budget c.args.session.now _ _ _ _ _ c.loop-ending.invariant c.take_turn.ensures.within c.in-Err.ensures.steps

pub loop-ending-smaller : goal.loop-ending-smaller
loop-ending-smaller g c = c.in_default.ensures.fewer

pub loop-ending-preserved : goal.loop-ending-preserved
loop-ending-preserved g c =
    so_far_turn _ _ _ _ _ _ c.args.session.now.width c.args.budget c.args.session.now _ _ _ _ _ _ c.loop-ending.invariant c.in_default.ensures.ok c.take_turn.ensures.within
    c.in_default.ensures.steps c.in_default.ensures.fresh
