use Rattle.std.proofs.Common.{◌+◌, arith}
use Rattle.std.proofs.lemmas.Result.{err_from_is_err_and}
use Rattle.trac_run.proofs.Stepped.{feeds_both}
use Rattle.trac_run.proofs.Waited.{few_taken, has_taken_more, has_taken_all}
use Rattle.trac_run.proofs.running.take_input.Goals as goal

pub returns-in_err-waits-2-clause-err : goal.returns-in_err-waits-2-clause-err
returns-in_err-waits-2-clause-err g c = λ n.
    let out = err_from_is_err_and c.from_residual-in_err-waits-2.result c.from_residual-in_err-waits-2.ensures.1 in
    rw (out.1, out.2) (has_taken_all _ _ _ _ _ _ _ _ _ c.args.session.now c.loop-waits.session c.loop-waits.waits (n + 1) _ c.loop-waits.invariant c.loop-waits-test.true (c.in_err-waits-2.ensures.err n))

pub loop-waits-smaller : goal.loop-waits-smaller
loop-waits-smaller g c = c.in_ok-waits-2.ensures.fewer 0 c.loop-waits.invariant.fresh.nothing_read

pub loop-waits-preserved : goal.loop-waits-preserved
loop-waits-preserved g c =
    has_taken_more _ _ _ _ _ _ _ _ _ c.args.session.now c.loop-waits.session _ c.loop-waits.waits c.in_ok-waits-2.waits c.loop-waits.invariant
    c.in_ok-waits-2.ensures.ok c.in_ok-waits-2.ensures.steps c.in_ok-waits-2.ensures.fresh c.in_ok-waits-2.ensures.fewer c.in_ok-waits-2.ensures.waits

pub take_piece-requires-in-loop-waits-clause-few_reads : goal.take_piece-requires-in-loop-waits-clause-few_reads
take_piece-requires-in-loop-waits-clause-few_reads g c =
    omega (arith, c.requires.few_reads, few_taken _ _ _ _ _ _ c.args.session.now c.loop-waits.session c.loop-waits.waits c.requires.fits c.loop-waits.invariant)

pub returns-in_err-waits-clause-steps : goal.returns-in_err-waits-clause-steps
returns-in_err-waits-clause-steps g c =
    let out = err_from_is_err_and c.from_residual.result c.from_residual.ensures.1 in
    rw (out.1, out.2) c.in_err-waits.ensures.steps

pub returns-in_err-waits-2-clause-steps : goal.returns-in_err-waits-2-clause-steps
returns-in_err-waits-2-clause-steps g c =
    let out = err_from_is_err_and c.from_residual-in_err-waits-2.result c.from_residual-in_err-waits-2.ensures.1 in
    let last = c.in_err-waits-2.ensures.steps in
    rw (out.1, out.2) (last.0, last.1, feeds_both 0 0 c.args.session.now c.loop-waits.session _ c.loop-waits.invariant.steps last.2, last.3)

pub returns-in_err-waits-clause-ended : goal.returns-in_err-waits-clause-ended
returns-in_err-waits-clause-ended g c =
    let out = err_from_is_err_and c.from_residual.result c.from_residual.ensures.1 in
    rw out.1 c.in_err-waits.ensures.ended

pub returns-in_err-waits-2-clause-ended : goal.returns-in_err-waits-2-clause-ended
returns-in_err-waits-2-clause-ended g c =
    let out = err_from_is_err_and c.from_residual-in_err-waits-2.result c.from_residual-in_err-waits-2.ensures.1 in
    rw out.1 c.in_err-waits-2.ensures.ended
