use Rattle.std.proofs.Common.{◌-◌, arith}
use Rattle.trac_streams.specs.declared.lines.TheConstants.{LINE_COUNT_LIMIT}
use Rattle.trac_debug.proofs.Debugged.{debugged, few_reads_by, few_so_far, so_far_more, so_far_none}
use Rattle.trac_debug.proofs.debugging.debug_session.Goals as goal

pub loop-number-init : goal.loop-number-init
loop-number-init g c = so_far_none _ _ c.new-lines.result c.args.session.now c.new-lines.ensures

pub take_line-requires-clause-few_reads : goal.take_line-requires-clause-few_reads
take_line-requires-clause-few_reads g c = omega (arith, few_so_far _ _ _ _ c.args.session.now _ c.loop-number.number _ _ (omega arith) c.loop-number.invariant)

pub returns-in-Err-clause-debugs : goal.returns-in-Err-clause-debugs
returns-in-Err-clause-debugs g c =
    debugged _ _ _ _ _ _ c.args.session.now _ _ c.loop-number.number (c.loop-number.number - 1) c.loop-number.lines c.loop-number.session c.take_line.new.session c.in-Err.ending (omega arith) (omega arith)
    c.loop-number.invariant c.in-Err.ensures.err

pub loop-number-preserved : goal.loop-number-preserved
loop-number-preserved g c =
    so_far_more _ _ _ _ _ _ c.args.session.now _ _ c.loop-number.number c.loop-number.lines c.take_line.new.lines c.loop-number.session c.take_line.new.session
    c.loop-number.invariant c.in_default.ensures.ok

pub returns-clause-debugs : goal.returns-clause-debugs
returns-clause-debugs g c =
    debugged _ _ _ _ _ _ c.args.session.now _ _ c.loop-number.number LINE_COUNT_LIMIT c.loop-number.lines c.loop-number.session c.loop-number.session c.last_ending-ending.result (omega arith) (omega arith)
    c.loop-number.invariant (c.last_ending-ending.ensures c.loop-number.number _ c.loop-number.session (omega (arith, c.loop-number-test.false)))

pub returns-clause-few_reads : goal.returns-clause-few_reads
returns-clause-few_reads g c = few_reads_by _ _ _ _ _ _ _ _ _ _ (returns-clause-debugs g c)

pub returns-in-Err-clause-few_reads : goal.returns-in-Err-clause-few_reads
returns-in-Err-clause-few_reads g c = few_reads_by _ _ _ _ _ _ _ _ _ _ (returns-in-Err-clause-debugs g c)
