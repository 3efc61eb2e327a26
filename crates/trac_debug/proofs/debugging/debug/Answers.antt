use Rattle.std.proofs.Common.{refl, arith}
use Rattle.trac_debug.proofs.Debugged.{debugged_not, debugged_over, refused_too_long}
use Rattle.trac_debug.proofs.debugging.debug.Goals as goal

pub returns-in-Err-clause-debugs : goal.returns-in-Err-clause-debugs
returns-in-Err-clause-debugs g c = debugged_not _ _ c.args.tape.now c.args.options.journal c.args.options.decimals c.in-Err.ending c.in-Err.ensures.refused

pub returns-in-Err-clause-too_long : goal.returns-in-Err-clause-too_long
returns-in-Err-clause-too_long g c long = refused_too_long c.args.tape.now c.in-Err.ending c.in-Err.ensures.refused long

pub returns-in-Err-clause-unread : goal.returns-in-Err-clause-unread
returns-in-Err-clause-unread g c long = refl

pub returns-clause-debugs : goal.returns-clause-debugs
returns-clause-debugs g c = debugged_over _ _ _ _ c.args.tape.now c.args.options.journal c.args.options.decimals c.in-Ok.session c.debug_session.new.session c.debug_session.result.ending c.in-Ok.ensures.made c.debug_session.ensures.debugs.debugs

pub returns-clause-too_long : goal.returns-clause-too_long
returns-clause-too_long g c long = absurd (omega (arith, c.in-Ok.ensures.made.within, long))

pub returns-clause-unread : goal.returns-clause-unread
returns-clause-unread g c long = absurd (omega (arith, c.in-Ok.ensures.made.within, long))
