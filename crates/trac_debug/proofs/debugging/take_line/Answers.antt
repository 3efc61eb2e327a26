use Rattle.std.proofs.Common.{sym, subst, take, arith}
use Rattle.std.proofs.lemmas.Result.{err_from_is_err_and}
use Rattle.trac_streams.specs.declared.ending.Ending.TheVariants.{Ended, NotUnderstood}
use Rattle.trac_debug.specs.Debugs.{Halts}
use Rattle.trac_streams.specs.Reading.{IsFront}
use Rattle.trac_debug.proofs.Answered.{settles_at, stops_at}
use Rattle.trac_debug.proofs.Debugged.{advances, halts_at_end, halts_in, halts_before, halts_too_long, halts_long, halts_unread}
use Rattle.trac_debug.proofs.debugging.take_line.Goals as goal

pub returns-in_err-seek_counted-clause-err : goal.returns-in_err-seek_counted-clause-err
returns-in_err-seek_counted-clause-err g c =
    let out = err_from_is_err_and c.from_residual.result c.from_residual.ensures.1 in
    rw out.1 (subst (Halts (g.R.Read.remaining c.args.commands.now) (g.R.Read.remaining c.seek_counted.new.input) (g.W.Write.contents c.args.output.now) (g.W.Write.contents c.args.output.now)
    c.args.reads.now c.seek_counted.new.reads c.args.number c.args.lines.now c.args.session.now c.args.session.now) (sym out.2)
    (halts_unread _ _ _ _ _ c.args.number c.args.lines.now _ c.args.session.now _ c.in_err-seek_counted.ensures.failed))

pub returns-then-len-gt-LINE_LIMIT-clause-err : goal.returns-then-len-gt-LINE_LIMIT-clause-err
returns-then-len-gt-LINE_LIMIT-clause-err g c =
    halts_before _ _ _ _ _ c.args.number c.args.lines.now c.seek_counted.new.self c.args.session.now (NotUnderstood c.args.number) tt c.in_ok-seek_counted.ensures.read
    (halts_long c.args.number c.seek_counted.new.self c.args.session.now c.in-Line.len c.in-Line.whole c.requires.few
    (subst (IsFront c.seek_counted.new.self.bytes c.seek_counted.new.self.ended) c.in-Line.is c.in_ok-seek_counted.ensures.front) c.if-len-gt-LINE_LIMIT.true)

pub returns-in-TooLong-clause-err : goal.returns-in-TooLong-clause-err
returns-in-TooLong-clause-err g c =
    halts_before _ _ _ _ _ c.args.number c.args.lines.now c.seek_counted.new.self c.args.session.now (NotUnderstood c.args.number) tt c.in_ok-seek_counted.ensures.read
    (halts_too_long c.args.number c.seek_counted.new.self c.args.session.now c.requires.few
    (subst (IsFront c.seek_counted.new.self.bytes c.seek_counted.new.self.ended) c.in-TooLong.is c.in_ok-seek_counted.ensures.front))

pub returns-in_err-carry_out-in-Line-clause-err : goal.returns-in_err-carry_out-in-Line-clause-err
returns-in_err-carry_out-in-Line-clause-err g c =
    let out = err_from_is_err_and c.from_residual-in_err-carry_out-in-Line.result c.from_residual-in_err-carry_out-in-Line.ensures.1 in
    rw out.1 (halts_in _ _ _ _ _ _ c.args.number c.args.lines.now c.seek_counted.new.self c.args.session.now c.carry_out.new.session c.in-Line.len c.in-Line.whole out.0 c.in_ok-seek_counted.ensures.read
    (subst (IsFront c.seek_counted.new.self.bytes c.seek_counted.new.self.ended) c.in-Line.is c.in_ok-seek_counted.ensures.front)
    (stops_at c.args.number c.front.result.now (take c.in-Line.len c.seek_counted.new.self.bytes) c.args.session.now c.carry_out.new.session _ _ _ out.0 c.front.ensures out.2 c.in_err-carry_out-in-Line.ensures.err))

pub returns-in_ok-carry_out-in-Line-clause-ok : goal.returns-in_ok-carry_out-in-Line-clause-ok
returns-in_ok-carry_out-in-Line-clause-ok g c =
    advances _ _ _ _ _ _ c.args.number c.args.lines.now c.seek_counted.new.self c.pass.new.self c.args.session.now c.carry_out.new.session c.in-Line.len c.in-Line.whole (omega (arith, c.if-len-gt-LINE_LIMIT.false)) c.in_ok-seek_counted.ensures.read
    (subst (IsFront c.seek_counted.new.self.bytes c.seek_counted.new.self.ended) c.in-Line.is c.in_ok-seek_counted.ensures.front)
    (settles_at c.args.number c.front.result.now (take c.in-Line.len c.seek_counted.new.self.bytes) c.args.session.now c.carry_out.new.session _ _ c.front.ensures c.in_ok-carry_out-in-Line.ensures.ok)
    c.pass.ensures

pub returns-in-End-clause-err : goal.returns-in-End-clause-err
returns-in-End-clause-err g c =
    halts_before _ _ _ _ _ c.args.number c.args.lines.now c.seek_counted.new.self c.args.session.now Ended tt c.in_ok-seek_counted.ensures.read
    (halts_at_end c.args.number c.seek_counted.new.self c.args.session.now
    (subst (IsFront c.seek_counted.new.self.bytes c.seek_counted.new.self.ended) c.in-End.is c.in_ok-seek_counted.ensures.front))
