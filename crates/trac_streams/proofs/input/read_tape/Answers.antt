use Rattle.std.proofs.Common.{arith, subst, sym}
use Rattle.std.proofs.lemmas.Result.{err_from_is_err_and}
use Rattle.trac_streams.specs.Tape.{IsNoTape}
use Rattle.trac_streams.proofs.Taped.{read_none, read_part_more, read_whole, read_beyond, read_no_part}
use Rattle.trac_streams.proofs.input.read_tape.Goals as goal

pub loop-tape-init : goal.loop-tape-init
loop-tape-init g c = read_none _ c.new-tape.result.items c.new-tape.ensures.items

pub returns-in_err-count-clause-none : goal.returns-in_err-count-clause-none
returns-in_err-count-clause-none g c =
    let out = err_from_is_err_and c.from_residual.result c.from_residual.ensures.1 in
    rw out.1 (subst (IsNoTape (g.R.Read.remaining c.args.input.now) (g.R.Read.remaining c.read_part.new.input)) (sym out.2)
    (read_no_part _ _ _ c.loop-tape.tape.items _ c.loop-tape.invariant c.in_err-count.ensures.none))

pub returns-then-count-eq0-clause-whole : goal.returns-then-count-eq0-clause-whole
returns-then-count-eq0-clause-whole g c =
    read_whole _ _ _ c.loop-tape.tape.items c.read_part.new.tape.items _ c.loop-tape.invariant c.in_ok-count.ensures.part c.in_ok-count.ensures.longer c.if-count-eq0.true (omega arith)

pub loop-tape-preserved : goal.loop-tape-preserved
loop-tape-preserved g c =
    read_part_more _ _ _ c.loop-tape.tape.items c.read_part.new.tape.items _ c.loop-tape.invariant c.in_ok-count.ensures.part

pub returns-clause-none : goal.returns-clause-none
returns-clause-none g c = read_beyond _ _ c.loop-tape.tape.items c.loop-tape.invariant (omega arith)
