use Rattle.std.proofs.Common.{sym, ap, arith, subst}
use Rattle.std.proofs.lemmas.Result.{err_from_is_err_and}
use Rattle.trac_streams.specs.Pending.{Pending}
use Rattle.trac_streams.specs.Reading.{FailsBy}
use Rattle.trac_streams.proofs.Gathered.{fails_by_later, few_gathered, front_same, gathers_by_more, gathers_by_none}
use Rattle.trac_streams.proofs.lines.Lines.seek_counted.Goals as goal

pub returns-then-ne-clause-front : goal.returns-then-ne-clause-front
returns-then-ne-clause-front g c =
    front_same c.rest.result.now c.loop-front.self.bytes c.self.inside.ended c.loop-front.self.ended c.front_of-front.result
    (cc (c.rest.ensures, ap (λ (p : Pending). p.bytes) c.self.view_is)) (ap (λ (p : Pending). p.ended) c.self.view_is) c.front_of-front.ensures

pub returns-in_err-read_more-clause-failed : goal.returns-in_err-read_more-clause-failed
returns-in_err-read_more-clause-failed g c =
    let out = err_from_is_err_and c.from_residual.result c.from_residual.ensures.1 in
    rw out.1 (subst (FailsBy (g.R.Read.remaining c.args.input.now) (g.R.Read.remaining c.read_more.new.input) c.args.reads.now c.read_more.new.reads c.args.self.now c.read_more.new.self) (sym out.2)
    (fails_by_later _ _ _ _ _ _ _ _ _ _ c.loop-front.invariant c.in_err-read_more.ensures.failed))

pub loop-front-preserved : goal.loop-front-preserved
loop-front-preserved g c = gathers_by_more _ _ _ _ _ _ c.args.self.now c.loop-front.self c.read_more.new.self c.loop-front.invariant c.in_ok-read_more.ensures.more.gathers

pub loop-front-init : goal.loop-front-init
loop-front-init g c = gathers_by_none _ c.args.reads.now c.args.self.now c.requires.at_end

pub read_more-requires-clause-few_reads : goal.read_more-requires-clause-few_reads
read_more-requires-clause-few_reads g c = omega (arith, c.requires.few_reads, few_gathered _ _ _ _ _ _ c.loop-front.invariant)
