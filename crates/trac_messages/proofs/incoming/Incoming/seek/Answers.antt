use Rattle.std.proofs.Common.{sym, ap, arith, subst, ◌∙◌}
use Rattle.std.proofs.lemmas.List.{drop_all}
use Rattle.std.proofs.lemmas.Result.{err_from_is_err_and}
use Rattle.trac_messages.specs.Incoming.{Fails, Pending}
use Rattle.trac_messages.proofs.Given.{fails_later, front_same, gathers_more, gathers_none}
use Rattle.trac_messages.proofs.incoming.Incoming.seek.Goals as goal

pub loop-front-init : goal.loop-front-init
loop-front-init g c = gathers_none _ c.args.self.now

pub loop-front-preserved : goal.loop-front-preserved
loop-front-preserved g c = gathers_more _ _ _ c.args.self.now c.loop-front.self c.read_more.new.self c.loop-front.invariant c.in_ok-read_more.ensures.read.gathers

pub returns-in_err-read_more-clause-failed : goal.returns-in_err-read_more-clause-failed
returns-in_err-read_more-clause-failed g c =
    let out = err_from_is_err_and c.from_residual.result c.from_residual.ensures.1 in
    rw out.1 (subst (Fails (g.R.Read.remaining c.args.input.now) (g.R.Read.remaining c.read_more.new.input) c.args.self.now c.read_more.new.self) (sym out.2)
    (fails_later _ _ _ _ _ _ _ c.loop-front.invariant c.in_err-read_more.ensures.failed))

pub returns-then-ne-clause-front : goal.returns-then-ne-clause-front
returns-then-ne-clause-front g c =
    front_same c.rest.result.now c.loop-front.self.bytes c.self.inside.ended c.loop-front.self.ended c.front_of-front.result
    (cc (c.rest.ensures, ap (λ (p : Pending). p.bytes) c.self.view_is)) (ap (λ (p : Pending). p.ended) c.self.view_is) c.front_of-front.ensures

pub returns-then-ne-clause-none : goal.returns-then-ne-clause-none
returns-then-ne-clause-none g c = λ some.
    sym (ap (λ (p : Pending). p.bytes) c.self.view_is)
    ∙ drop_all c.self.inside.taken c.self.inside.bytes.items (omega (arith, c.self.invariant.2 (omega (arith, ap (λ (p : Pending). p.skip) c.self.view_is, some))))
