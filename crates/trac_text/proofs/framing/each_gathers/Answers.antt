-- Each function so far has an argument.
use Rattle.std.proofs.Common.{ℕ, ◌≤◌, length, subst, arith, take_all}
use Rattle.std.specs.Prelude.{Vec}
use Rattle.trac_rules.specs.declared.kind.Kind.{Kind}
use Rattle.std.proofs.lemmas.List.Elements.{All-more}
use Rattle.trac_text.specs.Framing.{EachGathers}
use Rattle.trac_text.proofs.framing.each_gathers.Goals as goal

pub loop-arguments-preserved : goal.loop-arguments-preserved
loop-arguments-preserved g c =
    let f = c.loop-arguments-item.result in
    All-more (λ (f : Kind × Vec (Vec ℕ g.row.A.Denot) g.row.A.Denot). 1 ≤ length f.1.items) c.args.functions.now c.loop-arguments.arguments-index f (omega arith) c.loop-arguments.invariant
    (subst (λ (f : Kind × Vec (Vec ℕ g.row.A.Denot) g.row.A.Denot). 1 ≤ length f.1.items) c.loop-arguments-item.is (omega (arith, c.len.ensures, f.1.ok.0)))

pub returns-clause-yes : goal.returns-clause-yes
returns-clause-yes g c = λ _. subst EachGathers (take_all c.loop-arguments.arguments-index c.args.functions.now (omega arith)) c.loop-arguments.invariant
