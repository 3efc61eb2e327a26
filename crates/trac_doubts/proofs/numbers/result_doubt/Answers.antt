use Rattle.std.proofs.Common.{◌≡◌, false, rules, sym, true, ◌∙◌}
use Rattle.std.specs.Option.{is_none}
use Rattle.trac_rules.specs.Computing.{result_of}
use Rattle.trac_rules.specs.Effect.{argument}
use Rattle.trac_rules.specs.Number.{calculated}
use Rattle.trac_doubts.proofs.Rows.{silent}
use Rattle.trac_doubts.proofs.numbers.result_doubt.Goals as goal

pub returns-then-is_some : goal.returns-then-is_some
returns-then-is_some c =
    let some : false ≡ is_none (calculated (result_of c.in-Compute-Calculate.operation) c.args.width (argument 1 c.args.args.now) (argument 2 c.args.args.now)) =
    silent c.in-Compute-Calculate.operation c.args.width c.args.args.now c.result_on.result true c.result_on.ensures (sym c.is_some.ensures ∙ c.if-is_some.true) in
    search (rules, some)

pub returns : goal.returns
returns c =
    let none : true ≡ is_none (calculated (result_of c.in-Compute-Calculate.operation) c.args.width (argument 1 c.args.args.now) (argument 2 c.args.args.now)) =
    silent c.in-Compute-Calculate.operation c.args.width c.args.args.now c.result_on.result false c.result_on.ensures (sym c.is_some.ensures ∙ c.if-is_some.false) in
    search (rules, none)
