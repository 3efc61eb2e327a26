use Rattle.std.proofs.Common.{◌<◌, ◌≤◌, length, sym, ap, subst, ◌∙◌, is_none}
use Rattle.trac_rules.specs.declared.primitive.Computation.TheVariants.{Calculate}
use Rattle.trac_rules.specs.Number.{prefix_of}
use Rattle.trac_follow_step.specs.Places.{TellsComputed}
use Rattle.trac_follow_step.proofs.ValuesTold.{default_is, digits_are, is_none_by, prefix_is}
use Rattle.trac_follow_step.proofs.valued.calculated_byte.Goals as goal

pub returns-then-is_none-clause-tells : goal.returns-then-is_none-clause-tells
returns-then-is_none-clause-tells c =
    subst (λ told. TellsComputed (Calculate c.args.operation) c.args.arguments.now c.args.asked.function c.args.asked.width c.args.asked.byte told) (sym c.argument_byte.ensures)
    (default_is c.args.arguments.now c.args.asked.function c.args.asked.width c.args.asked.byte c.args.operation
    (ap is_none (sym c.result_on.ensures) ∙ is_none_by c.result_on.result c.is_none.result c.is_none.ensures ∙ c.if-is_none.true))

pub returns-then-asked-read_tail-clause-tells : goal.returns-then-asked-read_tail-clause-tells
returns-then-asked-read_tail-clause-tells c =
    subst (λ told. TellsComputed (Calculate c.args.operation) c.args.arguments.now c.args.asked.function c.args.asked.width c.args.asked.byte told) (sym c.argument_byte-then-asked-read_tail.ensures)
    (prefix_is c.args.arguments.now c.args.asked.function c.args.asked.width c.args.asked.byte c.args.operation
    (ap is_none (sym c.result_on.ensures) ∙ is_none_by c.result_on.result c.is_none.result c.is_none.ensures ∙ c.if-is_none.false)
    (subst (λ text. c.args.asked.byte < length text) (c.read_tail.ensures.prefix ∙ ap prefix_of c.get.ensures) c.if-asked-read_tail.true))

pub returns-clause-tells : goal.returns-clause-tells
returns-clause-tells c =
    digits_are c.args.arguments.now c.args.asked.function c.args.asked.width c.args.asked.byte c.args.operation
    (ap is_none (sym c.result_on.ensures) ∙ is_none_by c.result_on.result c.is_none.result c.is_none.ensures ∙ c.if-is_none.false)
    (subst (λ text. length text ≤ c.args.asked.byte) (c.read_tail.ensures.prefix ∙ ap prefix_of c.get.ensures) c.if-asked-read_tail.false)
