use Rattle.std.proofs.Common.{◌≡◌, sym, ap, ap₂, subst, ◌∙◌, bytes_eq}
use Rattle.trac_rules.specs.declared.primitive.Computation.{Computation}
use Rattle.trac_rules.specs.declared.primitive.Computation.TheVariants.{Equal, Greater}
use Rattle.trac_rules.specs.Effect.{argument}
use Rattle.trac_rules.specs.Number.{is_greater, numeral_of}
use Rattle.trac_origins.proofs.ToldValues.{equal_told, greater_told}
use Rattle.trac_follow_step.specs.Places.{TellsComputed}
use Rattle.trac_follow_step.proofs.ValuesTold.{bits_are, decision_is, rest_bits}
use Rattle.trac_follow_step.proofs.valued.computed_byte.Goals as goal

pub returns-in-Equal-clause-tells : goal.returns-in-Equal-clause-tells
returns-in-Equal-clause-tells c =
    let same : c.eq.result ≡ bytes_eq (argument 1 c.args.arguments.now) (argument 2 c.args.arguments.now) =
    c.eq.ensures ∙ ap (λ text. bytes_eq text c.get-in-Equal.result.now) c.get.ensures ∙ ap (bytes_eq (argument 1 c.args.arguments.now)) c.get-in-Equal.ensures in
    subst (λ (k : Computation). TellsComputed k c.args.arguments.now c.args.asked.function c.args.asked.width c.args.asked.byte c.argument_byte.result) (sym c.in-Equal.is)
    (subst (λ told. TellsComputed Equal c.args.arguments.now c.args.asked.function c.args.asked.width c.args.asked.byte told) (sym c.argument_byte.ensures)
    (decision_is c.args.arguments.now c.args.asked.function c.args.asked.width c.args.asked.byte Equal (λ texts. bytes_eq (argument 1 texts) (argument 2 texts)) equal_told c.eq.result same c.chosen.result c.chosen.ensures))

pub returns-in-Greater-clause-tells : goal.returns-in-Greater-clause-tells
returns-in-Greater-clause-tells c =
    let same : c.greater.result ≡ is_greater (numeral_of (argument 1 c.args.arguments.now)) (numeral_of (argument 2 c.args.arguments.now)) =
    c.greater.ensures
    ∙ ap₂ is_greater (c.read_tail.ensures.numeral ∙ ap numeral_of c.get-in-Greater.ensures) (c.read_tail-in-Greater.ensures.numeral ∙ ap numeral_of c.get-in-Greater-2.ensures) in
    subst (λ (k : Computation). TellsComputed k c.args.arguments.now c.args.asked.function c.args.asked.width c.args.asked.byte c.argument_byte-in-Greater.result) (sym c.in-Greater.is)
    (subst (λ told. TellsComputed Greater c.args.arguments.now c.args.asked.function c.args.asked.width c.args.asked.byte told) (sym c.argument_byte-in-Greater.ensures)
    (decision_is c.args.arguments.now c.args.asked.function c.args.asked.width c.args.asked.byte Greater (λ texts. is_greater (numeral_of (argument 1 texts)) (numeral_of (argument 2 texts))) greater_told c.greater.result same c.chosen-in-Greater.result c.chosen-in-Greater.ensures))

pub returns-in_default-clause-tells : goal.returns-in_default-clause-tells
returns-in_default-clause-tells c =
    bits_are c.args.arguments.now c.args.asked.function c.args.asked.width c.args.asked.byte c.args.computation
    (rest_bits c.args.arguments.now c.args.asked.function c.args.asked.width c.args.asked.byte c.args.computation c.in_default.not-Equal c.in_default.not-Greater c.in_default.not-Calculate)
