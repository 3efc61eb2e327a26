use Rattle.std.proofs.Common.{◌<◌, ◌≤◌, length, sym, ap, subst, ◌∙◌}
use Rattle.trac_rules.specs.Effect.{argument}
use Rattle.trac_origins.proofs.Told.{byte_within}
use Rattle.trac_follow_step.proofs.CallsTold.{number_is, output_carried}
use Rattle.trac_follow_step.proofs.FormsTold.{shown_tells}
use Rattle.trac_follow_step.proofs.ValuesTold.{named_by, printed_tells, prints_form, silent_made}
use Rattle.trac_follow_step.proofs.called.of_output.Goals as goal

pub returns-then-i-output-clause-tells : goal.returns-then-i-output-clause-tells
returns-then-i-output-clause-tells g c = λ width environment t item wide h lengths stands.
    output_carried environment c.args.before.now.state t c.requires.call.0 item h c.requires.call.1 width wide c.args.i
    (subst (λ text. c.args.i < length text) c.output.ensures c.if-i-output.true)

pub returns-then-is_silent-clause-tells : goal.returns-then-is_silent-clause-tells
returns-then-is_silent-clause-tells g c = λ width environment t item wide h lengths stands.
    let call = c.requires.call in
    silent_made environment c.args.before.now.state t call.0 h call.1 c.primitive_named-primitive.result
    (named_by c.args.before.now.state c.args.arguments.now call c.primitive_named-primitive.result c.get.result.now c.get.ensures c.primitive_named-primitive.ensures)
    (sym c.is_silent.ensures ∙ c.if-is_silent.true) c.args.i
    (subst (λ text. length text ≤ c.args.i) c.output.ensures c.if-i-output.false)

pub returns-in-PrintString-clause-tells : goal.returns-in-PrintString-clause-tells
returns-in-PrintString-clause-tells g c = λ width environment t item wide h lengths stands.
    let s = c.args.before.now.state in
    let call = c.requires.call in
    printed_tells environment s t call.0 h call.1
    (named_by s c.args.arguments.now call c.primitive_named-primitive.result c.get.result.now c.get.ensures c.primitive_named-primitive.ensures ∙ c.in-PrintString.is)
    (length c.get-in-PrintString.result.now) c.innermost.result c.args.after.output c.args.i c.printed.result
    (ap (λ text. length text) c.get-in-PrintString.ensures ∙ ap (λ texts. length (argument 1 texts)) (sym call.2))
    (number_is s call.0 call.1 c.innermost.result (c.innermost.ensures call.0 call.1)) lengths.output
    (subst (λ text. length text ≤ c.args.i) c.output.ensures c.if-i-output.false) (byte_within c.args.i t.output item stands) c.printed.ensures.tells

pub returns-in_default-clause-tells : goal.returns-in_default-clause-tells
returns-in_default-clause-tells g c = λ width environment t item wide h lengths stands.
    let call = c.requires.call in
    let shows = prints_form c.primitive_named-primitive.result (sym c.is_silent.ensures ∙ c.if-is_silent.false) c.in_default.not-PrintString in
    shown_tells environment c.args.before.now.state t call.0 h call.1
    (named_by c.args.before.now.state c.args.arguments.now call c.primitive_named-primitive.result c.get.result.now c.get.ensures c.primitive_named-primitive.ensures ∙ shows)
    c.get-in_default.result.now c.args.after.output c.args.i c.shown_byte.result
    (c.get-in_default.ensures ∙ ap (argument 1) (sym call.2)) lengths.output
    (subst (λ text. length text ≤ c.args.i) c.output.ensures c.if-i-output.false) (byte_within c.args.i t.output item stands) c.shown_byte.ensures.tells
