use Rattle.std.proofs.Common.{length, sym, ap, ◌∙◌, Result, Ok, Err}
use Rattle.std.specs.FinMap as finite
use Rattle.std.specs.Prelude.{OnErr}
use Rattle.std.proofs.lemmas.Result.{IfOk-weaker}
use Rattle.trac_rules.specs.Effect.{argument}
use Rattle.trac_rules.specs.Performing.{primitive_of}
use Rattle.trac_rules.specs.declared.primitive.FormAction.TheVariants.{Call, Read}
use Rattle.trac_rules.specs.declared.primitive.Primitive.TheVariants.{Handle}
use Rattle.trac_follow_step.proofs.FormsTold.{form_value_told, formless_told, silent_told}
use Rattle.trac_follow_step.proofs.Giving.{other_silent}
use Rattle.trac_follow_step.proofs.ValuesTold.{listed_tells}
use Rattle.trac_follow_step.proofs.valued.handled_byte.Goals as goal

pub returns-in-ListNames-clause-tells : goal.returns-in-ListNames-clause-tells
returns-in-ListNames-clause-tells g c =
    IfOk-weaker c.listed_byte.result _ _
    (λ origin. listed_tells c.args.before.now.state c.args.asked.width c.args.asked.seen c.args.asked.byte c.args.arguments.now c.requires.call (c.requires.named ∙ ap Handle c.in-ListNames.is)
    c.args.asked.function (length c.get.result.now) origin c.requires.number (ap (λ text. length text) c.get.ensures)) c.listed_byte.ensures.tells

-- after whatever error
on_error : {T E P : Type 0} (r : Result T E) → P → OnErr r P
on_error (Ok x) p = tt
on_error (Err e) p = p

pub returns-in-ListNames-clause-lists : goal.returns-in-ListNames-clause-lists
returns-in-ListNames-clause-lists g c =
    let call = c.requires.call in
    on_error c.listed_byte.result
    (call.0, call.1, ap (λ texts. primitive_of (argument 0 texts)) call.2 ∙ c.requires.named ∙ ap Handle c.in-ListNames.is)

pub returns-in-Call-clause-tells : goal.returns-in-Call-clause-tells
returns-in-Call-clause-tells g c =
    form_value_told c.args.before.now.state c.args.asked.width c.args.asked.seen c.args.asked.byte c.args.arguments.now c.requires.call (Handle Call) (c.requires.named ∙ ap Handle c.in-Call.is)
    c.args.asked.function c.called_byte.result c.in-Some.form.now c.requires.number
    (ap (finite.get c.args.before.now.state.forms) (sym c.get-2.ensures) ∙ ap (λ stored. finite.get stored.forms c.get-2.result.now) (sym c.store.ensures) ∙ sym c.in-Some.ensures.value)
    (c.called_byte.ensures.tells c.args.asked.width c.args.asked.seen)

pub returns-in-Read-clause-tells : goal.returns-in-Read-clause-tells
returns-in-Read-clause-tells g c =
    form_value_told c.args.before.now.state c.args.asked.width c.args.asked.seen c.args.asked.byte c.args.arguments.now c.requires.call (Handle (Read c.in-Read.reading)) (c.requires.named ∙ ap Handle c.in-Read.is)
    c.args.asked.function c.read_byte_of.result c.in-Some.form.now c.requires.number
    (ap (finite.get c.args.before.now.state.forms) (sym c.get-2.ensures) ∙ ap (λ stored. finite.get stored.forms c.get-2.result.now) (sym c.store.ensures) ∙ sym c.in-Some.ensures.value)
    c.read_byte_of.ensures.tells

pub returns-in_default-get-clause-tells : goal.returns-in_default-get-clause-tells
returns-in_default-get-clause-tells g c =
    formless_told c.args.before.now.state c.args.asked.width c.args.asked.seen c.args.asked.byte c.args.arguments.now c.requires.call c.args.action c.requires.named c.in_default.not-ListNames
    (ap (finite.get c.args.before.now.state.forms) (sym c.get-2.ensures) ∙ ap (λ stored. finite.get stored.forms c.get-2.result.now) (sym c.store.ensures) ∙ sym c.in_default-get.ensures.value)

pub returns-in_default-action-clause-tells : goal.returns-in_default-action-clause-tells
returns-in_default-action-clause-tells g c =
    silent_told c.args.before.now.state c.args.asked.width c.args.asked.seen c.args.asked.byte c.args.arguments.now c.requires.call c.args.action c.requires.named
    (other_silent c.args.action c.in_default.not-ListNames c.in_default-action.not-Call c.in_default-action.not-Read)
