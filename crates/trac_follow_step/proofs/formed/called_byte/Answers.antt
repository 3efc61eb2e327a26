use Rattle.std.proofs.Common.{◌+◌, refl, sym, subst}
use Rattle.trac_rules.specs.declared.primitive.FormAction.TheVariants.{Call}
use Rattle.trac_rules.specs.declared.primitive.Primitive.TheVariants.{Handle}
use Rattle.trac_follow_step.specs.Formed.{TellsOfForm}
use Rattle.trac_follow_step.proofs.FormsTold.{called_item, called_past, filled_text}
use Rattle.trac_follow_step.proofs.formed.called_byte.Goals as goal

pub returns-in-Byte-clause-tells : goal.returns-in-Byte-clause-tells
returns-in-Byte-clause-tells g c = λ width seen.
    called_item c.args.form.now c.args.arguments.now c.args.function c.args.i c.pointer-start.result c.in-Here.given c.pointer-start.ensures c.in-Here.ensures.1
    c.in-Byte.field-0 (c.pointer-start.result + c.in-Here.given.at) c.in-Byte.is refl width seen

pub returns-in-Gap-clause-tells : goal.returns-in-Gap-clause-tells
returns-in-Gap-clause-tells g c = λ width seen.
    subst (λ o. TellsOfForm (Handle Call) c.args.form.now c.args.arguments.now c.args.function width seen c.args.i o) (sym c.argument_byte.ensures)
    (filled_text c.args.form.now c.args.arguments.now c.args.function c.args.i c.pointer-start.result c.in-Here.given c.pointer-start.ensures c.in-Here.ensures.1
    c.in-Gap.ordinal c.in-Gap.width (c.in-Gap.ordinal + 1) c.in-Gap.is refl width seen)

pub returns-in_default-clause-tells : goal.returns-in_default-clause-tells
returns-in_default-clause-tells g c =
    called_past c.args.form.now c.args.arguments.now c.args.function c.args.i c.pointer-start.result c.len.result c.in_default.field-0 c.pointer-start.ensures c.len.ensures.len c.in_default.ensures
