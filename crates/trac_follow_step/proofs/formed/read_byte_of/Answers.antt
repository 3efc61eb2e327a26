use Rattle.std.proofs.Common.{refl, sym, subst}
use Rattle.trac_rules.specs.declared.primitive.FormAction.TheVariants.{Read}
use Rattle.trac_rules.specs.declared.primitive.FormReading.{FormReading}
use Rattle.trac_rules.specs.declared.primitive.FormReading.TheVariants.{ReadSegment, ReadChar, ReadCount}
use Rattle.trac_rules.specs.declared.primitive.Primitive.TheVariants.{Handle}
use Rattle.trac_follow_step.specs.Formed.{TellsOfForm}
use Rattle.trac_follow_step.proofs.FormsTold.{reading_tells}
use Rattle.trac_follow_step.proofs.formed.read_byte_of.Goals as goal

pub returns-in-ReadSegment-clause-tells : goal.returns-in-ReadSegment-clause-tells
returns-in-ReadSegment-clause-tells g c =
    subst (λ (r : FormReading). TellsOfForm (Handle (Read r)) c.args.form.now c.args.arguments.now c.args.asked.function c.args.asked.width c.args.asked.seen c.args.asked.byte c.piece_byte.result) (sym c.in-ReadSegment.is)
    (reading_tells ReadSegment c.args.form.now c.args.arguments.now c.args.asked.function c.args.asked.width c.args.asked.seen c.args.asked.byte c.read_segment.result 2 c.piece_byte.result
    c.read_segment.ensures.read c.read_segment.ensures.there refl c.piece_byte.ensures.tells)

pub returns-in-ReadChar-clause-tells : goal.returns-in-ReadChar-clause-tells
returns-in-ReadChar-clause-tells g c =
    subst (λ (r : FormReading). TellsOfForm (Handle (Read r)) c.args.form.now c.args.arguments.now c.args.asked.function c.args.asked.width c.args.asked.seen c.args.asked.byte c.piece_byte-in-ReadChar.result) (sym c.in-ReadChar.is)
    (reading_tells ReadChar c.args.form.now c.args.arguments.now c.args.asked.function c.args.asked.width c.args.asked.seen c.args.asked.byte c.read_char.result 2 c.piece_byte-in-ReadChar.result
    c.read_char.ensures.read c.read_char.ensures.there refl c.piece_byte-in-ReadChar.ensures.tells)

pub returns-in-ReadCount-clause-tells : goal.returns-in-ReadCount-clause-tells
returns-in-ReadCount-clause-tells g c =
    subst (λ (r : FormReading). TellsOfForm (Handle (Read r)) c.args.form.now c.args.arguments.now c.args.asked.function c.args.asked.width c.args.asked.seen c.args.asked.byte c.piece_byte-in-ReadCount.result) (sym c.in-ReadCount.is)
    (reading_tells ReadCount c.args.form.now c.args.arguments.now c.args.asked.function c.args.asked.width c.args.asked.seen c.args.asked.byte c.counted.result 3 c.piece_byte-in-ReadCount.result
    c.counted.ensures.read c.counted.ensures.there refl c.piece_byte-in-ReadCount.ensures.tells)
