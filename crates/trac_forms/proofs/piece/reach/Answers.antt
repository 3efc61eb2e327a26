-- Among the bytes of a text alone each place has as many bytes before it as items.
use Rattle.std.proofs.Common.{◌∙◌, arith}
use Rattle.trac_forms.proofs.TextsAlone.{text_bytes, text_passed, text_reached}
use Rattle.trac_items.proofs.Alone.{text_alone, text_length}
use Rattle.trac_forms.proofs.piece.reach.Goals as goal

pub returns-clause-place : goal.returns-clause-place
returns-clause-place c =
    let all = text_alone c.after.inside.text.now c.after.inside.items.now c.args.after.now c.after.view_is c.after.invariant c.if-is_empty.ensures in
    text_reached c.after.inside.text.now c.args.after.now all c.args.n c.after_bytes.result.items (c.after_bytes.ensures.items ∙ c.min.ensures)

pub returns-clause-bytes : goal.returns-clause-bytes
returns-clause-bytes c =
    let all = text_alone c.after.inside.text.now c.after.inside.items.now c.args.after.now c.after.view_is c.after.invariant c.if-is_empty.ensures in
    text_bytes c.after.inside.text.now c.args.after.now all c.args.n c.after_bytes.result.bytes (c.after_bytes.ensures.bytes ∙ c.min.ensures)

pub returns-clause-passed : goal.returns-clause-passed
returns-clause-passed c =
    let all = text_alone c.after.inside.text.now c.after.inside.items.now c.args.after.now c.after.view_is c.after.invariant c.if-is_empty.ensures in
    omega (arith, c.after_bytes.ensures.items, c.after_bytes.ensures.bytes, text_passed c.after.inside.text.now c.args.after.now all c.after_bytes.result.items (omega (arith, c.after_bytes.ensures.items, c.min.ensures)))

pub returns-clause-within : goal.returns-clause-within
returns-clause-within c =
    let all = text_alone c.after.inside.text.now c.after.inside.items.now c.args.after.now c.after.view_is c.after.invariant c.if-is_empty.ensures in
    omega (arith, c.after_bytes.ensures.items, c.min.ensures, text_length c.after.inside.text.now c.args.after.now all)
