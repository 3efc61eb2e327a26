-- An empty text occurs at once; any other is looked for in the text, or among the items.
use Rattle.std.proofs.Common.{sym, ap, arith, ◌∙◌}
use Rattle.std.specs.Prelude.{Some}
use Rattle.std.proofs.lemmas.Bool.{eqb-true}
use Rattle.std.proofs.lemmas.List.{nil_from_length}
use Rattle.trac_rules.specs.Pieces.{place_of_text}
use Rattle.trac_forms.proofs.Searching.{at_once}
use Rattle.trac_forms.proofs.TextsAlone.{found_in_text, not_in_text, text_passed}
use Rattle.trac_items.proofs.Alone.{text_alone, text_length}
use Rattle.trac_forms.proofs.piece.place_of.Goals as goal

pub returns-then-is_empty-clause-place : goal.returns-then-is_empty-clause-place
returns-then-is_empty-clause-place g c =
    ap Some c.after_bytes.ensures.items ∙ at_once c.args.text.now c.args.after.now (nil_from_length c.args.text.now (eqb-true _ 0 (sym c.if-is_empty.ensures)))

pub returns-in_default-clause-place : goal.returns-in_default-clause-place
returns-in_default-clause-place g c =
    let all = text_alone c.after.inside.text.now c.after.inside.items.now c.args.after.now c.after.view_is c.after.invariant c.if-is_empty-2.ensures in
    not_in_text c.args.text.now c.after.inside.text.now c.in_default.ensures ∙ ap (place_of_text c.args.text.now) (sym all)

pub returns-clause-place : goal.returns-clause-place
returns-clause-place g c =
    let all = text_alone c.after.inside.text.now c.after.inside.items.now c.args.after.now c.after.view_is c.after.invariant c.if-is_empty-2.ensures in
    ap Some c.after_bytes-2.ensures.items ∙ found_in_text c.args.text.now c.after.inside.text.now c.in-Some.place c.in-Some.ensures ∙ ap (place_of_text c.args.text.now) (sym all)

pub returns-clause-bytes : goal.returns-clause-bytes
returns-clause-bytes g c =
    let all = text_alone c.after.inside.text.now c.after.inside.items.now c.args.after.now c.after.view_is c.after.invariant c.if-is_empty-2.ensures in
    omega (
      arith,
      c.after_bytes-2.ensures.items,
      c.after_bytes-2.ensures.bytes,
      text_passed c.after.inside.text.now c.args.after.now all c.after_bytes-2.result.items (omega (arith, c.after_bytes-2.ensures.items, c.in-Some.ensures.1.fits)),
    )

pub returns-clause-within : goal.returns-clause-within
returns-clause-within g c =
    let all = text_alone c.after.inside.text.now c.after.inside.items.now c.args.after.now c.after.view_is c.after.invariant c.if-is_empty-2.ensures in
    omega (arith, c.after_bytes-2.ensures.items, c.in-Some.ensures.1.fits, text_length c.after.inside.text.now c.args.after.now all)
