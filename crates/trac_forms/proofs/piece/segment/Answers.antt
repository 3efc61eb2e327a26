-- A text alone is one segment; among items it ends with the first gap.
use Rattle.std.proofs.Common.{◌+◌, List, ap, arith, position, sym, take, ◌∙◌}
use Rattle.trac_rules.specs.declared.item.Item.{Item}
use Rattle.trac_rules.specs.Pieces.{is_gap, segment_items}
use Rattle.trac_forms.proofs.Passing.{count}
use Rattle.trac_forms.proofs.RunLengths.{ended_count, run_count, segment_all, segment_ended}
use Rattle.trac_forms.proofs.TextsAlone.{text_passed, text_segment}
use Rattle.trac_items.proofs.Alone.{items_alone, text_alone}
use Rattle.trac_forms.proofs.piece.segment.Goals as goal

pub returns-then-not-is_empty-clause-items : goal.returns-then-not-is_empty-clause-items
returns-then-not-is_empty-clause-items c =
    c.after_bytes.ensures.items
    ∙ text_segment c.after.inside.text.now c.args.after.now (text_alone c.after.inside.text.now c.after.inside.items.now c.args.after.now c.after.view_is c.after.invariant c.if-not-is_empty.ensures)

pub returns-then-not-is_empty-clause-bytes : goal.returns-then-not-is_empty-clause-bytes
returns-then-not-is_empty-clause-bytes c =
    let all = text_alone c.after.inside.text.now c.after.inside.items.now c.args.after.now c.after.view_is c.after.invariant c.if-not-is_empty.ensures in
    omega (arith, c.after_bytes.ensures.items, c.after_bytes.ensures.bytes, text_passed c.after.inside.text.now c.args.after.now all c.after_bytes.result.items (omega (arith, c.after_bytes.ensures.items)))

pub returns-then-bytes-after-clause-items : goal.returns-then-bytes-after-clause-items
returns-then-bytes-after-clause-items c =
    let all = items_alone c.after.inside.text.now c.after.inside.items.now c.args.after.now c.after.view_is c.if-not-is_empty.ensures in
    let run = c.run_len-bytes.ensures in
    segment_ended c.after.inside.items.now c.run_len-bytes.result run.within run.bytes run.gap c.if-bytes-after.true ∙ ap (λ (xs : List Item). segment_items (position is_gap xs) xs) (sym all)

pub returns-then-bytes-after-clause-bytes : goal.returns-then-bytes-after-clause-bytes
returns-then-bytes-after-clause-bytes c =
    let all = items_alone c.after.inside.text.now c.after.inside.items.now c.args.after.now c.after.view_is c.if-not-is_empty.ensures in
    let run = c.run_len-bytes.ensures in
    ended_count c.after.inside.items.now c.run_len-bytes.result run.within run.bytes run.gap c.if-bytes-after.true ∙ ap (λ (xs : List Item). count (take (c.run_len-bytes.result + 1) xs)) (sym all)

pub returns-else-bytes-after-clause-items : goal.returns-else-bytes-after-clause-items
returns-else-bytes-after-clause-items c =
    let all = items_alone c.after.inside.text.now c.after.inside.items.now c.args.after.now c.after.view_is c.if-not-is_empty.ensures in
    let run = c.run_len-bytes.ensures in
    segment_all c.after.inside.items.now c.run_len-bytes.result run.within run.bytes run.gap c.if-bytes-after.false ∙ ap (λ (xs : List Item). segment_items (position is_gap xs) xs) (sym all)

pub returns-else-bytes-after-clause-bytes : goal.returns-else-bytes-after-clause-bytes
returns-else-bytes-after-clause-bytes c =
    let all = items_alone c.after.inside.text.now c.after.inside.items.now c.args.after.now c.after.view_is c.if-not-is_empty.ensures in
    let run = c.run_len-bytes.ensures in
    run_count c.after.inside.items.now c.run_len-bytes.result run.within run.bytes run.gap ∙ ap (λ (xs : List Item). count (take c.run_len-bytes.result xs)) (sym all)
