-- Runs are counted, and the items after them.
use Rattle.std.proofs.Common.{length, ap, ◌∙◌, arith}
use Rattle.std.proofs.lemmas.List.{nil_from_length}
use Rattle.trac_rules.specs.Filling.{all_filled}
use Rattle.trac_rules.specs.Weights.{gap_count}
use Rattle.trac_items.proofs.ByteRuns.{item_counted, run_counted}
use Rattle.trac_forms.proofs.filling.all_filled_len.Goals as goal

pub returns-then-run-most : goal.returns-then-run-most
returns-then-run-most g c = λ fits.
    let bytes = ap gap_count c.split_at.ensures.front ∙ c.run_len.ensures.bytes in
    omega (arith, fits, c.if-run-most.true, c.runs.invariant.counted, run_counted (g.T.Texts.texts c.args.args.now) c.runs.rest.now c.split_at.result.0.now c.split_at.result.1.now c.split_at.ensures.by_index.0 bytes)

pub returns-in_default : goal.returns-in_default
returns-in_default g c =
    let texts = g.T.Texts.texts c.args.args.now in
    let bytes = ap gap_count c.split_at.ensures.front ∙ c.run_len.ensures.bytes in
    let none = ap (λ xs. length (all_filled texts xs)) (nil_from_length c.split_at.result.1.now c.in_default.ensures.cases) in
    let all = run_counted texts c.runs.rest.now c.split_at.result.0.now c.split_at.result.1.now c.split_at.ensures.by_index.0 bytes in
    (omega (arith, c.if-run-most.false, c.runs.invariant.counted, all, none), omega (arith, c.runs.invariant.counted, all, none))

pub returns-then-len-most : goal.returns-then-len-most
returns-then-len-most g c = λ fits.
    let bytes = ap gap_count c.split_at.ensures.front ∙ c.run_len.ensures.bytes in
    let all =
    item_counted (g.T.Texts.texts c.args.args.now) c.runs.rest.now c.split_at.result.0.now c.split_at.result.1.now c.split_at.ensures.by_index.0 bytes c.in-Some.item.now c.in-Some.after.now c.in-Some.ensures.cases.0 in
    omega (arith, fits, c.if-run-most.false, c.if-len-most.true, c.runs.invariant.counted, all, c.filled_len-len.ensures)

pub runs-preserved : goal.runs-preserved
runs-preserved g c =
    let bytes = ap gap_count c.split_at.ensures.front ∙ c.run_len.ensures.bytes in
    let all =
    item_counted (g.T.Texts.texts c.args.args.now) c.runs.rest.now c.split_at.result.0.now c.split_at.result.1.now c.split_at.ensures.by_index.0 bytes c.in-Some.item.now c.in-Some.after.now c.in-Some.ensures.cases.0 in
    record {
      counted = omega (arith, c.runs.invariant.counted, all, c.filled_len-len.ensures);
      within = omega (arith, c.if-run-most.false, c.if-len-most.false);
    }
