-- Runs are put, and what the items after them give.
use Rattle.std.proofs.Common.{◌++◌, List, ℕ, ap, sym, take, ◌∙◌}
use Rattle.std.proofs.lemmas.List.{append-nil, nil_from_length}
use Rattle.trac_rules.specs.Filling.{all_filled, filled}
use Rattle.trac_rules.specs.Pieces.{bytes_in}
use Rattle.trac_rules.specs.Weights.{gap_count}
use Rattle.trac_items.proofs.ByteRuns.{goes_on_twice, item_put, run_put}
use Rattle.trac_forms.proofs.filling.fill_all_into.Goals as goal

pub returns-in_default-clause-ok : goal.returns-in_default-clause-ok
returns-in_default-clause-ok g c =
    let texts = g.T.Texts.texts c.args.args.now in
    let run = c.split_at.result.0.now in
    let bytes = ap gap_count c.split_at.ensures.front ∙ c.first_run_into-run.ensures.bytes in
    let put =
    c.first_run_into-run.ensures.put ∙ ap (λ (xs : List ℕ). xs ++ bytes_in (take c.first_run_into-run.result c.runs.rest.now)) c.in_ok-reserve.ensures.items
    ∙ ap (λ xs. c.runs.out.items ++ bytes_in xs) (sym c.split_at.ensures.front) in
    let none = ap (λ xs. all_filled texts xs) (nil_from_length c.split_at.result.1.now c.in_default.ensures.cases) in
    sym (append-nil c.first_run_into-run.new.out.items) ∙ ap (λ (xs : List ℕ). c.first_run_into-run.new.out.items ++ xs) (sym none)
    ∙ sym (run_put texts c.runs.rest.now run c.split_at.result.1.now c.split_at.ensures.by_index.0 bytes c.runs.out.items c.first_run_into-run.new.out.items put)
    ∙ c.runs.invariant.filled

pub runs-preserved : goal.runs-preserved
runs-preserved g c =
    let texts = g.T.Texts.texts c.args.args.now in
    let run = c.split_at.result.0.now in
    let middle = c.first_run_into-run.new.out.items in
    let bytes = ap gap_count c.split_at.ensures.front ∙ c.first_run_into-run.ensures.bytes in
    let put =
    c.first_run_into-run.ensures.put ∙ ap (λ (xs : List ℕ). xs ++ bytes_in (take c.first_run_into-run.result c.runs.rest.now)) c.in_ok-reserve.ensures.items
    ∙ ap (λ xs. c.runs.out.items ++ bytes_in xs) (sym c.split_at.ensures.front) in
    record {
      filled =
          item_put texts c.runs.rest.now run c.split_at.result.1.now c.split_at.ensures.by_index.0 bytes c.in-Some.item.now c.in-Some.after.now c.in-Some.ensures.cases.0 c.runs.out.items middle
          c.fill_into.new.out.items put c.in_ok-fill_into.ensures.ok
          ∙ c.runs.invariant.filled;
      front =
          goes_on_twice c.args.out.now.items c.runs.out.items (bytes_in run) middle (filled texts c.in-Some.item.now) c.fill_into.new.out.items c.runs.invariant.front put c.in_ok-fill_into.ensures.ok;
    }
