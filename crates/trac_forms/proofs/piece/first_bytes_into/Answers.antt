-- The bytes among the first items come first.
use Rattle.std.proofs.Common.{◌≡◌, ◌+◌, ◌-◌, ◌++◌, ◌<◌, ◌≤◌, List, ℕ, length, take, drop, sym, ap, ◌∙◌, arith}
use Rattle.trac_rules.specs.Pieces.{bytes_in}
use Rattle.trac_forms.proofs.Passing.{count-split, first_bytes}
use Rattle.trac_forms.proofs.RunLengths.{gap_passed, gap_put, run_passed, run_put}
use Rattle.trac_forms.proofs.piece.first_bytes_into.Goals as goal

pub returns-then-put-most-clause-count : goal.returns-then-put-most-clause-count
returns-then-put-most-clause-count g c = omega (arith, count-split c.runs.passed c.args.items.now, c.runs.invariant.put)

pub returns-then-put-most-clause-ok : goal.returns-then-put-most-clause-ok
returns-then-put-most-clause-ok g c =
    c.runs.invariant.added
    ∙ ap (λ (xs : List ℕ). c.args.out.now.items ++ xs) (sym (first_bytes c.runs.passed c.args.most c.args.items.now (sym c.if-put-most.true ∙ c.runs.invariant.put)))

pub runs-preserved-then-run-eq0 : goal.runs-preserved-then-run-eq0
runs-preserved-then-run-eq0 g c =
    let items = c.args.items.now in
    let passed = c.runs.passed in
    let most = c.min-more.result in
    let run = c.first_run_into-run in
    let some : 0 < most = omega arith in
    let fits : passed + most ≤ length items = omega arith in
    let is = ap (λ k. take k (drop passed items)) (let same : passed + most - passed ≡ most = omega arith in same) in
    record {
      within = omega arith;
      put = c.runs.invariant.put ∙ sym (gap_passed items _ passed most run.result is fits run.ensures.within c.if-run-eq0.true some run.ensures.gap);
      most = c.runs.invariant.most;
      added = gap_put items _ passed most run.result is fits run.ensures.within c.if-run-eq0.true some run.ensures.gap c.args.out.now.items c.runs.out.items run.new.out.items c.runs.invariant.added
          (run.ensures.put ∙ ap (λ (xs : List ℕ). xs ++ bytes_in (take run.result (take (passed + most - passed) (drop passed items)))) c.in_ok-reserve.ensures.items);
    }

pub runs-preserved : goal.runs-preserved
runs-preserved g c =
    let items = c.args.items.now in
    let passed = c.runs.passed in
    let most = c.min-more.result in
    let run = c.first_run_into-run in
    let fits : passed + most ≤ length items = omega arith in
    let is = ap (λ k. take k (drop passed items)) (let same : passed + most - passed ≡ most = omega arith in same) in
    record {
      within = omega (arith, run.ensures.within);
      put = omega (arith, run_passed items _ passed most run.result is fits run.ensures.within run.ensures.bytes, c.runs.invariant.put);
      most = omega (arith, run.ensures.within);
      added = run_put items _ passed most run.result is fits run.ensures.within c.args.out.now.items c.runs.out.items run.new.out.items c.runs.invariant.added
          (run.ensures.put ∙ ap (λ (xs : List ℕ). xs ++ bytes_in (take run.result (take (passed + most - passed) (drop passed items)))) c.in_ok-reserve.ensures.items);
    }
