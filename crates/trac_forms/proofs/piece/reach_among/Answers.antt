-- Fewer bytes stand before each earlier place.
use Rattle.std.proofs.Common.{◌≡◌, ◌+◌, ◌-◌, ◌<◌, ◌≤◌, length, take, drop, sym, ap, ◌∙◌, arith}
use Rattle.std.proofs.lemmas.List.{take_all}
use Rattle.trac_forms.proofs.Passing.{count, count-split, reached_after}
use Rattle.trac_forms.proofs.RunLengths.{fewer_before, gap_passed, run_passed}
use Rattle.trac_forms.proofs.piece.reach_among.Goals as goal

pub returns-then-reached-n-clause-bytes : goal.returns-then-reached-n-clause-bytes
returns-then-reached-n-clause-bytes c = omega (arith, count-split c.runs.passed c.args.items.now, c.runs.invariant.counted)

pub returns-then-reached-n-clause-place : goal.returns-then-reached-n-clause-place
returns-then-reached-n-clause-place c =
    reached_after c.args.items.now c.args.n c.runs.reached.items c.runs.reached.bytes (omega arith) c.runs.invariant.here c.runs.invariant.before
    (omega (arith, count-split c.runs.passed c.args.items.now, c.runs.invariant.counted))

pub runs-preserved-then-run-eq0 : goal.runs-preserved-then-run-eq0
runs-preserved-then-run-eq0 c =
    let items = c.args.items.now in
    let passed = c.runs.passed in
    let most = c.min-most.result in
    let run = c.run_len-run in
    let some : 0 < most = omega arith in
    let fits : passed + most ≤ length items = omega arith in
    let is = ap (λ k. take k (drop passed items)) (let same : passed + most - passed ≡ most = omega arith in same) in
    record {
      within = omega arith;
      place = omega arith;
      here = c.runs.invariant.here;
      counted = c.runs.invariant.counted ∙ sym (gap_passed items _ passed most run.result is fits run.ensures.within c.if-run-eq0.true some run.ensures.gap);
      before = c.runs.invariant.before;
      most = c.runs.invariant.most;
    }

pub runs-preserved : goal.runs-preserved
runs-preserved c =
    let items = c.args.items.now in
    let passed = c.runs.passed in
    let most = c.min-most.result in
    let run = c.run_len-run in
    let fits : passed + most ≤ length items = omega arith in
    let is = ap (λ k. take k (drop passed items)) (let same : passed + most - passed ≡ most = omega arith in same) in
    let more = run_passed items _ passed most run.result is fits run.ensures.within run.ensures.bytes in
    record {
      within = omega (arith, run.ensures.within);
      place = omega arith;
      here = omega (arith, more, c.runs.invariant.counted);
      counted = omega (arith, more, c.runs.invariant.counted);
      before = λ k l. omega (arith, fewer_before items _ passed most run.result is fits run.ensures.within run.ensures.bytes (omega (arith, c.if-run-eq0.false)) k l, c.runs.invariant.counted);
      most = omega (arith, run.ensures.within);
    }

pub returns-clause-place : goal.returns-clause-place
returns-clause-place c =
    let whole = ap count (take_all c.runs.passed c.args.items.now (omega arith)) in
    reached_after c.args.items.now c.args.n c.runs.reached.items c.runs.reached.bytes (omega arith) c.runs.invariant.here c.runs.invariant.before
    (omega (arith, whole, c.runs.invariant.counted))
