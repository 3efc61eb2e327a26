-- Fewer bytes stand after each later place.
use Rattle.std.proofs.Common.{◌≡◌, ◌-◌, ◌<◌, ◌≤◌, length, take, drop, sym, ap, ◌∙◌, arith}
use Rattle.trac_forms.proofs.Passing.{count, count-split, reached_before}
use Rattle.trac_forms.proofs.RunLengths.{fewer_behind, gap_behind, run_behind}
use Rattle.trac_forms.proofs.piece.reach_back.Goals as goal

pub returns-then-reached-n-clause-bytes : goal.returns-then-reached-n-clause-bytes
returns-then-reached-n-clause-bytes c = omega (arith, count-split c.runs.place c.args.items.now, c.runs.invariant.counted)

pub returns-then-reached-n-clause-place : goal.returns-then-reached-n-clause-place
returns-then-reached-n-clause-place c =
    reached_before c.args.items.now c.args.n c.runs.reached.items c.runs.reached.bytes (omega arith) c.runs.invariant.here c.runs.invariant.after
    (omega (arith, count-split c.runs.place c.args.items.now, c.runs.invariant.counted))

pub runs-preserved-then-run-eq0 : goal.runs-preserved-then-run-eq0
runs-preserved-then-run-eq0 c =
    let items = c.args.items.now in
    let place = c.runs.place in
    let most = c.min-most.result in
    let run = c.last_run_len-run in
    let some : 0 < most = omega arith in
    let less : most ≤ place = omega arith in
    let within : place ≤ length items = omega arith in
    let is = ap (λ k. take k (drop (place - most) items)) (let same : place - (place - most) ≡ most = omega arith in same) in
    record {
      place = omega arith;
      within = c.runs.invariant.within;
      here = c.runs.invariant.here;
      counted = c.runs.invariant.counted ∙ sym (gap_behind items _ place most run.result is (less, within) run.ensures.within c.if-run-eq0.true some run.ensures.gap);
      after = c.runs.invariant.after;
      most = c.runs.invariant.most;
    }

pub runs-preserved : goal.runs-preserved
runs-preserved c =
    let items = c.args.items.now in
    let place = c.runs.place in
    let most = c.min-most.result in
    let run = c.last_run_len-run in
    let less : most ≤ place = omega arith in
    let within : place ≤ length items = omega arith in
    let is = ap (λ k. take k (drop (place - most) items)) (let same : place - (place - most) ≡ most = omega arith in same) in
    let more = run_behind items _ place most run.result is (less, within) run.ensures.within run.ensures.bytes in
    record {
      place = omega arith;
      within = omega arith;
      here = omega (arith, more, c.runs.invariant.counted);
      counted = omega (arith, more, c.runs.invariant.counted);
      after = λ k l m. omega (arith, fewer_behind items _ place most run.result is (less, within) run.ensures.within run.ensures.bytes (omega (arith, c.if-run-eq0.false)) k l m, c.runs.invariant.counted);
      most = omega (arith, run.ensures.within);
    }

pub returns-clause-place : goal.returns-clause-place
returns-clause-place c =
    let none : c.runs.place ≡ 0 = omega arith in
    let whole = ap (λ k. count (drop k c.args.items.now)) none in
    reached_before c.args.items.now c.args.n c.runs.reached.items c.runs.reached.bytes (omega arith) c.runs.invariant.here c.runs.invariant.after
    (omega (arith, whole, c.runs.invariant.counted))
