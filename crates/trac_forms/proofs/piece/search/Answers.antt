-- A run ends before a gap, or with the items; the first run in which the text occurs has its first place.
use Rattle.std.proofs.Common.{◌≡◌, ◌+◌, ◌-◌, ◌++◌, ◌<◌, List, ℕ, length, drop, take, get_or, refl, sym, ap, ◌∙◌, arith}
use Rattle.std.specs.Prelude.{None, Some}
use Rattle.std.proofs.lemmas.List.{drop_all, length-drop, take_rest}
use Rattle.trac_rules.specs.declared.item.Item.TheVariants.{Byte}
use Rattle.trac_rules.specs.Form.{as_items}
use Rattle.trac_rules.specs.Pieces.{bytes_in}
use Rattle.trac_forms.proofs.Searching.{bound_gap, count_over_gap, in_last_run, no_byte_next, nowhere_yet, passed_in_last_run, passed_in_run, reached_in_run, run_read, searched}
use Rattle.trac_forms.proofs.piece.search.Goals as goal

pub returns-in-Some-clause-place : goal.returns-in-Some-clause-place
returns-in-Some-clause-place g c =
    reached_in_run c.args.finder.now c.args.items.now c.runs.start.items c.runs.run.items (drop c.runs.passed c.args.items.now) (omega arith) c.runs.invariant.rest
    c.runs.invariant.none c.in-Some.at (searched c.runs.run.items c.args.finder.now _ (Some (c.in-Some.at.items - c.runs.start.items)) c.as_slice.ensures.value c.in-Some.ensures.place) c.in-Some.ensures.after

pub returns-in-Some-clause-bytes : goal.returns-in-Some-clause-bytes
returns-in-Some-clause-bytes g c =
    passed_in_run c.args.finder.now c.args.items.now c.runs.start.items c.runs.run.items (drop c.runs.passed c.args.items.now) (omega arith) c.runs.invariant.rest
    c.runs.invariant.none c.in-Some.at c.runs.start.bytes (searched c.runs.run.items c.args.finder.now _ (Some (c.in-Some.at.items - c.runs.start.items)) c.as_slice.ensures.value c.in-Some.ensures.place) c.in-Some.ensures.after
    c.runs.invariant.counted c.in-Some.ensures.bytes

pub runs-preserved-then-read-gt0 : goal.runs-preserved-then-read-gt0
runs-preserved-then-read-gt0 g c =
    let more = run_read c.args.items.now c.runs.start.items c.runs.passed c.in_ok-read.read c.runs.run.items c.read_run.new.run.items c.runs.invariant.within c.in_ok-read.ensures.within c.in_ok-read.ensures.bytes c.in_ok-read.ensures.put c.runs.invariant.rest in
    record {
      within = more.0;
      passed = omega (arith, more.1, c.runs.invariant.passed);
      rest = more.2;
      counted = c.runs.invariant.counted;
      fewer = c.runs.invariant.fewer;
      none = c.runs.invariant.none;
    }

pub returns-in-Some-place_in_run-clause-place : goal.returns-in-Some-place_in_run-clause-place
returns-in-Some-place_in_run-clause-place g c =
    let more = run_read c.args.items.now c.runs.start.items c.runs.passed c.in_ok-read.read c.runs.run.items c.read_run.new.run.items c.runs.invariant.within c.in_ok-read.ensures.within c.in_ok-read.ensures.bytes c.in_ok-read.ensures.put c.runs.invariant.rest in
    reached_in_run c.args.finder.now c.args.items.now c.runs.start.items c.read_run.new.run.items (drop (c.runs.passed + c.in_ok-read.read) c.args.items.now) (omega arith) (more.2)
    c.runs.invariant.none c.in-Some-place_in_run.at (searched c.read_run.new.run.items c.args.finder.now _ (Some (c.in-Some-place_in_run.at.items - c.runs.start.items)) c.as_slice-in-runs.ensures.value c.in-Some-place_in_run.ensures.place) c.in-Some-place_in_run.ensures.after

pub returns-in-Some-place_in_run-clause-bytes : goal.returns-in-Some-place_in_run-clause-bytes
returns-in-Some-place_in_run-clause-bytes g c =
    let more = run_read c.args.items.now c.runs.start.items c.runs.passed c.in_ok-read.read c.runs.run.items c.read_run.new.run.items c.runs.invariant.within c.in_ok-read.ensures.within c.in_ok-read.ensures.bytes c.in_ok-read.ensures.put c.runs.invariant.rest in
    passed_in_run c.args.finder.now c.args.items.now c.runs.start.items c.read_run.new.run.items (drop (c.runs.passed + c.in_ok-read.read) c.args.items.now) (omega arith) (more.2)
    c.runs.invariant.none c.in-Some-place_in_run.at c.runs.start.bytes (searched c.read_run.new.run.items c.args.finder.now _ (Some (c.in-Some-place_in_run.at.items - c.runs.start.items)) c.as_slice-in-runs.ensures.value c.in-Some-place_in_run.ensures.place) c.in-Some-place_in_run.ensures.after
    c.runs.invariant.counted c.in-Some-place_in_run.ensures.bytes

pub runs-preserved : goal.runs-preserved
runs-preserved g c =
    let more = run_read c.args.items.now c.runs.start.items c.runs.passed c.in_ok-read.read c.runs.run.items c.read_run.new.run.items c.runs.invariant.within c.in_ok-read.ensures.within c.in_ok-read.ensures.bytes c.in_ok-read.ensures.put c.runs.invariant.rest in
    let items = c.args.items.now in
    let i = c.runs.passed in
    let start = c.runs.start.items in
    let run = c.read_run.new.run.items in
    let none : c.in_ok-read.read ≡ 0 = omega (arith, c.if-read-gt0.false) in
    let here : i + c.in_ok-read.read ≡ i = omega (arith, none) in
    let rest : drop start items ≡ as_items run ++ drop i items = more.2 ∙ ap (λ k. as_items run ++ drop k items) here in
    let finds = searched run c.args.finder.now _ None c.as_slice-in-runs.ensures.value c.in_default-place_in_run.ensures.place in
    let some : 0 < length (take (length items - i) (drop i items)) = omega (arith, ap length (take_rest items i), length-drop i items, c.runs-test.true) in
    let other = no_byte_next items _ i c.runs-test.true (take_rest items i) (c.in_ok-read.ensures.gap none some) in
    let length_is : c.len-in-runs.result ≡ length run = omega arith in
    let at : start + c.len-in-runs.result + 1 ≡ i + 1 = omega (arith, more.1, c.runs.invariant.passed, none) in
    record {
      within = omega (arith, c.runs-test.true);
      passed = omega (arith, at, ap length c.clear.ensures.items);
      rest = ap (λ k. drop k items) at ∙ ap (λ (r : List ℕ). as_items r ++ drop (i + 1) items) (sym c.clear.ensures.items);
      counted =
          omega (
            arith,
            count_over_gap c.args.finder.now items start run i (omega arith) rest other (omega (arith, at, length_is), c.runs-test.true),
            ap (λ k. length (bytes_in (take k items))) at,
            c.runs.invariant.counted,
            length_is,
          );
      fewer = omega arith;
      none = λ k l.
          nowhere_yet c.args.finder.now items start run (drop i items) (omega arith) rest (bound_gap items i (get_or items i (Byte 0)) c.runs-test.true refl other) finds
          c.runs.invariant.none k (omega (arith, l, length_is));
    }

pub returns-clause-place : goal.returns-clause-place
returns-clause-place g c =
    in_last_run c.args.finder.now c.args.items.now c.runs.start.items c.runs.run.items (drop c.runs.passed c.args.items.now) (omega arith) c.runs.invariant.rest
    c.runs.invariant.none c.place_in_run-2.result (searched c.runs.run.items c.args.finder.now _ _ c.as_slice-2.ensures.value c.place_in_run-2.ensures.place)
    c.place_in_run-2.ensures.after (drop_all c.runs.passed c.args.items.now (omega arith))

pub returns-clause-bytes : goal.returns-clause-bytes
returns-clause-bytes g c =
    passed_in_last_run c.args.finder.now c.args.items.now c.runs.start.items c.runs.run.items (drop c.runs.passed c.args.items.now) (omega arith) c.runs.invariant.rest
    c.runs.invariant.none c.place_in_run-2.result c.runs.start.bytes (searched c.runs.run.items c.args.finder.now _ _ c.as_slice-2.ensures.value c.place_in_run-2.ensures.place)
    c.place_in_run-2.ensures.after c.runs.invariant.counted c.place_in_run-2.ensures.bytes
