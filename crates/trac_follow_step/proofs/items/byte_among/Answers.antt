-- A run of bytes is passed, and then the gap that ends it; or the byte is found.
use Rattle.std.proofs.Common.{◌≡◌, ℕ, ◌+◌, ◌-◌, ◌≤◌, drop, length, take, refl, ap, ◌∙◌, arith, flat_map, Some, slice_get}
use Rattle.trac_rules.specs.declared.item.Item.TheVariants.{Byte}
use Rattle.trac_rules.specs.Form.{all_items}
use Rattle.trac_follow_step.specs.declared.items.Giving.{Giving}
use Rattle.trac_follow_step.specs.declared.items.Giving.TheVariants.{Filled, Read, Shown}
use Rattle.trac_follow_step.specs.Items.{given_by}
use Rattle.trac_origins.proofs.Zips.{of_dropped}
use Rattle.trac_follow_step.proofs.Spans.{given_more, run_found, run_passed, run_within}
use Rattle.trac_follow_step.proofs.items.byte_among.Given.{Over}
use Rattle.trac_follow_step.proofs.items.byte_among.Goals as goal
use Rattle.trac_follow_step.proofs.items.byte_among.Goals.{After-run_len-run, After-given_at-given}

-- a byte gives one
one : (giving : Giving) (b : ℕ) → length (given_by giving (Byte b)) ≡ 1
one (Filled arguments) b = refl
one Read b = refl
one Shown b = refl

-- the run ends before the items do
within : (g : Over) (c : After-run_len-run g) → c.run_len-run.result ≤ c.args.to - c.runs.place
within g c =
    run_within (given_by c.args.giving) (one c.args.giving) (all_items c.args.form.now) c.args.from c.runs.place c.args.to c.runs.invariant.from c.run_len-run.result c.run_len-run.ensures

-- what it gives is passed
passed : (g : Over) (c : After-run_len-run g) →
    length (flat_map (given_by c.args.giving) (take (c.runs.place + c.run_len-run.result - c.args.from) (drop c.args.from (all_items c.args.form.now))))
    ≡ length (flat_map (given_by c.args.giving) (take (c.runs.place - c.args.from) (drop c.args.from (all_items c.args.form.now)))) + c.run_len-run.result
passed g c =
    run_passed (given_by c.args.giving) (one c.args.giving) (all_items c.args.form.now) c.args.from c.runs.place c.args.to c.runs.invariant.from c.run_len-run.result c.run_len-run.ensures

-- after it stands the gap
there : (g : Over) (c : After-given_at-given g) →
    slice_get (drop c.args.from (all_items c.args.form.now)) (c.runs.place + c.run_len-run.result - c.args.from) ≡ Some c.given_at-given.result.item
there g c =
    let items = all_items c.args.form.now in
    let n = c.runs.place + c.run_len-run.result - c.args.from in
    of_dropped c.args.from items n
    ∙ ap (slice_get items) (let same : c.args.from + n ≡ c.runs.place + c.run_len-run.result = omega (arith, c.runs.invariant.from) in same) ∙ c.given_at-given.ensures.there

pub overflow_add-place : goal.overflow_add-place
overflow_add-place g c = omega (arith, within g (goal.at.overflow_add-place g c).After-run_len-run, c.if-rest-run.true, c.runs.invariant.to, c.ranges.to.fits)

pub given_at-requires-clause-within : goal.given_at-requires-clause-within
given_at-requires-clause-within g c =
    omega (arith, within g (goal.at.given_at-requires-clause-within g c).After-run_len-run, c.if-rest-run.true, c.runs.invariant.to, c.requires.within)

pub returns-then-rest-run : goal.returns-then-rest-run
returns-then-rest-run g c =
    run_found (given_by c.args.giving) (one c.args.giving) (all_items c.args.form.now) c.args.from c.runs.place c.args.to c.runs.invariant.from c.run_len-run.result c.run_len-run.ensures
    c.runs.rest c.args.i c.given_at.result c.runs.invariant.passed c.if-rest-run.true c.runs.invariant.to c.given_at.ensures.there c.given_at.ensures.at c.given_at.ensures.byte

pub overflow_add-place-in-runs : goal.overflow_add-place-in-runs
overflow_add-place-in-runs g c = omega (arith, within g (goal.at.overflow_add-place-in-runs g c).After-run_len-run, c.runs.invariant.to, c.ranges.to.fits)

pub given_at-given-requires-clause-within : goal.given_at-given-requires-clause-within
given_at-given-requires-clause-within g c =
    omega (arith, within g (goal.at.given_at-given-requires-clause-within g c).After-run_len-run, c.if-place-to.false, c.runs.invariant.to, c.requires.within)

pub returns-then-rest-len : goal.returns-then-rest-len
returns-then-rest-len g c =
    let row = goal.at.returns-then-rest-len g c in
    let at = c.given_at-given.ensures.at in
    let count = ap (λ k. length (flat_map (given_by c.args.giving) (take k (drop c.args.from (all_items c.args.form.now))))) at in (
      omega (arith, at, within g row.After-run_len-run, c.if-place-to.false, c.runs.invariant.to, c.runs.invariant.from),
      record {
        there = ap (slice_get (drop c.args.from (all_items c.args.form.now))) at ∙ there g row.After-given_at-given;
        place = omega (arith, count, passed g row.After-run_len-run, c.given_at-given.ensures.byte, c.runs.invariant.passed, c.if-rest-run.false);
        within = omega (arith, c.given_at-given.ensures.byte, c.given_len-len.ensures, c.if-rest-len.true);
      },
    )

pub overflow_add-place-in-runs-2 : goal.overflow_add-place-in-runs-2
overflow_add-place-in-runs-2 g c =
    omega (arith, within g (goal.at.overflow_add-place-in-runs-2 g c).After-run_len-run, c.if-place-to.false, c.runs.invariant.to, c.ranges.to.fits)

pub runs-preserved : goal.runs-preserved
runs-preserved g c =
    let row = goal.at.runs-preserved g c in
    let items = all_items c.args.form.now in
    let give = given_by c.args.giving in
    let n = c.runs.place + c.run_len-run.result - c.args.from in
    let more = given_more give (drop c.args.from items) n c.given_at-given.result.item (there g row.After-given_at-given) in
    let next : c.runs.place + c.run_len-run.result + 1 - c.args.from ≡ n + 1 = omega (arith, c.runs.invariant.from) in
    let counted = ap (λ k. length (flat_map give (take k (drop c.args.from items)))) next in
    record {
      from = omega (arith, c.runs.invariant.from);
      to = omega (arith, within g row.After-run_len-run, c.if-place-to.false, c.runs.invariant.to);
      passed = omega (arith, counted, more, passed g row.After-run_len-run, c.runs.invariant.passed, c.given_len-len.ensures, c.if-rest-len.false, c.if-rest-run.false);
    }

pub returns-then-place-to : goal.returns-then-place-to
returns-then-place-to g c =
    let items = all_items c.args.form.now in
    let give = given_by c.args.giving in
    let all = ap (λ k. length (flat_map give (take (k - c.args.from) (drop c.args.from items)))) c.if-place-to.true in
    omega (arith, all, passed g (goal.at.returns-then-place-to g c).After-run_len-run, c.runs.invariant.passed, c.if-rest-run.false)
