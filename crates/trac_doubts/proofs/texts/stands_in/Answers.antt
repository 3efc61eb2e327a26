use Rattle.std.proofs.Common.{◌≡◌, ◌+◌, ◌<◌, arith, below_more, drop, false, length, sym, ◌∙◌}
use Rattle.trac_rules.specs.Form.{all_items}
use Rattle.trac_rules.specs.Pieces.{begin_with}
use Rattle.trac_doubts.proofs.Standing.{found, last_tried, other_sum, sum_moved, too_short}
use Rattle.trac_doubts.proofs.texts.stands_in.Goals as goal
use Rattle.trac_doubts.proofs.texts.stands_in.Goals.{else-sum-wanted-via-then-sum-wanted+else-begins_at, else-sum-wanted-via-else-sum-wanted}

pub returns-in_default : goal.returns-in_default
returns-in_default g c = too_short c.args.text.now (all_items c.args.form.now) c.requires c.in_default.ensures.place

pub loop-place-init : goal.loop-place-init
loop-place-init g c = record {
  sum = c.first_sum-sum.ensures.sum;
  small = omega (arith, c.first_sum-sum.ensures.small);
  before = λ k l. absurd (omega (arith, l));
}

pub returns-then-begins_at : goal.returns-then-begins_at
returns-then-begins_at g c =
    found c.args.text.now (all_items c.args.form.now) c.loop-place.place c.requires (sym c.begins_at.ensures ∙ c.if-begins_at.true)

pub overflow_add-sum : goal.overflow_add-sum
overflow_add-sum g c =
    omega (arith, c.loop-place.invariant.small, c.code_at-coming.ensures.byte, c.in-Some.ensures.fits, c.in-Some.ensures.place, c.loop-place-test.true)

pub overflow_sub-sum : goal.overflow_sub-sum
overflow_sub-sum g c =
    let within : c.loop-place.place + length c.args.text.now < length (all_items c.args.form.now) = omega (arith, c.in-Some.ensures.place, c.loop-place-test.true) in
    omega (arith, sum_moved (all_items c.args.form.now) c.loop-place.place (length c.args.text.now) within, c.code_at-coming.ensures.code, c.code_at-going.ensures.code, c.loop-place.invariant.sum)

pub loop-place-preserved : goal.loop-place-preserved
loop-place-preserved g c =
    let text = c.args.text.now in
    let items = all_items c.args.form.now in
    let place = c.loop-place.place in
    let within : place + length text < length items = omega (arith, c.in-Some.ensures.place, c.loop-place-test.true) in
    let here : begin_with text (drop place items) ≡ false =
    elim c.else-sum-wanted.branch [
      | else-sum-wanted-via-then-sum-wanted+else-begins_at w ↦ sym w.begins_at.ensures ∙ w.if-begins_at.false
      | else-sum-wanted-via-else-sum-wanted w ↦
          other_sum text (drop place items) (λ same. w.if-sum-wanted.false (c.loop-place.invariant.sum ∙ same ∙ sym c.sum_of-wanted.ensures))
    ] in
    record {
      sum = omega (arith, sum_moved items place (length text) within, c.code_at-coming.ensures.code, c.code_at-going.ensures.code, c.loop-place.invariant.sum);
      small = omega (arith, c.loop-place.invariant.small, c.code_at-coming.ensures.byte);
      before = below_more (λ k. begin_with text (drop k items) ≡ false) place c.loop-place.invariant.before here;
    }

pub returns : goal.returns
returns g c =
    last_tried c.args.text.now (all_items c.args.form.now) c.in-Some.last c.begins_at-2.result c.requires c.in-Some.ensures.place c.begins_at-2.ensures
    (λ k l. c.loop-place.invariant.before k (omega (arith, l, c.loop-place-test.false)))
