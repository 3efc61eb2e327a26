use Rattle.std.proofs.Common.{◌<◌, arith, length}
use Rattle.trac_rules.specs.Form.{all_items}
use Rattle.trac_doubts.proofs.Standing.{sum_next}
use Rattle.trac_doubts.proofs.texts.first_sum.Goals as goal

pub loop-place-preserved : goal.loop-place-preserved
loop-place-preserved g c =
    let within : c.loop-place.place < length (all_items c.args.form.now) = omega (arith, c.loop-place-test.true, c.requires.within) in
    let next = sum_next (all_items c.args.form.now) c.loop-place.place within in
    record {
      sum = omega (arith, next, c.loop-place.invariant.sum, c.code_at-sum.ensures.code);
      small = omega (arith, c.code_at-sum.ensures.byte, c.loop-place.invariant.small);
    }
