use Rattle.std.proofs.Common.{◌≡◌, ◌≤◌, ◌*◌, take}
use Rattle.trac_rules.specs.Form.{all_items}
use Rattle.trac_doubts.specs.Sums.{sum_among}
use Rattle.trac_doubts.proofs.texts.first_sum.Given as goal

abbrev pub invariant-loop-place : goal.invariant-loop-place
invariant-loop-place g l = record {
  sum : l.sum ≡ sum_among (take l.place (all_items l.form));
  small : l.sum ≤ 255 * l.place;
}
