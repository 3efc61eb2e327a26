use Rattle.std.proofs.Common.{◌≡◌, ◌+◌, ◌*◌, ◌<◌, ◌≤◌, ℕ, drop, false, length, take}
use Rattle.trac_rules.specs.Form.{all_items}
use Rattle.trac_rules.specs.Pieces.{begin_with}
use Rattle.trac_doubts.specs.Sums.{sum_among}
use Rattle.trac_doubts.proofs.texts.stands_in.Given as goal

abbrev pub invariant-loop-place : goal.invariant-loop-place
invariant-loop-place g l = record {
  sum : l.sum ≡ sum_among (take (length l.text) (drop l.place (all_items l.form)));
  small : l.sum ≤ 255 * (length l.text + l.place);
  before : (k : ℕ) → k < l.place → begin_with l.text (drop k (all_items l.form)) ≡ false;
}
