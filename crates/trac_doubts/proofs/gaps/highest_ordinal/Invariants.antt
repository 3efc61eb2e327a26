use Rattle.std.proofs.Common.{◌≡◌, ◌+◌, ◌-◌, ◌≤◌, take}
use Rattle.trac_rules.specs.Form.{all_items}
use Rattle.trac_rules.specs.Doubts.{highest_ordinal}
use Rattle.trac_doubts.proofs.gaps.highest_ordinal.Given as goal

abbrev pub invariant-loop-place : goal.invariant-loop-place
invariant-loop-place g l = record {
  within : l.place ≤ l.len + 1;
  highest : l.highest ≡ highest_ordinal (take l.place (all_items l.form));
}

abbrev pub decreases-loop-place : goal.decreases-loop-place
decreases-loop-place g l = l.len - l.place
