-- What is left to be passed.
use Rattle.std.proofs.Common.{◌≡◌, ◌+◌, ◌-◌, ◌≤◌, drop, length, take, flat_map}
use Rattle.trac_rules.specs.Form.{all_items}
use Rattle.trac_follow_step.specs.Items.{given_by}
use Rattle.trac_follow_step.proofs.items.byte_among.Given as goal

abbrev pub invariant-runs : goal.invariant-runs
invariant-runs g l = record {
  from : l.from ≤ l.place;
  to : l.place ≤ l.to;
  passed : length (flat_map (given_by l.giving) (take (l.place - l.from) (drop l.from (all_items l.form)))) + l.rest ≡ l.i;
}

abbrev pub decreases-runs : goal.decreases-runs
decreases-runs g l = l.to - l.place
