use Rattle.std.proofs.Common.{length, ◌-◌, ◌≡◌, ◌≤◌, take}
use Rattle.trac_rules.specs.Weights.{gap_count}
use Rattle.trac_items.proofs.byte_runs.run_len.Given as goal

abbrev pub invariant-groups : goal.invariant-groups
invariant-groups l = (l.run ≤ length l.items) × (gap_count (take l.run l.items) ≡ 0)

abbrev pub decreases-groups : goal.decreases-groups
decreases-groups l = length l.items - l.run

abbrev pub invariant-items : goal.invariant-items
invariant-items l = (l.run ≤ length l.items) × (gap_count (take l.run l.items) ≡ 0)

abbrev pub decreases-items : goal.decreases-items
decreases-items l = length l.items - l.run
