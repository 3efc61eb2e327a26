use Rattle.std.proofs.Common.{length, ◌≡◌, ◌≤◌, drop}
use Rattle.trac_rules.specs.Weights.{gap_count}
use Rattle.trac_items.proofs.byte_runs.last_run_len.Given as goal

abbrev pub invariant-groups : goal.invariant-groups
invariant-groups l = (l.start ≤ length l.items) × (gap_count (drop l.start l.items) ≡ 0)

abbrev pub decreases-groups : goal.decreases-groups
decreases-groups l = l.start

abbrev pub invariant-items : goal.invariant-items
invariant-items l = (l.start ≤ length l.items) × (gap_count (drop l.start l.items) ≡ 0)

abbrev pub decreases-items : goal.decreases-items
decreases-items l = l.start
