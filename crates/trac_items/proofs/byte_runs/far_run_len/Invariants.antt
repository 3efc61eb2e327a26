use Rattle.std.proofs.Common.{length, ◌-◌, ◌≡◌, ◌≤◌, take}
use Rattle.trac_rules.specs.Weights.{gap_count}
use Rattle.trac_items.proofs.byte_runs.far_run_len.Given as goal

abbrev pub invariant-chunks : goal.invariant-chunks
invariant-chunks l = (l.from ≤ l.run) × (l.run ≤ length l.items) × (gap_count (take l.run l.items) ≡ 0)

abbrev pub decreases-chunks : goal.decreases-chunks
decreases-chunks l = length l.items - l.run
