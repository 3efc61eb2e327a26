-- While no gap is met, the items so far are bytes; then one of them is none.
use Rattle.std.proofs.Common.{◌≡◌, ◌+◌, ◌<◌, drop, false, take, true}
use Rattle.trac_rules.specs.Weights.{gap_count}
use Rattle.trac_items.proofs.byte_runs.has_gap.Given as goal

abbrev pub invariant-loop-i : goal.invariant-loop-i
invariant-loop-i g l = record {
  none : l.gap ≡ false → gap_count (take l.at l.items) ≡ 0 → gap_count (take (l.at + l.i) l.items) ≡ 0;
  none_behind : l.gap ≡ false → gap_count (drop (l.at + l.i) l.items) ≡ 0 → gap_count (drop l.at l.items) ≡ 0;
  some : l.gap ≡ true → 0 < gap_count (take (l.at + l.i) l.items);
}
