-- The text begins at no place before the run that is read so far.
use Rattle.std.proofs.Common.{◌≡◌, ℕ, ◌+◌, ◌-◌, ◌++◌, ◌<◌, ◌≤◌, false, length, take, drop}
use Rattle.trac_rules.specs.Form.{as_items}
use Rattle.trac_rules.specs.Pieces.{begin_with, bytes_in}
use Rattle.trac_forms.proofs.piece.search.Given as goal

abbrev pub invariant-runs : goal.invariant-runs
invariant-runs g l = record {
  within : l.passed ≤ length l.items;
  passed : l.start.items + length l.run.items ≡ l.passed;
  rest : drop l.start.items l.items ≡ as_items l.run.items ++ drop l.passed l.items;
  counted : l.start.bytes ≡ length (bytes_in (take l.start.items l.items));
  fewer : l.start.bytes ≤ l.start.items;
  none : (k : ℕ) → k < l.start.items → begin_with l.finder (drop k l.items) ≡ false;
}

abbrev pub decreases-runs : goal.decreases-runs
decreases-runs g l = length l.items - l.passed
