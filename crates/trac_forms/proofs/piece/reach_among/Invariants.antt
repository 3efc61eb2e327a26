-- The bytes so far, and the place after the last of them: fewer stand before each earlier place.
use Rattle.std.proofs.Common.{◌≡◌, ℕ, ◌-◌, ◌<◌, ◌≤◌, length, take}
use Rattle.trac_rules.specs.Pieces.{bytes_in}
use Rattle.trac_forms.proofs.piece.reach_among.Given as goal

abbrev pub invariant-runs : goal.invariant-runs
invariant-runs l = record {
  within : l.passed ≤ length l.items;
  place : l.reached.items ≤ l.passed;
  here : l.reached.bytes ≡ length (bytes_in (take l.reached.items l.items));
  counted : l.reached.bytes ≡ length (bytes_in (take l.passed l.items));
  before : (k : ℕ) → k < l.reached.items → length (bytes_in (take k l.items)) < l.reached.bytes;
  most : l.reached.bytes ≤ l.n;
}

abbrev pub decreases-runs : goal.decreases-runs
decreases-runs l = length l.items - l.passed
