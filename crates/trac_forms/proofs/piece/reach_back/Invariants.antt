-- The bytes so far, from the end on, and the place before the first of them: fewer stand after each later place.
use Rattle.std.proofs.Common.{◌≡◌, ℕ, ◌<◌, ◌≤◌, length, drop}
use Rattle.trac_rules.specs.Pieces.{bytes_in}
use Rattle.trac_forms.proofs.piece.reach_back.Given as goal

abbrev pub invariant-runs : goal.invariant-runs
invariant-runs l = record {
  place : l.place ≤ l.reached.items;
  within : l.reached.items ≤ length l.items;
  here : l.reached.bytes ≡ length (bytes_in (drop l.reached.items l.items));
  counted : l.reached.bytes ≡ length (bytes_in (drop l.place l.items));
  after : (k : ℕ) → l.reached.items < k → k ≤ length l.items → length (bytes_in (drop k l.items)) < l.reached.bytes;
  most : l.reached.bytes ≤ l.n;
}

abbrev pub decreases-runs : goal.decreases-runs
decreases-runs l = l.place
