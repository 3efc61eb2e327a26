use Rattle.std.proofs.Common.{◌≡◌, ◌-◌, ◌++◌, ◌≤◌, length, take}
use Rattle.trac_rules.specs.Pieces.{bytes_in}
use Rattle.trac_forms.proofs.piece.first_bytes_into.Given as goal

abbrev pub invariant-runs : goal.invariant-runs
invariant-runs g l = record {
  within : l.passed ≤ length l.items;
  put : l.put ≡ length (bytes_in (take l.passed l.items));
  most : l.put ≤ l.most;
  added : l.out.items ≡ l.fn.out.items ++ bytes_in (take l.passed l.items);
}

abbrev pub decreases-runs : goal.decreases-runs
decreases-runs g l = length l.items - l.passed
