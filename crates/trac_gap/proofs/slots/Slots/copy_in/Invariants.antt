-- The items so far are written.
use Rattle.std.proofs.Common.{◌≡◌, Some, take, map}
use Rattle.trac_gap.specs.Slots.{pasted}
use Rattle.trac_gap.proofs.slots.Slots.copy_in.Given as goal

abbrev pub invariant-loop-i : goal.invariant-loop-i
invariant-loop-i g l = record {
  at : l.self.at ≡ l.fn.self.at;
  slots : l.self.slots ≡ pasted l.fn.self.slots l.at (map Some (take l.i l.items));
}
