-- The last items of the run are copied, and the first `left` are not.
use Rattle.std.proofs.Common.{◌≡◌, ◌+◌, ◌≤◌, drop}
use Rattle.trac_gap.specs.Slots.{run, pasted}
use Rattle.trac_gap.proofs.slots.Slots.parts_up.Given as goal

abbrev pub invariant-loop-left : goal.invariant-loop-left
invariant-loop-left g l = record {
  at : l.self.at ≡ l.fn.self.at;
  slots : l.self.slots ≡ pasted l.fn.self.slots (l.to + l.left) (drop l.left (run l.from l.count l.fn.self.slots));
  within : l.left ≤ l.count;
}

abbrev pub decreases-loop-left : goal.decreases-loop-left
decreases-loop-left g l = l.left
