-- The first items of the run are copied.
use Rattle.std.proofs.Common.{◌≡◌, ◌-◌, ◌≤◌, take}
use Rattle.trac_gap.specs.Slots.{run, pasted}
use Rattle.trac_gap.proofs.slots.Slots.parts_down.Given as goal

abbrev pub invariant-loop-done : goal.invariant-loop-done
invariant-loop-done g l = record {
  at : l.self.at ≡ l.fn.self.at;
  slots : l.self.slots ≡ pasted l.fn.self.slots l.to (take l.done (run l.from l.count l.fn.self.slots));
  within : l.done ≤ l.count;
}

abbrev pub decreases-loop-done : goal.decreases-loop-done
decreases-loop-done g l = l.count - l.done
