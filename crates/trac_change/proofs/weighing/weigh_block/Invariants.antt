-- The forms so far, and those that are left, weigh as much as all.
use Rattle.std.proofs.Common.{◌≡◌, ◌+◌, drop}
use Rattle.trac_rules.specs.Weights.{held_weight}
use Rattle.trac_change.proofs.weighing.weigh_block.Given as goal

abbrev pub invariant-loop-i : goal.invariant-loop-i
invariant-loop-i g l = l.weight + held_weight (drop l.i l.block.held) ≡ held_weight l.block.held
