use Rattle.std.proofs.Common.{◌≡◌, ◌-◌, take}
use Rattle.trac_rules.specs.Limits.{total_length}
use Rattle.trac_follow_step.proofs.offset.argument_offset.Given as goal

abbrev pub invariant-loop-i : goal.invariant-loop-i
invariant-loop-i g l = l.from_argument ≡ l.from_function - total_length (take l.i l.arguments)
