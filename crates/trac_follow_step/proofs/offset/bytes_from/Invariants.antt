use Rattle.std.proofs.Common.{◌≡◌, drop, reverse}
use Rattle.trac_rules.specs.Limits.{argument_bytes}
use Rattle.trac_follow_step.proofs.offset.bytes_from.Given as goal

-- so many bytes do the functions hold that are left
abbrev pub invariant-loop-number : goal.invariant-loop-number
invariant-loop-number g l = (l.functions ≡ drop l.number (reverse l.machine.state.frames)) × (l.bytes ≡ argument_bytes l.functions)
