use Rattle.std.proofs.Common.{◌≡◌, ◌++◌, take}
use Rattle.std.specs.List.{join_with_byte}
use Rattle.trac_rules.specs.declared.byte.TheConstants.{STAR}
use Rattle.trac_prims.proofs.tracing.join_into.Given as goal

-- the arguments up to this one were joined
abbrev pub invariant-loop-i : goal.invariant-loop-i
invariant-loop-i g l = l.out.items ≡ l.fn.out.items ++ join_with_byte STAR (take l.i l.args)
