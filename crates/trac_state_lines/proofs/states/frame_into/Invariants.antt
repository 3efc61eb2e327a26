use Rattle.std.proofs.Common.{◌≡◌, ◌++◌, take}
use Rattle.std.specs.Prelude.{codes}
use Rattle.std.specs.List.{flat_map}
use Rattle.trac_streams.specs.Escapes.{bracketed}
use Rattle.trac_state_lines.specs.StateLines.{sharps}
use Rattle.trac_state_lines.proofs.states.frame_into.Given as goal

-- the arguments so far are shown
abbrev pub invariant-loop-i : goal.invariant-loop-i
invariant-loop-i g l = l.out.items ≡ ((l.fn.out.items ++ codes "call ") ++ sharps l.fn.kind) ++ codes " " ++ flat_map bracketed (take l.i l.arguments)
