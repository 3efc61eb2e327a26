use Rattle.std.proofs.Common.{◌≡◌, ◌++◌}
use Rattle.std.specs.Prelude.{reverse}
use Rattle.std.specs.List.{flat_map}
use Rattle.trac_state_lines.specs.StateLines.{frame_line}
use Rattle.trac_state_lines.proofs.states.frames_into.Given as goal

-- what is shown so far, and the functions that are left
abbrev pub invariant-loop-kind : goal.invariant-loop-kind
invariant-loop-kind g l = l.out.items ++ flat_map frame_line l.kind-iterator ≡ l.fn.out.items ++ flat_map frame_line (reverse l.machine.state.frames)
