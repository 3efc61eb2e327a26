use Rattle.std.proofs.Common.{◌≡◌, ◌++◌, take}
use Rattle.std.specs.Prelude.{codes}
use Rattle.std.specs.List.{flat_map}
use Rattle.trac_state_lines.specs.StateLines.{form_line}
use Rattle.trac_streams.specs.Escapes.{number_line}
use Rattle.trac_state_lines.proofs.states.block_into.Given as goal

-- the forms so far are shown
abbrev pub invariant-loop-place : goal.invariant-loop-place
invariant-loop-place g l = l.out.items ≡ (l.fn.out.items ++ number_line (codes "block") l.i) ++ flat_map (form_line (codes "held")) (take l.place l.block.held)
