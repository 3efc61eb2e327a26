use Rattle.std.proofs.Common.{◌≡◌, ◌++◌, take}
use Rattle.std.specs.List.{enumerate_from, flat_map}
use Rattle.trac_state_lines.specs.StateLines.{block_lines}
use Rattle.trac_state_lines.proofs.states.blocks_into.Given as goal

-- the blocks so far are shown
abbrev pub invariant-loop-i : goal.invariant-loop-i
invariant-loop-i g l = l.out.items ≡ l.fn.out.items ++ flat_map block_lines (take l.i (enumerate_from 0 l.store.blocks))
