-- The further names so far.
use Rattle.std.proofs.Common.{◌≡◌, ◌≤◌, take}
use Rattle.trac_prims.specs.Blocks.{count_further}
use Rattle.trac_prims.proofs.blocks.may_come_back.Given as goal

abbrev pub invariant-loop-i : goal.invariant-loop-i
invariant-loop-i g l = (l.more ≡ count_further (take l.i l.block.held) l.store.forms) × (l.more ≤ l.i)
