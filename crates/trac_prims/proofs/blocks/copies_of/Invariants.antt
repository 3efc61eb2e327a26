-- The forms that were copied so far.
use Rattle.std.proofs.Common.{◌≡◌, take}
use Rattle.trac_change.specs.Changed.{named_forms}
use Rattle.trac_prims.proofs.blocks.copies_of.Given as goal

abbrev pub invariant-loop-i : goal.invariant-loop-i
invariant-loop-i g l = named_forms l.copies.items ≡ take l.i l.block.held
