-- The names that were found so far.
use Rattle.std.proofs.Common.{◌≡◌, take}
use Rattle.trac_rules.specs.Blocks.{moved_out}
use Rattle.trac_rules.specs.Undone.{names_in}
use Rattle.trac_text.specs.Framing.{texts_of}
use Rattle.trac_prims.proofs.blocks.leaving_few.Given as goal

abbrev pub invariant-loop-i : goal.invariant-loop-i
invariant-loop-i g l = texts_of l.held.items ≡ names_in (moved_out (take l.i l.names) l.store.forms)
