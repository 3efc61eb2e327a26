-- The bytes that were read so far.
use Rattle.std.proofs.Common.{◌≡◌, take}
use Rattle.trac_rules.specs.Form.{all_items}
use Rattle.trac_rules.specs.Pieces.{bytes_in}
use Rattle.trac_prims.proofs.blocks.bytes_of.Given as goal

abbrev pub invariant-loop-i : goal.invariant-loop-i
invariant-loop-i g l = l.text.items ≡ bytes_in (take l.i (all_items l.form))
