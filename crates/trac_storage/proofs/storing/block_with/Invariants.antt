-- The names so far.
use Rattle.std.proofs.Common.{◌≡◌, take}
use Rattle.trac_rules.specs.Undone.{names_in}
use Rattle.trac_change.specs.Changed.{named_forms}
use Rattle.trac_text.specs.Framing.{texts_of}
use Rattle.trac_storage.proofs.storing.block_with.Given as goal

abbrev pub invariant-loop-name : goal.invariant-loop-name
invariant-loop-name g l = texts_of l.names.items ≡ names_in (named_forms (take l.name-index l.forms))
