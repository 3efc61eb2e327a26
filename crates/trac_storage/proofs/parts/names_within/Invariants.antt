-- The names so far are within the limit.
use Rattle.std.proofs.Common.{◌≡◌, take, true}
use Rattle.trac_text.specs.Framing.{texts_of}
use Rattle.trac_storage.specs.Loading.{names_fit}
use Rattle.trac_storage.proofs.parts.names_within.Given as goal

abbrev pub invariant-loop-name : goal.invariant-loop-name
invariant-loop-name g l = names_fit (texts_of (take l.name-index l.names)) ≡ true
