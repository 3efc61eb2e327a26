-- The texts that were copied so far.
use Rattle.std.proofs.Common.{◌≡◌, take}
use Rattle.trac_text.specs.Framing.{texts_of}
use Rattle.trac_prims.proofs.forms.copies.Given as goal

abbrev pub invariant-loop-i : goal.invariant-loop-i
invariant-loop-i g l = texts_of l.copies.items ≡ take l.i l.texts
