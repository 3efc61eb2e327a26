-- The texts so far.
use Rattle.std.proofs.Common.{◌≡◌, map, take}
use Rattle.trac_text.specs.Framing.{texts_of}
use Rattle.trac_storage.proofs.leaving.copies_of.Given as goal

abbrev pub invariant-loop-text : goal.invariant-loop-text
invariant-loop-text g l = texts_of l.copies.items ≡ map (λ text. text.now) (take l.text-index l.texts)
