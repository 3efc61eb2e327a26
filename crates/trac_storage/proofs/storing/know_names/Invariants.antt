-- The names so far are known, and no form has changed.
use Rattle.std.proofs.Common.{◌≡◌, All, IsTrue, take}
use Rattle.std.specs.FinSet as set
use Rattle.trac_forms.specs.Stored.{storage_in}
use Rattle.trac_text.specs.Framing.{texts_of}
use Rattle.trac_storage.specs.Changing.{AreAmong}
use Rattle.trac_storage.proofs.storing.know_names.Given as goal

abbrev pub invariant-loop-name : goal.invariant-loop-name
invariant-loop-name g l = record {
  known : All (λ name. IsTrue (set.contains l.store.known name)) (texts_of (take l.name-index l.names));
  kept : storage_in l.store ≡ storage_in l.fn.store;
  among : AreAmong l.fn.store.known l.store.known;
}
