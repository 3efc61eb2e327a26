-- The names so far are within the limit.
use Rattle.std.proofs.Common.{◌≡◌, take, true}
use Rattle.trac_change.specs.Changed.{named_forms}
use Rattle.trac_storage.specs.Loading.{AreProperEntries, entries_fit}
use Rattle.trac_storage.proofs.parts.entries_within.Given as goal

abbrev pub invariant-loop-name : goal.invariant-loop-name
invariant-loop-name g l = record {
  fits : entries_fit (named_forms (take l.name-index l.forms)) ≡ true;
  proper : AreProperEntries (named_forms (take l.name-index l.forms));
}
