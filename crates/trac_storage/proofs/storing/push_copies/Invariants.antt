-- The blocks so far stand after the others, and there are places for the rest.
use Rattle.std.proofs.Common.{◌≡◌, ◌+◌, ◌≤◌, ◌++◌, length, map, take, true}
use Rattle.std.specs.List.{list_all}
use Rattle.trac_forms.specs.Stored.{storage_in}
use Rattle.trac_storage.specs.Loading.{block_few, block_of}
use Rattle.trac_storage.proofs.storing.push_copies.Given as goal

abbrev pub invariant-loop-forms : goal.invariant-loop-forms
invariant-loop-forms g l = record {
  pushed : storage_in l.store ≡ record (storage_in l.fn.store) { blocks = l.fn.store.blocks ++ map block_of (take l.forms-index l.blocks) };
  names : l.store.known ≡ l.fn.store.known;
  few : list_all block_few (map block_of (take l.forms-index l.blocks)) ≡ true;
  places : length l.blocks ≤ l.store.spare + l.forms-index;
}
