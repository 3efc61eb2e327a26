-- The blocks so far are within the limits.
use Rattle.std.proofs.Common.{◌≡◌, take, true, All}
use Rattle.std.specs.List.{list_all}
use Rattle.trac_storage.specs.Loading.{IsProperList, block_entries_fit}
use Rattle.trac_storage.proofs.parts.blocks_within.Given as goal

abbrev pub invariant-loop-block : goal.invariant-loop-block
invariant-loop-block g l = record {
  fits : list_all block_entries_fit (take l.block-index l.blocks) ≡ true;
  proper : All IsProperList (take l.block-index l.blocks);
}
