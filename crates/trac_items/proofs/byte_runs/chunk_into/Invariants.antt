use Rattle.std.proofs.Common.{◌≡◌, length, take}
use Rattle.trac_rules.specs.Pieces.{bytes_in}
use Rattle.trac_items.proofs.byte_runs.chunk_into.Given as goal

abbrev pub invariant-loop-i : goal.invariant-loop-i
invariant-loop-i g l = record {
  so_far : take l.i l.bytes ≡ bytes_in (take l.i l.chunk);
  all : length l.bytes ≡ g.row.N;
}
