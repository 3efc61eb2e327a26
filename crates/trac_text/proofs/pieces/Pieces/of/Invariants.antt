-- The lengths so far, and a place for each.
use Rattle.std.proofs.Common.{◌≡◌, length, map, take}
use Rattle.std.specs.Vec.{vec_capacity}
use Rattle.trac_text.proofs.pieces.Pieces.of.Given as goal

abbrev pub invariant-loop-i : goal.invariant-loop-i
invariant-loop-i g l = record {
  so_far : l.commas.items ≡ map length (take l.i (l.arguments));
  places : vec_capacity l.commas ≡ l.count;
}
