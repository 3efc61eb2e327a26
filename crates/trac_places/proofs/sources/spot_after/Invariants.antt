use Rattle.std.proofs.Common.{◌≤◌, ◌+◌, take}
use Rattle.trac_places.specs.Spots.{IsSpot}
use Rattle.trac_places.proofs.sources.spot_after.Given as goal

-- the place after the bytes that are passed
abbrev pub invariant-loop-byte : goal.invariant-loop-byte
invariant-loop-byte l = record {
  spot : IsSpot (take l.byte-index l.before) l.line l.column;
  line : l.line ≤ l.byte-index + 1;
  column : l.column ≤ l.byte-index + 1;
}
