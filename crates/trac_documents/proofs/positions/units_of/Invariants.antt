use Rattle.std.proofs.Common.{◌≡◌, ◌*◌, ◌≤◌, take}
use Rattle.trac_documents.specs.Positions.{units_of}
use Rattle.trac_documents.proofs.positions.units_of.Given as goal

-- the units so far, four for each byte at most
abbrev pub invariant-loop-byte : goal.invariant-loop-byte
invariant-loop-byte l = record {
  units : l.sum ≡ units_of l.encoding (take l.byte-index l.bytes);
  few : l.sum ≤ 4 * l.byte-index;
}
