use Rattle.std.proofs.Common.{◌≡◌, ◌+◌, ◌-◌, ◌≤◌, drop}
use Rattle.trac_documents.specs.Positions.{lines_before}
use Rattle.trac_documents.proofs.positions.lines_before.Given as goal

-- so many lines end so far, one for each byte at most
abbrev pub invariant-loop-place : goal.invariant-loop-place
invariant-loop-place l = record {
  lines : lines_before l.offset l.text ≡ l.lines + lines_before (l.offset - l.place) (drop l.place l.text);
  few : l.lines ≤ l.place;
}
