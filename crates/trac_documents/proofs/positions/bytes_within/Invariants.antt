use Rattle.std.proofs.Common.{◌≡◌, ◌+◌, drop}
use Rattle.trac_documents.specs.Positions.{bytes_within}
use Rattle.trac_documents.proofs.positions.bytes_within.Given as goal

-- so many units are left
abbrev pub invariant-loop-place : goal.invariant-loop-place
invariant-loop-place l = bytes_within l.encoding l.most l.text ≡ l.place + bytes_within l.encoding l.left (drop l.place l.text)
