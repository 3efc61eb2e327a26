use Rattle.std.proofs.Common.{◌≡◌, ◌+◌, drop}
use Rattle.trac_documents.specs.Positions.{before_line}
use Rattle.trac_documents.proofs.positions.before_line.Given as goal

-- so many line ends are left to be passed
abbrev pub invariant-loop-place : goal.invariant-loop-place
invariant-loop-place l = before_line l.fn.line l.text ≡ l.place + before_line l.left (drop l.place l.text)
