use Rattle.std.proofs.Common.{◌≡◌, ◌++◌, take}
use Rattle.trac_streams.specs.Escapes.{escaped}
use Rattle.trac_streams.proofs.escaping.escaped_into.Given as goal

-- what is shown so far
abbrev pub invariant-loop-byte : goal.invariant-loop-byte
invariant-loop-byte g l = l.out.items ≡ l.fn.out.items ++ escaped (take l.byte-index l.text)
