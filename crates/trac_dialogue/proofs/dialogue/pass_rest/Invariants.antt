use Rattle.std.proofs.Common.{◌≡◌, true}
use Rattle.std.specs.Io.KnownBytes.{IsAtEnd}
use Rattle.trac_dialogue.proofs.Passed.{Passing}
use Rattle.trac_dialogue.proofs.dialogue.pass_rest.Given as goal

-- the parts that were read so far
abbrev pub invariant-loop-part : goal.invariant-loop-part
invariant-loop-part g l = record {
  passing : Passing (g.R.Read.remaining l.fn.input) (g.R.Read.remaining l.input) l.part;
  at_end : l.lines.ended ≡ true → IsAtEnd (g.R.Read.remaining l.input);
}
