use Rattle.std.proofs.Common.{◌≡◌, true}
use Rattle.std.specs.Io.KnownBytes.{IsAtEnd}
use Rattle.trac_dialogue.specs.Talks.{Gives, Takes}
use Rattle.trac_dialogue.proofs.dialogue.converse.Given as goal

-- what was read and written so far
abbrev pub invariant-loop-turn : goal.invariant-loop-turn
invariant-loop-turn g l = record {
  took : Takes (g.R.Read.remaining l.fn.input) (g.R.Read.remaining l.input);
  gave : Gives (g.W.Write.contents l.fn.output) (g.W.Write.contents l.output);
  at_end : l.lines.ended ≡ true → IsAtEnd (g.R.Read.remaining l.input);
}
