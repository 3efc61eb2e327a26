-- The functions so far, and those of what is left of the text, are all; there is a place for each that is left, and no more bytes are.
use Rattle.std.proofs.Common.{◌≡◌, ◌≤◌, ◌++◌, ◌+◌, length}
use Rattle.std.specs.Vec.{vec_capacity}
use Rattle.trac_rules.specs.Limits.{argument_bytes}
use Rattle.trac_text.specs.Neutral.{neutral_of}
use Rattle.trac_text.specs.Pieces.{frames_in}
use Rattle.trac_text.proofs.emptying.kept_of.Given as goal

abbrev pub invariant-loop-innermost : goal.invariant-loop-innermost
invariant-loop-innermost g l = record {
  all : frames_in l.functions.items ++ (neutral_of l.rest).frames ≡ (neutral_of l.fn.text).frames;
  places : length l.functions.items + length (neutral_of l.rest).frames ≡ vec_capacity l.functions;
  fewer : argument_bytes (neutral_of l.rest).frames ≤ argument_bytes (neutral_of l.fn.text).frames;
}

abbrev pub decreases-loop-innermost : goal.decreases-loop-innermost
decreases-loop-innermost g l = length (neutral_of l.rest).frames
