use Rattle.std.proofs.Common.{◌≡◌, ◌<◌, length, reverse}
use Rattle.std.specs.Prelude.{slice_get}
use Rattle.trac_text.specs.Neutral.{neutral_of}
use Rattle.trac_text.proofs.frames.NeutralText.frame.Given as goal

-- the function looked for is among those that are left, under its number
abbrev pub invariant-loop-innermost : goal.invariant-loop-innermost
invariant-loop-innermost l = record {
  within : l.i < length (neutral_of l.rest).frames;
  same : slice_get (reverse (neutral_of l.fn.self).frames) l.i ≡ slice_get (reverse (neutral_of l.rest).frames) l.i;
}

abbrev pub decreases-loop-innermost : goal.decreases-loop-innermost
decreases-loop-innermost l = length (neutral_of l.rest).frames
