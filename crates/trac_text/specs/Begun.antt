-- What the walk over begun functions gives.
use Rattle.std.specs.Prelude.{◌≡◌, ℕ, ◌<◌, ◌≤◌, true, List, [], length, take, drop, get_or, reverse, Option}
use Rattle.std.specs.Prelude.{is_some, slice_get, MatchOption}
use Rattle.trac_rules.specs.declared.kind.Kind.{Kind}
use Rattle.trac_rules.specs.State.{Frame}
use Rattle.trac_text.specs.declared.mark.Mark.{Mark}
use Rattle.trac_text.specs.Cuts.{function_count, no_mark}
use Rattle.trac_text.specs.Frames.{IsFrame}
use Rattle.trac_text.specs.Neutral.{MarkedText, neutral_of}

-- a place among the marks at which a function begins, or their end
pub record IsNextFunction (marks : List Mark) (number : ℕ) : Type 0 where
  pub within : number ≤ length marks
  pub begins : number < length marks → is_some (get_or marks number no_mark).frame ≡ true

-- the begun functions from that place on, the outermost of them first
abbrev pub frames_from : ℕ → MarkedText → List Frame
frames_from number m = drop (function_count (take number m.marks)) (reverse (neutral_of m).frames)

-- the first frame is given, its kind and all its arguments; none if none is left now or later
abbrev pub GivesFrame : List Frame → Option (Kind × List (List ℕ)) → List Frame → Type 0
GivesFrame old given new =
    MatchOption given ((old ≡ []) × (new ≡ [])) (λ f. IsFrame (slice_get old 0) f.0 f.1 × (new ≡ drop 1 old))
