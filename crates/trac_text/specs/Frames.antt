-- What the readers of begun functions answer.
use Rattle.std.specs.Prelude.{◌≡◌, ℕ, ◌+◌, ◌<◌, ◌≤◌, List, [], ◌∷◌, ◌++◌, length, Option, None, Some}
use Rattle.trac_rules.specs.declared.kind.Kind.{Kind}
use Rattle.trac_rules.specs.State.{Frame}
use Rattle.trac_text.specs.Neutral.{MarkedText, IsOrdered, cut_back, neutral_of}

-- all arguments of a begun function, the one being gathered last
abbrev pub all_arguments : Frame → List (List ℕ)
all_arguments f = f.arguments ++ f.gathered ∷ []

-- the frame is there, of this kind, and these are all its arguments
abbrev pub IsFrame : Option Frame → Kind → List (List ℕ) → Type 0
IsFrame None kind arguments = ⊥
IsFrame (Some f) kind arguments = (f.kind ≡ kind) × (all_arguments f ≡ arguments)

-- the innermost function of a text: it begins at the mark of this number and at this place, where
-- the text before it ends
pub record IsInnermost (m : MarkedText) (number place : ℕ) (kind : Kind) (arguments : List (List ℕ)) : Type 0 where
  pub within : number < length m.marks
  pub place_within : place ≤ length m.text
  pub ordered : IsOrdered (cut_back number place m)
  pub count : length arguments + number ≡ length m.marks
  pub frame : Frame
  pub kind_is : frame.kind ≡ kind
  pub arguments_are : all_arguments frame ≡ arguments
  pub base_is : (neutral_of m).base ≡ (neutral_of (cut_back number place m)).base
  pub frames_are : (neutral_of m).frames ≡ frame ∷ (neutral_of (cut_back number place m)).frames
