-- Begun functions as they are put into the neutral text, from the outermost on.
use Rattle.std.specs.Prelude.{ℕ, ◌+◌, ◌-◌, ◌≤◌, List, [], ◌∷◌, length, map, reverse, take, get_or, Vec}
use Rattle.std.specs.List.{All}
use Rattle.trac_gap.specs.Ends.{Ends}
use Rattle.trac_rules.specs.declared.kind.Kind.{Kind}
use Rattle.trac_rules.specs.Limits.{total_length}
use Rattle.trac_rules.specs.State.{Frame}
use Rattle.trac_text.specs.declared.mark.Mark.{Mark}
use Rattle.trac_text.specs.Neutral.{MarkedText}

-- ---- as the code is given them

-- texts of the code as lists of bytes
abbrev pub texts_of : {A : Type 0} → List (Vec ℕ A) → List (List ℕ)
texts_of texts = map (λ text. text.items) texts

-- begun functions of the code, each with its kind and its arguments
abbrev pub functions_of : {A : Type 0} → List (Kind × Vec (Vec ℕ A) A) → List (Kind × List (List ℕ))
functions_of frames = map (λ frame. (frame.0, texts_of frame.1.items)) frames

-- each begun function has an argument, which is being gathered
abbrev pub EachGathers : {A : Type 0} → List (Kind × Vec (Vec ℕ A) A) → Type 0
EachGathers frames = All (λ frame. 1 ≤ length frame.1.items) frames

-- ---- as frames

-- a begun function of this kind with these arguments, of which the last is being gathered
abbrev pub frame_of : Kind → List (List ℕ) → Frame
frame_of kind texts = record {
  kind = kind;
  arguments = take (length texts - 1) texts;
  gathered = get_or texts (length texts - 1) [];
}

-- begun functions from the outermost on, as the frames of a state, which stand from the innermost on
abbrev pub frames_of : List (Kind × List (List ℕ)) → List Frame
frames_of functions = reverse (map (λ function. frame_of function.0 function.1) functions)

-- how many bytes their arguments hold
abbrev pub function_bytes : List (Kind × List (List ℕ)) → ℕ
function_bytes [] = 0
function_bytes (function ∷ functions) = total_length function.1 + function_bytes functions

-- and how many there are, as many as there are marks
abbrev pub argument_count : List (Kind × List (List ℕ)) → ℕ
argument_count [] = 0
argument_count (function ∷ functions) = length function.1 + argument_count functions

-- ---- in the texts

-- the neutral text, on the left, with its marks
abbrev pub marked_in : Ends ℕ → Ends Mark → MarkedText
marked_in text marks = record { text = text.left; marks = marks.left }
