-- How far into the neutral text the bytes of the base text and of arguments stand.
use Rattle.std.specs.Prelude.{◌≡◌, ℕ, ◌+◌, ◌==◌, if◌then◌else◌, List, [], ◌∷◌, length, take, Bool, true}
use Rattle.trac_rules.specs.Limits.{argument_bytes, total_length}
use Rattle.trac_rules.specs.Scanning.{Scanned, Moves, Calls, scan}
use Rattle.trac_rules.specs.State.{Frame, State}
use Rattle.trac_origins.specs.Places.{Place, InBase, InArgument, arguments_of}
use Rattle.trac_follow_step.specs.Items.{IsMeasured}
use Rattle.trac_follow_step.specs.Places.{is_in_text}

-- how many bytes base text and arguments hold together
abbrev pub neutral_bytes : State → ℕ
neutral_bytes s = length s.base + argument_bytes s.frames

-- how many of them stand before a byte of an argument; the first two are the functions and the base text
abbrev pub argument_offset : List Frame → List ℕ → ℕ → ℕ → ℕ → ℕ
argument_offset [] base n k i = 0
argument_offset (f ∷ fs) base n k i =
    if n == length fs then length base + argument_bytes fs + (total_length (take k (arguments_of f)) + i)
    else argument_offset fs base n k i

-- and before a place in the base text or in an argument
abbrev pub offset : State → Place → ℕ
offset s (InBase i) = i
offset s (InArgument n k i) = argument_offset s.frames s.base n k i
offset s place = 0

-- what is known of a place at which something stands: of an item of a form what is measured of it, and of a byte of the
-- base text or of an argument how many bytes of the neutral text stand before it
pub record IsPlaced (bytes : ℕ) (gap : Bool) (t : State) (place : Place) : Type 0 where
  pub measured : IsMeasured bytes gap t place
  pub before : is_in_text place ≡ true → bytes ≡ offset t place

-- how many bytes of the neutral text the step from a state leaves where they are: all, but for the
-- function that it performs
abbrev pub left_by : Scanned → State → ℕ
left_by (Moves t) s = neutral_bytes s
left_by (Calls call) s = neutral_bytes call.state

abbrev pub bytes_left : State → ℕ
bytes_left s = left_by (scan s) s
