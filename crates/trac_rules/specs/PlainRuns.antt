-- Runs of plain bytes: as many steps as bytes, each of which moves one byte to the current text.
use Rattle.std.specs.Prelude.{◌≡◌, ℕ, zero, suc, ◌<◌, ◌≤◌, ◌==◌, ◌&&◌, not, List, [], ◌∷◌, length, take, get_or, Bool}
use Rattle.std.specs.Prelude.{true}
use Rattle.trac_rules.specs.declared.byte.TheConstants.{OPENING, CLOSING, COMMA, SHARP}
use Rattle.trac_rules.specs.Scanning.{deleted, gather, is_layout}
use Rattle.trac_rules.specs.State.{State}

-- whether a byte goes to the current text, whatever stands after it
abbrev pub is_plain : ℕ → Bool
is_plain b = not (b == OPENING) && not (b == CLOSING) && not (b == COMMA) && not (b == SHARP) && not (is_layout b)

-- the active text of a state begins with so many plain bytes
pub record BeginsPlain (n : ℕ) (s : State) : Type 0 where
  pub within : n ≤ length s.active
  pub each : (k : ℕ) → k < n → is_plain (get_or s.active k 0) ≡ true

-- the state when the first n bytes of the active text have gone to the current text
abbrev pub moved_on : ℕ → State → State
moved_on n s = gather (take n s.active) (deleted n s)

-- the states on the way there, the newest first
abbrev pub on_the_way : ℕ → State → List State
on_the_way zero s = []
on_the_way (suc n) s = moved_on n s ∷ on_the_way n s
