-- One case for each rule of scanning: what the active text begins with decides. What a `,` and a `)` do outside any
-- function is this project's profile.
use Rattle.std.specs.Prelude.{ℕ, ◌==◌, ◌||◌, List, [], ◌∷◌, ◌++◌, take, drop, if◌then◌else◌, Bool, nat_eq, codes}
use Rattle.std.specs.List.{starts_with}
use Rattle.trac_rules.specs.declared.byte.TheConstants.{OPENING, CLOSING, COMMA, SHARP, CARRIAGE_RETURN, LINE_FEED, TAB}
use Rattle.trac_rules.specs.declared.kind.Kind.{Kind}
use Rattle.trac_rules.specs.declared.kind.Kind.TheVariants.{Active, Neutral}
use Rattle.trac_rules.specs.declared.scan.Front.{Front}
use Rattle.trac_rules.specs.declared.scan.Front.TheVariants.{Nothing, Opening, Layout, Comma, ActiveCall, NeutralCall}
use Rattle.trac_rules.specs.declared.scan.Front.TheVariants.{Sharp, Closing, Plain}
use Rattle.trac_rules.specs.Bytes.{idle_program}
use Rattle.trac_rules.specs.State.{Frame, State}
use Rattle.trac_rules.specs.Matching.{Protected, protected}

-- ---- fronts

abbrev pub is_layout : ℕ → Bool
is_layout b = (b == CARRIAGE_RETURN) || (b == LINE_FEED) || (b == TAB)

-- a `#` before this text
abbrev pub sharp_before : List ℕ → Front
sharp_before rest =
    if starts_with nat_eq rest (codes "(") then ActiveCall else
    if starts_with nat_eq rest (codes "#(") then NeutralCall else
    Sharp

-- what the active text begins with
abbrev pub front_of : List ℕ → Front
front_of [] = Nothing
front_of (b ∷ rest) =
    if b == OPENING then Opening else
    if b == CLOSING then Closing else
    if b == COMMA then Comma else
    if b == SHARP then sharp_before rest else
    if is_layout b then Layout else
    Plain

-- ---- changes of the current text: the argument being gathered of the innermost frame, or the base text

-- the state with a text at the end of the current text; the first argument is the state's frames
abbrev pub gathered_in : List Frame → List ℕ → State → State
gathered_in [] text s = record s { base = s.base ++ text }
gathered_in (f ∷ fs) text s = record s { frames = record f { gathered = f.gathered ++ text } ∷ fs }

-- the state with a text at the end of the current text
abbrev pub gather : List ℕ → State → State
gather text s = gathered_in s.frames text s

-- the state without the first n bytes of the active text
abbrev pub deleted : ℕ → State → State
deleted n s = record s { active = drop n s.active }

-- the state with a begun function of this kind, which has an empty argument
abbrev pub begun : Kind → State → State
begun kind s = record s { frames = record { kind = kind; arguments = []; gathered = [] } ∷ s.frames }

-- a frame whose gathered argument is finished, and an empty one begun
abbrev pub with_next_argument : Frame → Frame
with_next_argument f = record f { arguments = f.arguments ++ f.gathered ∷ []; gathered = [] }

-- ---- the rules

-- a function to be performed: its kind, all its arguments, and the state without it
pub record Call : Type 0 where
  pub kind : Kind
  pub arguments : List (List ℕ)
  pub state : State

-- a rule moves on to a state, or calls for a function to be performed
pub data Scanned : Type 0 where
  Moves : State → Scanned
  Calls : Call → Scanned

-- after a deleted `,`, the first argument being the state's frames: an argument is ended, or, outside any function,
-- nothing more happens
abbrev pub comma_in : List Frame → State → State
comma_in [] s = s
comma_in (f ∷ fs) s = record s { frames = with_next_argument f ∷ fs }

-- after a deleted `)`, the first argument being the state's frames: the innermost function is ended, or, outside any
-- function, nothing more happens
abbrev pub closing_in : List Frame → State → Scanned
closing_in [] s = Moves s
closing_in (f ∷ fs) s =
    Calls (record { kind = f.kind; arguments = f.arguments ++ f.gathered ∷ []; state = record s { frames = fs } })

-- a `(` with what it protects: both it and its match are deleted, and what is between goes to the
-- current text unchanged
abbrev pub protect : Protected → State → State
protect p s = gather p.inner (record s { active = p.rest })

-- the first byte of the active text goes to the current text
abbrev pub gather_first : State → State
gather_first s = gather (take 1 s.active) (deleted 1 s)

abbrev pub scan_at : Front → State → Scanned
-- the base text and the frames are emptied, and the idle program is loaded
scan_at Nothing s = Moves (record s { active = idle_program; base = []; frames = [] })
scan_at Opening s = Moves (protect (protected (drop 1 s.active)) s)
scan_at Layout s = Moves (deleted 1 s)
scan_at Comma s = Moves (comma_in s.frames (deleted 1 s))
scan_at ActiveCall s = Moves (begun Active (deleted 2 s))
scan_at NeutralCall s = Moves (begun Neutral (deleted 3 s))
scan_at Sharp s = Moves (gather_first s)
scan_at Closing s = closing_in s.frames (deleted 1 s)
scan_at Plain s = Moves (gather_first s)

-- what the rules say of a state
unfoldable pub scan : State → Scanned
scan s = scan_at (front_of s.active) s
