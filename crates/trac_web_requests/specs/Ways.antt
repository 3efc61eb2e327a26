-- The way of a byte, as a host is told.
use Rattle.std.specs.Prelude.{◌≡◌, ◌⊎◌, ℕ, ◌==◌, ◌+◌, ◌-◌, if◌then◌else◌, List, [], ◌++◌, length, Option, None, Some}
use Rattle.std.specs.Prelude.{codes, decimal}
use Rattle.trac_rules.specs.declared.width.Width.{Width}
use Rattle.trac_rules.specs.Session.{PlainSession}
use Rattle.trac_streams.specs.declared.ending.Ending.{Ending}
use Rattle.trac_streams.specs.declared.ending.Ending.TheVariants.{Ended, Limit, Memory}
use Rattle.trac_streams.specs.Escapes.{feed}
use Rattle.trac_origins.specs.Places.{Place, InActive, InBase, InArgument, InForm, InHeld, InOutput}
use Rattle.trac_follow.specs.declared.tracing.End as ends
use Rattle.trac_follow.specs.declared.tracing.End.{End}
use Rattle.trac_follow.specs.declared.tracing.End.TheVariants.{Nothing, Earlier, Read, Made, Untold}
use Rattle.trac_follow.specs.declared.tracing.Traced.{Traced}
use Rattle.trac_follow.specs.Tracing.{IsTraced, way_of}
use Rattle.trac_debug.specs.Debugging.{ready}
use Rattle.trac_run.specs.Runs.{TakesSteps}
use Rattle.trac_moves.specs.Windows.{IsWindow}
use Rattle.trac_web_requests.specs.declared.outcome.Outcome.{Outcome}
use Rattle.trac_web_requests.specs.declared.outcome.Outcome.TheVariants.{Ends, WrongPlace, NotReached}
use Rattle.trac_web_requests.specs.declared.ways.Spot as code
use Rattle.trac_web_requests.specs.Outcomes.{status_told}
use Rattle.trac_web_requests.specs.Replies.{Gives}
use Rattle.trac_web_requests.specs.Rows.{field, rows_of, word_field}

-- ---- the place

-- numbers and a name that say a place
pub record SpotSeen : Type 0 where
  pub kind : ℕ
  pub first : ℕ
  pub second : ℕ
  pub third : ℕ
  pub name : List ℕ

abbrev pub spot_seen : code.Spot → SpotSeen
spot_seen s = record { kind = s.kind; first = s.first; second = s.second; third = s.third; name = s.name.now }

-- the place, if there is such a kind, when so many bytes of the output are released. Those of the output are counted
-- from the start of the program
abbrev pub place_in : ℕ → SpotSeen → Option Place
place_in released s =
    if s.kind == 0 then Some (InOutput (s.first - released)) else
    (if s.kind == 1 then Some (InActive s.first) else
    (if s.kind == 2 then Some (InBase s.first) else
    (if s.kind == 3 then Some (InArgument s.first s.second s.third) else
    (if s.kind == 4 then Some (InForm s.name s.first) else
    (if s.kind == 5 then Some (InHeld s.first s.name s.second) else None)))))

-- ---- the rows

-- a byte was read: its number, line and column
abbrev pub read_field : ℕ → ℕ → ℕ → List ℕ
read_field number line column = word_field (codes " read") number ++ (field line ++ field column)

-- how a way ends, in the words of its last row
abbrev pub end_field : End → ℕ → ℕ → ℕ → List ℕ
end_field Nothing number line column = codes " nothing"
end_field Earlier number line column = codes " earlier"
end_field Made number line column = codes " made"
end_field (Read n) number line column = read_field number line column
end_field Untold number line column = []
end_field ends.TheVariants.Memory number line column = []

-- there was memory for each row before, and for what the trace asked for
abbrev pub IsSaid : End → Type 0
IsSaid Untold = ⊥
IsSaid ends.TheVariants.Memory = ⊥
IsSaid end = Unit {0}

-- the rows of what stands at a place of a session, of which so many bytes of the output are released: one
-- for each call on its way, and one for where that ends. Which number, line and column of the input a byte
-- has that was read is not stated
pub record IsWay (p : PlainSession) (step released : ℕ) (place : Place) (text : List ℕ) : Type 0 where
  pub new : PlainSession
  pub found : Traced
  pub traced : IsTraced p place (length p.earlier) new found
  pub told : IsSaid found.end
  pub number : ℕ
  pub line : ℕ
  pub column : ℕ
  pub rows : text ≡ rows_of step released (way_of p place found.steps)
      ++ (decimal (step - found.steps) ++ (end_field found.end number line column ++ feed))

-- so many steps more led to another session of a window. It has counted what it has forgotten of all steps, and of what
-- they print
abbrev pub WindowGoes : ℕ → ℕ → ℕ → PlainSession → ℕ → ℕ → PlainSession → Type 0
WindowGoes more forgot freed old forgotten released new =
    (input text : List ℕ) (steps : ℕ) → IsWindow input steps text forgot freed old →
    (after : List ℕ) × IsWindow input (steps + more) after forgotten released new

-- the same, so many steps after the start of a program with all of its input, of which so many bytes of the output are
-- released: this output, which with what is pending is what these steps print
pub record WritesWay
    (tape : List ℕ) (limit : ℕ) (width : Width) (step : ℕ) (spot : SpotSeen) (text : List ℕ) : Type 0 where
  pub p : PlainSession
  pub reached : TakesSteps step (ready tape limit width) p
  pub output : List ℕ
  pub forgotten : ℕ
  pub released : ℕ
  pub window : IsWindow tape step output forgotten released p
  pub place : Place
  pub there : place_in released spot ≡ Some place
  pub way : IsWay p step released place text

-- ---- the answer

-- why there are no rows
abbrev pub IsReason : Outcome → Type 0
IsReason (Ends Limit) = Unit {0}
IsReason (Ends Memory) = Unit {0}
IsReason WrongPlace = Unit {0}
IsReason NotReached = Unit {0}
IsReason outcome = ⊥

-- the rows are in the buffer; or nothing is, for such a reason
pub record NoWay (old new : List ℕ) (written : ℕ) (outcome : Outcome) : Type 0 where
  pub why : IsReason outcome
  pub none : written ≡ 0
  pub same : new ≡ old

abbrev pub GivesWay : List ℕ → ℕ → Width → ℕ → SpotSeen → List ℕ → List ℕ → ℕ → Outcome → Type 0
GivesWay tape limit width step spot old new written outcome =
    Gives (λ text ending. (ending ≡ Ended) × WritesWay tape limit width step spot text) old new written outcome
    ⊎ NoWay old new written outcome

-- the host is told which
pub record AnswersWay (tape : List ℕ) (limit : ℕ) (width : Width) (step : ℕ) (spot : SpotSeen) (old new : List ℕ)
    (written status : ℕ) : Type 0 where
  pub outcome : Outcome
  pub gives : GivesWay tape limit width step spot old new written outcome
  pub told : status ≡ status_told outcome
