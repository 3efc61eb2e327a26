-- What a record says of the state before its step.
use Rattle.std.specs.Prelude.{◌≡◌, IfErr, IfOk, List, [], ◌∷◌, OnOk, Ok, Option, None, Result, Some}
use Rattle.trac_rules.specs.declared.refusal.Refusal.{Refusal}
use Rattle.trac_rules.specs.declared.refusal.Refusal.TheVariants.{Memory}
use Rattle.trac_rules.specs.Outcomes.{MayRefuse}
use Rattle.trac_rules.specs.Records as rules
use Rattle.trac_rules.specs.State.{Environment, State}
use Rattle.trac_rules.specs.Stepping.{step}
use Rattle.trac_text.specs.Pieces.{all_texts, frames_in}
use Rattle.trac_change.specs.Undone.{undone_in}
use Rattle.trac_step.specs.declared.record.Record.{Record}
use Rattle.trac_step.specs.declared.record.Record.TheVariants.{Moved, Comma, Begun, Quoted, Deleted, Idle, Call}
use Rattle.trac_step.specs.Layout.{Shown}
use Rattle.trac_step.specs.Room.{IsNoLess, LacksRoomAhead}

-- a record of the machine, read as one of the rules
abbrev pub recorded_by : {A : Type 0} → Record A → rules.Record
recorded_by Moved = rules.Moved
recorded_by Comma = rules.Comma
recorded_by Begun = rules.Begun
recorded_by (Quoted inner closed) = rules.Quoted inner closed
recorded_by (Deleted b) = rules.Deleted b
recorded_by (Idle base frames) = rules.Idle base.items (frames_in frames.items)
recorded_by (Call kind arguments value scanned printed read meta trace change) =
    rules.Called (record {
      kind = kind;
      arguments = all_texts arguments;
      value = value;
      scanned = scanned;
      printed = printed;
      read = read;
      meta = meta;
      trace = trace;
      undone = undone_in change;
    })

-- the records that are kept where there is a place for one
abbrev pub kept_in : {A : Type 0} → Option (Record A) → List rules.Record
kept_in None = []
kept_in (Some r) = recorded_by r ∷ []

-- the state before, from the record of a step and the state after it
abbrev pub before : {A : Type 0} → Record A → State → Option State
before r t = rules.state_before (recorded_by r) t

-- a machine takes its next step and its record is given, or the step is refused, and nothing but rooms changes. A step
-- of scanning is refused memory only if the machine lacks room
pub record IsTaken {A : Type 0} (environment : Environment) (result : Result (Record A) Refusal) (before after : Shown)
    : Type 0 where
  pub taken : OnOk result (step environment before.state ≡ Ok after.state)
  pub recorded : IfOk result (λ r. rules.record_of environment before.state ≡ Some (recorded_by r))
  pub refused : IfErr result (λ e. (after.state ≡ before.state) × MayRefuse (step environment before.state) e)
  pub lacking : IfErr result (λ e. e ≡ Memory → LacksRoomAhead before)
  pub room : IsNoLess before after
