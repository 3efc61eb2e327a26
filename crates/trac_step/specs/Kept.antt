-- Steps whose records are kept, and the way back over them.
use Rattle.std.specs.Prelude.{◌≡◌, ◌<◌, ◌≤◌, ℕ, List, [], ◌∷◌, length, Option, None, Some, IsSomeAnd}
use Rattle.std.specs.Prelude.{Result, Ok, IfErr, IsOkUnless, OnErr, OnOk}
use Rattle.std.specs.List.{concat}
use Rattle.trac_journal.specs.declared.called.Called.{Called}
use Rattle.trac_journal.specs.Journaled.{IsLight}
use Rattle.trac_journal.specs.Listed.{AreSmall}
use Rattle.trac_journal.specs.Told.{record_with}
use Rattle.trac_rules.specs.declared.refusal.Refusal.{Refusal}
use Rattle.trac_rules.specs.declared.refusal.Refusal.TheVariants.{Memory}
use Rattle.trac_rules.specs.Outcomes.{MayRefuse}
use Rattle.trac_rules.specs.Proper.{IsProper}
use Rattle.trac_rules.specs.Records.{Record, record_of, recorded, state_before}
use Rattle.trac_rules.specs.Records.{Called as CallOf}
use Rattle.trac_rules.specs.Scanning.{Moves, scan}
use Rattle.trac_rules.specs.State.{Environment, State}
use Rattle.trac_rules.specs.Stepping.{step}
use Rattle.trac_rules.specs.Undone.{Undone}
use Rattle.trac_rules.specs.Weights.{loss, weight}
use Rattle.trac_step.specs.Layout.{Shown}
use Rattle.trac_step.specs.Room.{HasRoom, IsNoLess, LacksRoomAhead}

-- the record of a call with this beside its arguments, these, and what it destroyed of forms and
-- blocks, fits the entries of a journal
pub record FitsJournal (called : Called) (arguments : List (List ℕ)) (undone : Undone) : Type 0 where
  pub small : AreSmall called (length (concat arguments)) (length arguments)
  pub light : IsLight (CallOf (record_with called arguments undone))

-- a machine comes to this state, and this record is added; or memory is refused, and nothing but rooms changes
pub record IsKeptAs {R : Type 0} (kept : Record) (state : State) (result : Result R Refusal) (before after : Shown)
    (old new : List Record) : Type 0 where
  pub done : OnOk result (after.state ≡ state)
  pub added : OnOk result (new ≡ kept ∷ old)
  pub unchanged : OnErr result ((after.state ≡ before.state) × (new ≡ old))
  pub err : IsOkUnless result Memory
  pub room : IsNoLess before after

-- a machine may take a step whose record is added to these, of which there may be so many
pub record CanStep (environment : Environment) (m : Shown) (records : List Record) (most : ℕ) : Type 0 where
  pub proper : IsProper m.state
  pub position : m.state.position ≤ length environment.tape.bytes
  pub not_full : length records < most

-- the records have this one more, the newest
abbrev pub IsAdded : Option Record → List Record → List Record → Type 0
IsAdded None old new = ⊥
IsAdded (Some newest) old new = new ≡ newest ∷ old

-- the records have one more, the newest: that of the step from one state to another, which leads back, and
-- weighs no more than the step lost
pub record IsKept (environment : Environment) (before after : State) (old new : List Record) : Type 0 where
  pub newest : Record
  pub of_step : record_of environment before ≡ Some newest
  pub leads_back : state_before newest after ≡ Some before
  pub weighs : weight newest ≤ loss before
  pub added : new ≡ newest ∷ old

-- the rule for the front of a machine's active text is carried out, which asks for no call, and its record is added; or
-- memory is refused, and nothing but rooms changes. There were so many places for records
pub record IsCarriedOut {R : Type 0} (result : Result R Refusal) (before after : Shown) (old new : List Record)
    (places : ℕ) : Type 0 where
  pub ok : OnOk result (scan before.state ≡ Moves after.state)
  pub kept : OnOk result (new ≡ recorded before.state ∷ old)
  pub unchanged : OnErr result ((after ≡ before) × (new ≡ old))
  pub lacking : OnErr result (1 ≤ places → LacksRoomAhead before)
  pub err : IsOkUnless result Memory
  pub room : IsNoLess before after

-- a machine takes its next step and its record is added, or the step is refused, and nothing but rooms changes. A step
-- of scanning is refused memory only if the machine lacks room, or there was no place for its record
pub record IsStepped {R : Type 0} (environment : Environment) (result : Result R Refusal) (before after : Shown)
    (old new : List Record) (places : ℕ) : Type 0 where
  pub taken : OnOk result (step environment before.state ≡ Ok after.state)
  pub kept : OnOk result (IsAdded (record_of environment before.state) old new)
  pub refused : IfErr result (MayRefuse (step environment before.state))
  pub unchanged : OnErr result ((after.state ≡ before.state) × (new ≡ old))
  pub lacking : IfErr result (λ e. e ≡ Memory → 1 ≤ places → LacksRoomAhead before)
  pub room : IsNoLess before after

-- the newest of the records, if there is one, leads back to a state for which a machine has room
abbrev pub CanGoBack : Shown → List Record → Type 0
CanGoBack m [] = Unit {0}
CanGoBack m (newest ∷ older) = IsSomeAnd (state_before newest m.state) (λ s. HasRoom m s)

-- the newest of the records led back from one state to another, and is taken out
pub record HasGoneBack (after before : State) (old new : List Record) : Type 0 where
  pub newest : Record
  pub leads_back : state_before newest after ≡ Some before
  pub taken : old ≡ newest ∷ new
