-- A call that is planned, and may be performed.
use Rattle.std.specs.Prelude.{◌≡◌, ◌+◌, ◌<◌, ◌≤◌, ◌^◌, length, Some, Ok}
use Rattle.trac_rules.specs.declared.scan.Front.TheVariants.{Closing}
use Rattle.trac_rules.specs.Limits.{text_bytes}
use Rattle.trac_rules.specs.Proper.{IsProper, IsProperStorage}
use Rattle.trac_rules.specs.Records.{Called, Record, record_of}
use Rattle.trac_rules.specs.Scanning.{front_of, scan}
use Rattle.trac_rules.specs.State.{Environment, State, storage_of}
use Rattle.trac_rules.specs.Stepping.{step}
use Rattle.trac_rules.specs.Undone.{Undone}
use Rattle.trac_change.specs.declared.change.UnnamedChange.{UnnamedChange}
use Rattle.trac_prims.specs.declared.effect.Made.{Made}
use Rattle.trac_change.specs.Changes.{PiecesAreOf, undone_of}
use Rattle.trac_change.specs.Changed.{changed}
use Rattle.trac_journal.specs.Told.{record_with}
use Rattle.trac_text.specs.declared.calls.Beginning.{Beginning}
use Rattle.trac_prims.specs.declared.effect.Deed.{Deed}
use Rattle.trac_journal.specs.declared.called.Called as code
use Rattle.trac_step.specs.Calling.{BeginsInnermost, arguments_in, called_with, state_after, state_ended}
use Rattle.trac_step.specs.Layout.{Shown}

-- what a change destroys if the call at which a state stands makes it
abbrev pub undone_after : {A : Type 0} → UnnamedChange A → State → Undone
undone_after change s = undone_of (arguments_in (scan s)) change (storage_of s)

-- the record of the call at which a state stands, if this is said of it
abbrev pub recorded_after : {A : Type 0} → code.Called → UnnamedChange A → State → Record
recorded_after called change s = Called (record_with called (arguments_in (scan s)) (undone_after change s))

-- a state stands at a call, whose function begins here and of which this is planned: it may be performed
pub record IsReady {A : Type 0} (s : State) (made : Made A) (beginning : Beginning) (deed : Deed)
    (change : UnnamedChange A) : Type 0 where
  pub front : front_of s.active ≡ Closing
  pub begins : BeginsInnermost s beginning
  pub position : s.position + deed.read < 2 ^ 64
  pub pieces : PiecesAreOf (arguments_in (scan s)) (storage_of s) change
  pub proper : IsProper (state_after deed made change (scan s))

-- and then the step leads where the rules say, and its record is that of the rules
pub record IsPlanned {A : Type 0} (environment : Environment) (s : State) (made : Made A) (beginning : Beginning)
    (deed : Deed) (change : UnnamedChange A) : Type 0 where
  pub ready : IsReady s made beginning deed change
  pub taken : step environment s ≡ Ok (state_after deed made change (scan s))
  pub recorded : record_of environment s ≡ Some (recorded_after (called_with s beginning.kind deed made) change s)

-- forms and blocks can be changed so, by the call at which a state stands, whose function begins here
pub record CanChange {A : Type 0} (s : State) (beginning : Beginning) (change : UnnamedChange A) : Type 0 where
  pub front : front_of s.active ≡ Closing
  pub begins : BeginsInnermost s beginning
  pub pieces : PiecesAreOf (arguments_in (scan s)) (storage_of s) change
  pub proper : IsProperStorage (changed (arguments_in (scan s)) change (storage_of s))

-- the call of which this is planned can be ended, its change of forms and blocks being made
pub record CanEnd {A : Type 0} (m : Shown) (made : Made A) (beginning : Beginning) (deed : Deed) : Type 0 where
  pub front : front_of m.state.active ≡ Closing
  pub begins : BeginsInnermost m.state beginning
  pub position : m.state.position + deed.read < 2 ^ 64
  pub text_room : text_bytes m.state + length made.value.items ≤ m.text_room
  pub output_room : length m.state.output + length made.print.items ≤ m.output_room
  pub proper : IsProper (state_ended deed made (scan m.state))
