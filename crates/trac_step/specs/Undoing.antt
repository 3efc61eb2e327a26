-- Going back over a step.
use Rattle.std.specs.Prelude.{◌≡◌, ℕ, ◌<◌, List, length, Option, Some, IsSomeAnd}
use Rattle.trac_rules.specs.Proper.{IsProper, IsProperStorage}
use Rattle.trac_rules.specs.declared.scan.Front.TheVariants.{Closing}
use Rattle.trac_rules.specs.Records.{restored}
use Rattle.trac_rules.specs.Records.{Called as CallOf}
use Rattle.trac_rules.specs.Scanning.{front_of, scan}
use Rattle.trac_rules.specs.State.{State, storage_of}
use Rattle.trac_rules.specs.Undone.{Nothing, Undone, storage_before}
use Rattle.trac_journal.specs.declared.called.Called.{Called}
use Rattle.trac_journal.specs.Told.{record_with}
use Rattle.trac_forms.specs.Stored.{KnowsAll}
use Rattle.trac_storage.specs.Changing.{AreAmong}
use Rattle.trac_step.specs.Calling.{arguments_in, with_storage}
use Rattle.trac_step.specs.Layout.{Shown}
use Rattle.trac_step.specs.Room.{HasRoom}

-- there is a state, it is a proper one, and a machine can hold it without more memory
abbrev pub CanShow : Shown → Option State → Type 0
CanShow m o = IsSomeAnd o (λ s. HasRoom m s × IsProper s)

-- a machine has gone back over a call of these arguments but for what it destroyed of forms and
-- blocks, and stands at that call
pub record IsBegunAgain (called : Called) (arguments : List (List ℕ)) (old new : Shown) : Type 0 where
  pub state : restored (CallOf (record_with called arguments Nothing)) old.state ≡ Some new.state
  pub others : new ≡ record old { state = new.state }
  pub front : front_of new.state.active ≡ Closing
  pub inside : 0 < length new.state.frames
  pub given : arguments_in (scan new.state) ≡ arguments

-- what the call at which a machine stands destroyed of forms and blocks can be put back
pub record CanRestore (undone : Undone) (m : Shown) : Type 0 where
  pub front : front_of m.state.active ≡ Closing
  pub inside : 0 < length m.state.frames
  pub there : IsSomeAnd (storage_before (arguments_in (scan m.state)) undone (storage_of m.state))
      (λ storage. KnowsAll m.known storage.forms × IsProperStorage storage)

-- it shows forms and blocks as they were before the call at which it stands, and all else as it was; names that were
-- recent are
pub record IsRestored (undone : Undone) (old new : Shown) : Type 0 where
  pub back : storage_before (arguments_in (scan old.state)) undone (storage_of old.state) ≡ Some (storage_of new.state)
  pub others : new ≡ record old {
    state = with_storage (storage_of new.state) old.state;
    recent = new.recent;
    spare = new.spare;
  }
  pub recent : AreAmong old.recent new.recent
