-- The room of a machine.
use Rattle.std.specs.Prelude.{◌≡◌, ◌≢◌, ◌≤◌, length}
use Rattle.trac_forms.specs.Stored.{KnowsAll}
use Rattle.trac_rules.specs.declared.scan.Front.TheVariants as front
use Rattle.trac_rules.specs.Limits.{marks, text_bytes}
use Rattle.trac_rules.specs.Scanning.{front_of, scan}
use Rattle.trac_rules.specs.State.{State}
use Rattle.trac_storage.specs.Changing.{AreAmong}
use Rattle.trac_step.specs.Calling.{IfMoves}
use Rattle.trac_step.specs.Layout.{Shown}

-- a machine can hold this state without more memory
pub record HasRoom (m : Shown) (s : State) : Type 0 where
  pub text : text_bytes s ≤ m.text_room
  pub marks : marks s.frames ≤ m.mark_room
  pub output : length s.output ≤ m.output_room
  pub names : KnowsAll m.known s.forms

-- a machine has no less room than it had, and has forgotten no name; those that were recent are; its numbers are as
-- wide as they were
pub record IsNoLess (old new : Shown) : Type 0 where
  pub width : new.width ≡ old.width
  pub text : old.text_room ≤ new.text_room
  pub marks : old.mark_room ≤ new.mark_room
  pub output : old.output_room ≤ new.output_room
  pub names : AreAmong old.known new.known
  pub recent : AreAmong old.recent new.recent

-- the next step lacks room: if it is one of scanning, and not the one that empties all texts, the machine has no room
-- for the state to which it leads. Of any other step this says nothing
abbrev pub LacksRoomAhead : Shown → Type 0
LacksRoomAhead m = front_of m.state.active ≢ front.Nothing → IfMoves (scan m.state) (λ t. HasRoom m t → ⊥)
