-- The parts of a step: where scanning moves on, and what a call whose effect is known leads to.
use Rattle.std.specs.Prelude.{ℕ, ◌+◌, ◌≤◌, List, [], length, Option, Some, None, option_map}
use Rattle.trac_rules.specs.declared.kind.Kind.{Kind}
use Rattle.trac_rules.specs.State.{State, Storage, storage_of}
use Rattle.trac_rules.specs.Effect.{Effect}
use Rattle.trac_rules.specs.Limits.{text_bytes}
use Rattle.trac_rules.specs.Performing.{after_call}
use Rattle.trac_rules.specs.Records.{is_scanned}
use Rattle.trac_rules.specs.Scanning.{Scanned, Moves, Calls, begun, comma_in}
use Rattle.trac_change.specs.declared.change.UnnamedChange.{UnnamedChange}
use Rattle.trac_prims.specs.declared.effect.Made.{Made}
use Rattle.trac_change.specs.Changed.{changed}
use Rattle.trac_text.specs.Holding.{BeginsFirst}
use Rattle.trac_text.specs.declared.calls.Beginning.{Beginning}
use Rattle.trac_prims.specs.declared.effect.Deed.{Deed}
use Rattle.trac_journal.specs.declared.called.Called.{Called}
use Rattle.trac_step.specs.Layout.{Shown}

-- ---- scanning moves on

-- a fact of the state that scanning moves on to, if it asks for no call
abbrev pub IfMoves : Scanned → (State → Type 0) → Type 0
IfMoves (Moves t) P = P t
IfMoves (Calls call) P = Unit {0}

-- scanning moves on, and asks for no call
abbrev pub IsMove : Scanned → Type 0
IsMove (Moves t) = Unit {0}
IsMove (Calls call) = ⊥

-- the state with a function of this kind begun, or, if none is named, with a further argument of the innermost one
abbrev pub with_mark : Option Kind → State → State
with_mark (Some kind) s = begun kind s
with_mark None s = comma_in s.frames s

-- ---- scanning asks for a call

-- the arguments of the call that scanning asks for
abbrev pub arguments_in : Scanned → List (List ℕ)
arguments_in (Moves t) = []
arguments_in (Calls call) = call.arguments

-- the state with other forms and blocks
abbrev pub with_storage : Storage → State → State
with_storage storage s = record s { forms = storage.forms; blocks = storage.blocks }

-- the state with forms and blocks as this change makes them, for the call that scanning asks for
abbrev pub with_change : {A : Type 0} → Scanned → UnnamedChange A → State → State
with_change scanned change s = with_storage (changed (arguments_in scanned) change (storage_of s)) s

-- what a planned call does if these texts are made for it, and forms and blocks are these after it
abbrev pub effect_with : {A : Type 0} → Deed → Made A → Storage → Effect
effect_with deed made storage = record {
  value = made.value.items;
  forced = deed.forced;
  printed = made.print.items;
  read = deed.read;
  meta = deed.meta;
  trace = deed.trace;
  storage = storage;
}

-- the state after the call that scanning asks for, if this is planned
abbrev pub state_after : {A : Type 0} → Deed → Made A → UnnamedChange A → Scanned → State
state_after deed made change (Moves t) = t
state_after deed made change (Calls call) =
    after_call call (effect_with deed made (changed call.arguments change (storage_of call.state)))

-- the same if forms and blocks are changed already
abbrev pub state_ended : {A : Type 0} → Deed → Made A → Scanned → State
state_ended deed made (Moves t) = t
state_ended deed made (Calls call) = after_call call (effect_with deed made (storage_of call.state))

-- what the record of a call of this kind, from a state, says beside its arguments, and what was destroyed of forms and
-- blocks, if this is planned
abbrev pub called_with : {A : Type 0} → State → Kind → Deed → Made A → Called
called_with s kind deed made = record {
  value = length made.value.items;
  printed = length made.print.items;
  read = deed.read;
  kind = kind;
  scanned = is_scanned kind deed.forced;
  meta = option_map (λ _. s.meta) deed.meta;
  trace = s.trace;
}

-- the innermost function of a state begins here
abbrev pub BeginsInnermost : State → Beginning → Type 0
BeginsInnermost s b = BeginsFirst s.frames s.base b

-- a machine needs no more memory for the texts that a call makes
pub record HasRoomFor {A : Type 0} (made : Made A) (m : Shown) : Type 0 where
  pub text : text_bytes m.state + length made.value.items ≤ m.text_room
  pub output : length m.state.output + length made.print.items ≤ m.output_room
