-- What is planned, as the definitions see it.
use Rattle.std.specs.Prelude.{◌≡◌, ◌+◌, ◌++◌, ◌&&◌, ℕ, List, length, nat_le, Bool, false, None, Result, Ok, Err}
use Rattle.std.specs.Option.{unwrap_or}
use Rattle.trac_rules.specs.declared.limit.TheConstants.{OUTPUT_LIMIT, TEXT_LIMIT}
use Rattle.trac_rules.specs.declared.refusal.Refusal.{Refusal}
use Rattle.trac_rules.specs.Effect.{Effect}
use Rattle.trac_rules.specs.Outcomes.{MayLackMemory, OrMemory, limited, seen_as}
use Rattle.trac_rules.specs.State.{Storage}
use Rattle.trac_change.specs.declared.change.UnnamedChange.{UnnamedChange}
use Rattle.trac_change.specs.Changed.{changed}
use Rattle.trac_change.specs.Naming.{unnamed}
use Rattle.trac_prims.specs.declared.effect.Effect as planned
use Rattle.trac_prims.specs.declared.effect.Deed.{Deed}
use Rattle.trac_prims.specs.declared.effect.Made as made
use Rattle.trac_prims.specs.declared.effect.Now.{Now}

-- nothing is done beside texts and a change
abbrev pub nothing : Deed
nothing = record { forced = false; read = 0; meta = None; trace = None }

-- what a call of these arguments does if these texts and this change were made, as an effect on a storage
abbrev pub done_on : {A : Type 0} → List (List ℕ) → Storage → made.Made A → UnnamedChange A → Deed → Effect
done_on arguments storage texts change d = record {
  value = texts.value.items;
  forced = d.forced;
  printed = texts.print.items;
  read = d.read;
  meta = d.meta;
  trace = d.trace;
  storage = changed arguments change storage;
}

-- an effect with the texts that were made before it
abbrev pub added_to : {A : Type 0} → made.Made A → Effect → Effect
added_to texts e = record e { value = texts.value.items ++ e.value; printed = texts.print.items ++ e.printed }

-- ---- what is planned

-- an effect with position, meta character and trace as they are afterwards
pub record Planned : Type 0 where
  pub value : List ℕ
  pub forced : Bool
  pub printed : List ℕ
  pub position : ℕ
  pub meta : ℕ
  pub trace : Bool
  pub storage : Storage

-- an effect in a state of which `now` speaks
abbrev pub planned_from : Now → Effect → Planned
planned_from now e = record {
  value = e.value;
  forced = e.forced;
  printed = e.printed;
  position = now.position + e.read;
  meta = unwrap_or e.meta now.meta;
  trace = unwrap_or e.trace now.trace;
  storage = e.storage;
}

-- the pieces that were made for a call of these arguments, over a storage
abbrev pub planned_on : {A : Type 0} → List (List ℕ) → Storage → planned.Effect A → Planned
planned_on arguments storage e = record {
  value = e.value.items;
  forced = e.forced;
  printed = e.print.items;
  position = e.position;
  meta = e.meta;
  trace = e.trace;
  storage = changed arguments (unnamed e.change) storage;
}

-- ---- pieces that are too long

-- whether some state within the limits can hold the value and the printed text of an effect; what
-- none can hold is not made
abbrev pub pieces_fit : Effect → Bool
pieces_fit e = nat_le (length e.value) TEXT_LIMIT && nat_le (length e.printed) OUTPUT_LIMIT

-- why nothing is made if this is the outcome of the definitions: its refusal, `TooLong` too if no state can hold a
-- piece, or `Memory` if that may be
abbrev pub MayFail : Result Effect Refusal → Refusal → Type 0
MayFail outcome refusal = OrMemory (MayLackMemory outcome) (λ said. limited pieces_fit outcome ≡ Err said) refusal

-- what is done with these arguments, this change among it, if this is the outcome of the definitions: its texts are
-- added to those that were made before
abbrev pub IsDone : {A : Type 0} → List (List ℕ) → Storage → Result Effect Refusal → made.Made A → made.Made A →
    UnnamedChange A → Result Deed Refusal → Type 0
IsDone arguments storage outcome old new change (Ok d) =
    seen_as (added_to old) outcome ≡ Ok (done_on arguments storage new change d)
IsDone arguments storage outcome old new change (Err refusal) = MayFail outcome refusal
