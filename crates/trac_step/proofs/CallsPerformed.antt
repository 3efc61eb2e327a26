-- A call that is ready is performed: its memory is taken, then forms and blocks are changed, and then it is ended.
use Rattle.std.proofs.Common.{◌≡◌, ℕ, ◌+◌, ◌<◌, ◌^◌, List, length, refl, sym, ap, ◌∙◌, subst, arith}
use Rattle.std.proofs.lemmas.Result.{err_from_is_err_and}
use Rattle.std.specs.Prelude.{Err, Result, option_map}
use Rattle.std.specs.Result.{IsErrAnd}
use Rattle.trac_rules.specs.declared.kind.Kind.{Kind}
use Rattle.trac_rules.specs.declared.refusal.Refusal.{Refusal}
use Rattle.trac_rules.specs.declared.refusal.Refusal.TheVariants.{Memory}
use Rattle.trac_rules.specs.declared.scan.Front.TheVariants.{Closing}
use Rattle.trac_rules.specs.Limits.{text_bytes}
use Rattle.trac_rules.specs.Proper.{IsProper}
use Rattle.trac_rules.specs.Records.{Record, is_scanned}
use Rattle.trac_rules.specs.Scanning.{front_of, scan}
use Rattle.trac_rules.specs.State.{State, storage_of}
use Rattle.trac_rules.specs.Undone.{Undone}
use Rattle.trac_change.specs.declared.change.UnnamedChange.{UnnamedChange}
use Rattle.trac_prims.specs.declared.effect.Made.{Made}
use Rattle.trac_change.specs.Changed.{changed}
use Rattle.trac_text.specs.declared.calls.Beginning.{Beginning}
use Rattle.trac_prims.specs.declared.effect.Deed.{Deed}
use Rattle.trac_journal.specs.declared.called.Called.{Called}
use Rattle.trac_step.specs.Calling.{BeginsInnermost, HasRoomFor, arguments_in, called_with, state_after, state_ended, with_storage}
use Rattle.trac_step.specs.Kept.{FitsJournal, IsKeptAs}
use Rattle.trac_step.specs.Layout.{Shown}
use Rattle.trac_step.specs.Ready.{CanChange, CanEnd, IsReady}
use Rattle.trac_step.specs.Room.{IsNoLess}
use Rattle.trac_step.proofs.Storages.{ended_is, storage_proper}

-- the call that is ready can change forms and blocks as it is planned
pub can_change : {A : Type 0} (s t : State) (beginning : Beginning) (deed : Deed) (made : Made A) (change : UnnamedChange A) → IsReady s made beginning deed change → t ≡ s → CanChange t beginning change
can_change s t beginning deed made change ready same =
    subst (λ (x : State). CanChange x beginning change) (sym same) (record {
      front = ready.front;
      begins = ready.begins;
      pieces = ready.pieces;
      proper = storage_proper s ready.front beginning ready.begins deed made change ready.proper;
    })

-- a call changes forms and blocks: it stands there still, with its arguments
module _ {A : Type 0} (s t : State) (beginning : Beginning) (change : UnnamedChange A) (can : CanChange s beginning change)
    (is : t ≡ with_storage (changed (arguments_in (scan s)) change (storage_of s)) s) where
  pub front_then : front_of t.active ≡ Closing
  front_then = ap (λ (x : State). front_of x.active) is ∙ can.front

  pub begins_then : BeginsInnermost t beginning
  begins_then = subst (λ (x : State). BeginsInnermost x beginning) (sym is) can.begins

-- the record of a call fits the journal if it says the same, has the same arguments and destroyed the same
pub fits_as : (called other : Called) (given texts : List (List ℕ)) (undone said : Undone) → other ≡ called → texts ≡ given → said ≡ undone → FitsJournal called given undone → FitsJournal other texts said
fits_as called other given texts undone said same is destroyed fits =
    subst (λ (c : Called). FitsJournal c texts said) (sym same) (subst (λ (ts : List (List ℕ)). FitsJournal called ts said) (sym is) (subst (FitsJournal called given) (sym destroyed) fits))

-- what is said of a call
pub said_as : {A : Type 0} (s : State) (kind : Kind) (deed : Deed) (made : Made A) (called : Called) → called.kind ≡ kind → called.value ≡ length made.value.items → called.scanned ≡ is_scanned kind deed.forced →
    called.printed ≡ length made.print.items → called.read ≡ deed.read → called.meta ≡ option_map (λ _. s.meta) deed.meta → called.trace ≡ s.trace → called ≡ called_with s kind deed made
said_as s kind deed made called kind_is value_is scanned_is printed_is read_is meta_is trace_is = λ i. record {
  kind = kind_is i;
  value = value_is i;
  scanned = scanned_is i;
  printed = printed_is i;
  read = read_is i;
  meta = meta_is i;
  trace = trace_is i;
}

-- memory is refused to a call
pub not_kept : {R : Type 0} (r : Result R Refusal) (kept : Record) (state : State) (m n : Shown) (old new : List Record) (e : Refusal) → IsErrAnd r (λ said. said ≡ e) → e ≡ Memory → n.state ≡ m.state → new ≡ old → IsNoLess m n →
    IsKeptAs kept state r m n old new
not_kept r kept state m n old new e is memory same records room =
    let why = err_from_is_err_and r is in
    subst (λ r. IsKeptAs kept state r m n old new) (sym (why.1 ∙ ap Err (why.2 ∙ memory))) (record { done = tt; added = tt; unchanged = (same, records); err = refl; room = room })

-- the machine with its memory taken, and then with its forms and blocks changed
module _ {A : Type 0} (s : State) (m n : Shown) (beginning : Beginning) (deed : Deed) (made : Made A) (change : UnnamedChange A) (ready : IsReady s made beginning deed change) (same : m.state ≡ s)
    (is : n.state ≡ with_storage (changed (arguments_in (scan m.state)) change (storage_of m.state)) m.state) where
  ready_still : IsReady m.state made beginning deed change
  ready_still = subst (λ (t : State). IsReady t made beginning deed change) (sym same) ready

  can_still : CanChange m.state beginning change
  can_still = can_change s m.state beginning deed made change ready same

  -- what is left of the call leads to the state after it
  pub ended_then : state_ended deed made (scan n.state) ≡ state_after deed made change (scan s)
  ended_then =
      ap (λ (t : State). state_ended deed made (scan t)) is
      ∙ ended_is m.state ready_still.front beginning ready_still.begins deed made change
      ∙ ap (λ (t : State). state_after deed made change (scan t)) same

  pub can_end : HasRoomFor made m → IsNoLess m n → CanEnd n made beginning deed
  can_end room more =
      let texts : text_bytes n.state ≡ text_bytes m.state = ap (λ (t : State). text_bytes t) is in
      let printed : length n.state.output ≡ length m.state.output = ap (λ (t : State). length t.output) is in
      record {
        front = front_then m.state n.state beginning change can_still is;
        begins = begins_then m.state n.state beginning change can_still is;
        position = subst (λ (t : State). t.position + deed.read < 2 ^ 64) (sym is) ready_still.position;
        text_room = omega (arith, room.text, more.text, texts);
        output_room = omega (arith, room.output, more.output, printed);
        proper = subst IsProper (sym ended_then) ready.proper;
      }
