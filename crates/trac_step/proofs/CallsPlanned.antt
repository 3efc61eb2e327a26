-- What is planned for a call leads where its step leads, and is what its record keeps.
use Rattle.std.proofs.Common.{◌≡◌, ℕ, List, ◌∷◌, length, sym, ap, ◌∙◌, subst}
use Rattle.std.specs.Prelude.{Option, Some, Result, Ok, option_map}
use Rattle.std.specs.Result.{result_ok}
use Rattle.trac_rules.specs.declared.kind.Kind.{Kind}
use Rattle.trac_rules.specs.declared.refusal.Refusal.{Refusal}
use Rattle.trac_rules.specs.declared.scan.Front.TheVariants.{Closing}
use Rattle.trac_rules.specs.Effect.{Effect, argument}
use Rattle.trac_rules.specs.Performing.{after_call, performed, primitive_of}
use Rattle.trac_rules.specs.Records as rules
use Rattle.trac_rules.specs.Records.{CallRecord, call_recorded, is_scanned, record_in, record_of}
use Rattle.trac_rules.specs.Scanning.{Call, Scanned, front_of, scan}
use Rattle.trac_rules.specs.State.{Environment, Frame, State, Storage, storage_of}
use Rattle.trac_rules.specs.Stepping.{step}
use Rattle.trac_rules.specs.Undone.{undone_by}
use Rattle.trac_rules.proofs.Outcomes.{limited_Ok}
use Rattle.trac_forms.specs.Stored.{Stored, storage_in}
use Rattle.trac_change.specs.declared.change.UnnamedChange.{UnnamedChange}
use Rattle.trac_prims.specs.declared.effect.Deed.{Deed}
use Rattle.trac_prims.specs.declared.effect.Made.{Made}
use Rattle.trac_prims.specs.declared.effect.Now.{Now}
use Rattle.trac_change.specs.Changes.{IsChangeOf, PiecesAreOf, undone_of}
use Rattle.trac_prims.specs.Effects.{done_on}
use Rattle.trac_text.specs.Frames.{IsInnermost}
use Rattle.trac_text.specs.Neutral.{MarkedText, Neutral, cut_back, neutral_of}
use Rattle.trac_prims.specs.Plans.{IsGiven, fits_after}
use Rattle.trac_journal.specs.Told.{record_with}
use Rattle.trac_step.specs.Calling.{arguments_in, called_with, state_after}
use Rattle.trac_step.specs.Ready.{undone_after}
use Rattle.trac_step.proofs.Calls.{call_of, scan_call, step_planned, wanted}

-- the arguments of the innermost function are those of the call
pub arguments_found : (s : State) (m : MarkedText) (number place : ℕ) (kind : Kind) (texts : List (List ℕ)) → front_of s.active ≡ Closing →
    neutral_of m ≡ record { base = s.base; frames = s.frames } → IsInnermost m number place kind texts → texts ≡ arguments_in (scan s)
arguments_found s m number place kind texts front same inner =
    let rest = (neutral_of (cut_back number place m)).frames in
    sym inner.arguments_are ∙ ap arguments_in (sym (scan_call s inner.frame rest front (ap (λ (n : Neutral). n.frames) (sym same) ∙ inner.frames_are)))

module _ (environment : Environment) (s : State) (f : Frame) (fs : List Frame) (front : front_of s.active ≡ Closing) (is : s.frames ≡ f ∷ fs)
    (kind : Kind) (arguments : List (List ℕ)) (stored : Stored) (now : Now) (given : IsGiven (call_of s f fs) kind arguments stored now)
    {A : Type 0} (made : Made A) (change : UnnamedChange A) (deed : Deed) (planned : wanted environment s f fs front is ≡ Ok (done_on arguments (storage_of (call_of s f fs).state) made change deed))
    (of_call : IsChangeOf (primitive_of (argument 0 arguments)) arguments (storage_in stored) change) where
  abbrev call : Call
  call = call_of s f fs

  -- the effect is that of the call
  abbrev effect : Effect
  effect = done_on call.arguments (storage_of call.state) made change deed

  same : done_on arguments (storage_of call.state) made change deed ≡ effect
  same = ap (λ (ts : List (List ℕ)). done_on ts (storage_of call.state) made change deed) (sym given.arguments_are)

  performs : performed environment call ≡ Ok effect
  performs = (limited_Ok (fits_after call) (performed environment call) (done_on arguments (storage_of call.state) made change deed) planned).0 ∙ ap Ok same

  -- the pieces of the change are those of the call
  pub pieces_given : PiecesAreOf (arguments_in (scan s)) (storage_of s) change
  pieces_given =
      subst (λ (x : Scanned). PiecesAreOf (arguments_in x) (storage_of s) change) (sym (scan_call s f fs front is))
      (subst (λ (ts : List (List ℕ)). PiecesAreOf ts (storage_of s) change) (sym given.arguments_are)
      (subst (λ (storage : Storage). PiecesAreOf arguments storage change) (sym given.state_is.storage_is) of_call.pieces_are))

  -- what the change destroys is what the call's primitive destroys
  undone_planned : undone_by (primitive_of (argument 0 call.arguments)) call.arguments (storage_of s) ≡ undone_of call.arguments change (storage_of s)
  undone_planned =
      ap (λ (ts : List (List ℕ)). undone_by (primitive_of (argument 0 ts)) ts (storage_of s)) given.arguments_are
      ∙ ap (undone_by (primitive_of (argument 0 arguments)) arguments) given.state_is.storage_is
      ∙ sym of_call.undone_is
      ∙ ap (undone_of arguments change) (sym given.state_is.storage_is)
      ∙ ap (λ (ts : List (List ℕ)). undone_of ts change (storage_of s)) (sym given.arguments_are)

  -- the step leads to the state after what is planned
  pub planned_taken : step environment s ≡ Ok (state_after deed made change (scan s))
  planned_taken =
      step_planned environment s f fs front is (done_on arguments (storage_of call.state) made change deed) planned
      ∙ ap (λ (e : Effect). Ok (after_call call e)) same
      ∙ ap (λ (x : Scanned). Ok (state_after deed made change x)) (sym (scan_call s f fs front is))

  told : call_recorded call effect ≡ record_with (called_with s kind deed made) call.arguments (undone_of call.arguments change (storage_of s))
  told = λ i. record {
    kind = given.kind_is i;
    arguments = call.arguments;
    value = length made.value.items;
    scanned = is_scanned (given.kind_is i) deed.forced;
    printed = length made.print.items;
    read = deed.read;
    meta = option_map (λ _. s.meta) deed.meta;
    trace = s.trace;
    undone = undone_planned i;
  }

  -- and its record is what is planned
  pub planned_recorded : record_of environment s ≡ Some (rules.Called (record_with (called_with s kind deed made) (arguments_in (scan s)) (undone_after change s)))
  planned_recorded =
      ap (record_in environment s) (scan_call s f fs front is)
      ∙ ap (λ (o : Result Effect Refusal). option_map rules.Called (option_map (call_recorded call) (result_ok o))) performs
      ∙ ap (λ (c : CallRecord). let o : Option rules.Record = Some (rules.Called c) in o) told
      ∙ ap (λ (x : Scanned). let o : Option rules.Record = Some (rules.Called (record_with (called_with s kind deed made) (arguments_in x) (undone_of (arguments_in x) change (storage_of s)))) in o) (sym (scan_call s f fs front is))
