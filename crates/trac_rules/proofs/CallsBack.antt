-- The state before a call is got back from its record and the state after it, each of the three parts by itself.
use Rattle.std.proofs.Common.{◌≡◌, ℕ, ◌+◌, ◌-◌, Bool, true, false, List, [], ◌∷◌, ◌++◌, length, drop, is_some, refl, sym, ap, subst, ◌∙◌, arith}
use Rattle.std.specs.Prelude.{Option, None, Some, Result, Ok, Err, nat_le, ◌&&◌, codes, option_map, option_and_then}
use Rattle.std.specs.Bool.{then_some}
use Rattle.std.specs.Option.{unwrap_or}
use Rattle.std.specs.Result.{result_ok}
use Rattle.std.proofs.lemmas.Bool.{and_from, le-leb}
use Rattle.std.proofs.lemmas.List.{drop_at, length-append}
use Rattle.trac_rules.specs.declared.kind.Kind.{Kind}
use Rattle.trac_rules.specs.declared.kind.Kind.TheVariants.{Active, Neutral}
use Rattle.trac_rules.specs.declared.refusal.Refusal.{Refusal}
use Rattle.trac_rules.specs.declared.scan.Front.{Front}
use Rattle.trac_rules.specs.declared.scan.Front.TheVariants as front
use Rattle.trac_rules.specs.Effect.{Effect, argument}
use Rattle.trac_rules.specs.Limits.{texts_fit}
use Rattle.trac_rules.specs.Outcomes.{seen_as}
use Rattle.trac_rules.specs.Performing.{after_call, changed_by, effect_of, performed, placed, primitive_of, printed_after, trace_line}
use Rattle.trac_rules.specs.Proper.{IsProper}
use Rattle.trac_rules.specs.Records.{CallRecord, Record, Called, Rest, Texts, all_before_last, begun_again, call_record_in, call_record_of, call_recorded, is_scanned, put_together, record_in, record_of, recorded, rest_before, rest_of, restored, state_before, texts_before, texts_in, value_taken}
use Rattle.trac_rules.specs.Scanning.{Call, Scanned, Moves, Calls, closing_in, deleted, front_of, gather, scan, scan_at}
use Rattle.trac_rules.specs.State.{Environment, Frame, State, storage_of}
use Rattle.trac_rules.specs.Stepping.{carried_out, step}
use Rattle.trac_rules.specs.Undone.{storage_before, undone_by}
use Rattle.trac_rules.proofs.Outcomes.{limited_Ok, seen_as-Ok}
use Rattle.trac_rules.proofs.ProperStates.{storage-placed}
use Rattle.trac_rules.proofs.Restored.{BeginsSo, all_before_last-append, before_of_restored, begins_so, fits-append, frame_of-last, moved_goes_back}
use Rattle.trac_rules.proofs.Scans.{gathered_in_shows}
use Rattle.trac_rules.proofs.StorageBack.{IsKept, effect_kept}

-- ---- a call that scanning asks for

-- a call stands at the front of a state: with its `)` and its frame back, the state's texts are there, and all else is as it was
pub record IsAtFront (s : State) (call : Call) : Type 0 where
  pub texts : begun_again call.kind call.arguments (texts_in call.state) ≡ Some (texts_in s)
  pub storage : storage_of call.state ≡ storage_of s
  pub rest : rest_of call.state ≡ rest_of s

abbrev AsksAtFront : State → Scanned → Type 0
AsksAtFront s (Moves t) = Unit {0}
AsksAtFront s (Calls call) = IsAtFront s call

closing_asks : (frames : List Frame) (s : State) → s.active ≡ codes ")" ++ drop 1 s.active →
    AsksAtFront (record s { frames = frames }) (closing_in frames (deleted 1 (record s { frames = frames })))
closing_asks [] s e = tt
closing_asks (f ∷ fs) s e = record {
  texts = ap (option_map (λ (g : Frame). let whole : Texts = record { active = codes ")" ++ drop 1 s.active; base = s.base; frames = g ∷ fs } in whole)) (frame_of-last f)
      ∙ ap (λ (text : List ℕ). let whole : Texts = record { active = text; base = s.base; frames = f ∷ fs } in Some whole) (sym e);
  storage = refl;
  rest = refl;
}

asks_at : (at : Front) (s : State) → BeginsSo at s.active → AsksAtFront s (scan_at at s)
asks_at front.Closing s e = closing_asks s.frames s e
asks_at other s e = tt

asks : (s : State) → AsksAtFront s (scan s)
unfolding scan
asks s = asks_at (front_of s.active) s (begins_so s.active)

-- ---- a call that was performed

-- between two states a call was performed that leaves this record
pub record IsCall (environment : Environment) (s t : State) (kept : CallRecord) : Type 0 where
  pub call : Call
  pub effect : Effect
  pub at_front : IsAtFront s call
  pub done : performed environment call ≡ Ok effect
  pub after : after_call call effect ≡ t
  pub is : call_recorded call effect ≡ kept

call_of_step : (environment : Environment) (s t : State) (kept : CallRecord) (x : Scanned) → AsksAtFront s x → carried_out environment x ≡ Ok t →
    call_record_in environment x ≡ Some kept → IsCall environment s t kept
call_of_step environment s t kept (Moves u) at h k = absurd (cc)
call_of_step environment s t kept (Calls call) at h k = by_outcome (performed environment call) refl h k
  where
    by_outcome : (outcome : Result Effect Refusal) → performed environment call ≡ outcome → seen_as (after_call call) outcome ≡ Ok t →
        option_map (call_recorded call) (result_ok outcome) ≡ Some kept → IsCall environment s t kept
    by_outcome (Ok e) done h k = record { call = call; effect = e; at_front = at; done = done; after = (cc); is = (cc) }
    by_outcome (Err refusal) done h k = absurd (cc)

-- an accepted step that leaves a call's record performed that call
pub call_performed : (environment : Environment) (s t : State) (kept : CallRecord) → step environment s ≡ Ok t → call_record_of environment s ≡ Some kept →
    IsCall environment s t kept
unfolding step
call_performed environment s t kept h k =
    call_of_step environment s t kept (scan s) (asks s) (limited_Ok texts_fit (carried_out environment (scan s)) t h).0 k

-- a part of a state that is got back from what each call leaves is got back from the state after the step
goes_back_over : {X : Type 0} (part : State → X) (before : CallRecord → X → Option X) (environment : Environment) (s t : State) (kept : CallRecord) →
    step environment s ≡ Ok t → call_record_of environment s ≡ Some kept →
    ((call : Call) (e : Effect) → IsAtFront s call → performed environment call ≡ Ok e → before (call_recorded call e) (part (after_call call e)) ≡ Some (part s)) →
    before kept (part t) ≡ Some (part s)
goes_back_over part before environment s t kept h k back =
    let done = call_performed environment s t kept h k in
    subst (λ (c : CallRecord). before c (part t) ≡ Some (part s)) done.is
    (subst (λ (u : State). before (call_recorded done.call done.effect) (part u) ≡ Some (part s)) done.after (back done.call done.effect done.at_front done.done))

-- ---- texts and begun functions

-- a text is off again where it was put before another
front_taken : (value : List ℕ) (texts : Texts) → value_taken true (length value) (record texts { active = value ++ texts.active }) ≡ Some texts
front_taken value texts =
    let fits : nat_le (length value) (length (value ++ texts.active)) ≡ true =
    le-leb (length value) (length (value ++ texts.active)) (omega (arith, length-append value texts.active)) in
    ap (λ (b : Bool). then_some b (record texts { active = drop (length value) (value ++ texts.active) })) fits
    ∙ ap (λ (text : List ℕ). Some (record texts { active = text })) (drop_at value texts.active (length value) refl)

-- and so it is where it was gathered
end_taken : (frames : List Frame) (value : List ℕ) (u : State) →
    value_taken false (length value) (texts_in (gather value (record u { frames = frames }))) ≡ Some (texts_in (record u { frames = frames }))
end_taken [] value u = rw (fits-append u.base value, all_before_last-append u.base value) refl
end_taken (f ∷ fs) value u = rw (fits-append f.gathered value, all_before_last-append f.gathered value) refl

-- a value is off again, wherever it was placed
value_goes_back : (kind : Kind) (forced : Bool) (value : List ℕ) (u : State) →
    value_taken (is_scanned kind forced) (length value) (texts_in (placed kind forced value u)) ≡ Some (texts_in u)
value_goes_back Active forced value u = front_taken value (texts_in u)
value_goes_back Neutral true value u = front_taken value (texts_in u)
value_goes_back Neutral false value u = end_taken u.frames value u

pub texts_go_back : (environment : Environment) (s t : State) (kept : CallRecord) → step environment s ≡ Ok t → call_record_of environment s ≡ Some kept →
    texts_before kept (texts_in t) ≡ Some (texts_in s)
texts_go_back environment s t kept h k = goes_back_over texts_in texts_before environment s t kept h k (λ call e at done.
    ap (option_and_then (begun_again call.kind call.arguments)) (value_goes_back call.kind e.forced e.value (changed_by e call.state)) ∙ at.texts)

-- ---- all but forms and blocks

meta_goes_back : (old : ℕ) (new : Option ℕ) → unwrap_or (option_map (λ _. old) new) (unwrap_or new old) ≡ old
meta_goes_back old None = refl
meta_goes_back old (Some b) = refl

rest_goes_back : (call : Call) (e : Effect) → rest_before (call_recorded call e) (rest_of (changed_by e call.state)) ≡ Some (rest_of call.state)
rest_goes_back call e =
    let s = call.state in
    let read : nat_le e.read (s.position + e.read) ≡ true = le-leb e.read (s.position + e.read) (omega arith) in
    let fits : nat_le e.read (s.position + e.read) && nat_le (length e.printed) (length (s.output ++ e.printed)) ≡ true =
    and_from (nat_le e.read (s.position + e.read)) (nat_le (length e.printed) (length (s.output ++ e.printed))) read (fits-append s.output e.printed) in
    let back : s.position + e.read - e.read ≡ s.position = omega arith in
    let output = all_before_last-append s.output e.printed in
    let meta = meta_goes_back s.meta e.meta in
    ap (λ (b : Bool). then_some b (let rest : Rest = record {
      meta = unwrap_or (option_map (λ _. s.meta) e.meta) (unwrap_or e.meta s.meta);
      trace = s.trace;
      position = s.position + e.read - e.read;
      output = all_before_last (length e.printed) (s.output ++ e.printed);
    } in rest)) fits
    ∙ (λ i. Some (record { meta = meta i; trace = s.trace; position = back i; output = output i }))

rest-placed : (kind : Kind) (forced : Bool) (value : List ℕ) (s : State) → rest_of (placed kind forced value s) ≡ rest_of s
rest-placed Active forced value s = refl
rest-placed Neutral true value s = refl
rest-placed Neutral false value s = gathered_in_shows rest_of (λ _ _ _ _. refl) s.frames value s

pub rest_goes_back_over : (environment : Environment) (s t : State) (kept : CallRecord) → step environment s ≡ Ok t → call_record_of environment s ≡ Some kept →
    rest_before kept (rest_of t) ≡ Some (rest_of s)
rest_goes_back_over environment s t kept h k = goes_back_over rest_of rest_before environment s t kept h k (λ call e at done.
    ap (rest_before (call_recorded call e)) (rest-placed call.kind e.forced e.value (changed_by e call.state)) ∙ rest_goes_back call e ∙ ap Some at.rest)

-- ---- forms and blocks

-- the line of the trace leaves what is kept
pub performed_kept : (environment : Environment) (call : Call) (e : Effect) → performed environment call ≡ Ok e →
    IsKept (primitive_of (argument 0 call.arguments)) call.arguments (storage_of call.state) e
unfolding performed
performed_kept environment call e done =
    let primitive = primitive_of (argument 0 call.arguments) in
    let line = trace_line call.state.trace call.kind call.arguments in
    let parts = seen_as-Ok (printed_after line) (effect_of primitive environment call.arguments call.state) e done in
    let kept = effect_kept primitive environment call.arguments call.state parts.0 refl parts.1 in
    subst (IsKept primitive call.arguments (storage_of call.state)) (sym parts.2) (record { storage_back = kept.storage_back; meta = kept.meta })

pub storage_goes_back : (environment : Environment) (s t : State) (kept : CallRecord) → step environment s ≡ Ok t → call_record_of environment s ≡ Some kept →
    storage_before kept.arguments kept.undone (storage_of t) ≡ Some (storage_of s)
storage_goes_back environment s t kept h k =
    goes_back_over storage_of (λ (c : CallRecord) storage. storage_before c.arguments c.undone storage) environment s t kept h k (λ call e at done.
    ap (storage_before call.arguments (undone_by (primitive_of (argument 0 call.arguments)) call.arguments (storage_of call.state)))
    (storage-placed call.kind e.forced e.value (changed_by e call.state))
    ∙ (performed_kept environment call e done).storage_back
    ∙ ap Some at.storage)

-- ---- the whole state

-- a call's record gives back the state before
pub call_goes_back : (environment : Environment) (s t : State) (kept : CallRecord) → step environment s ≡ Ok t → call_record_of environment s ≡ Some kept →
    restored (Called kept) t ≡ Some s
call_goes_back environment s t kept h k = λ i.
    put_together (texts_go_back environment s t kept h k i) (storage_goes_back environment s t kept h k i) (rest_goes_back_over environment s t kept h k i)

-- and so does the record of any step
record_goes_back : (environment : Environment) (s t : State) (r : Record) (x : Scanned) → scan s ≡ x → step environment s ≡ Ok t → record_in environment s x ≡ Some r → restored r t ≡ Some s
record_goes_back environment s t r (Moves u) scanned h k =
    let same : recorded s ≡ r = cc in
    subst (λ (q : Record). restored q t ≡ Some s) same (moved_goes_back environment s t u scanned h)
record_goes_back environment s t r (Calls call) scanned h k =
    by_record (call_record_in environment (Calls call)) refl k
  where
    by_record : (kept : Option CallRecord) → call_record_in environment (Calls call) ≡ kept → option_map Called kept ≡ Some r → restored r t ≡ Some s
    by_record None is k = absurd (cc)
    by_record (Some c) is k =
        let same : Called c ≡ r = cc in
        subst (λ (q : Record). restored q t ≡ Some s) same
        (call_goes_back environment s t c h (ap (call_record_in environment) scanned ∙ is))

pub record_restores : (environment : Environment) (s t : State) (r : Record) → step environment s ≡ Ok t → record_of environment s ≡ Some r → restored r t ≡ Some s
record_restores environment s t r h k = record_goes_back environment s t r (scan s) refl h k

-- the state before is that state, where it is proper
pub record_leads_back : (environment : Environment) (s t : State) (r : Record) → IsProper s → step environment s ≡ Ok t → record_of environment s ≡ Some r →
    state_before r t ≡ Some s
record_leads_back environment s t r proper h k = before_of_restored r s t proper (record_restores environment s t r h k)

pub record_is_there : (environment : Environment) (s t : State) → step environment s ≡ Ok t → is_some (record_of environment s) ≡ true
unfolding step
record_is_there environment s t h = by_scanned (scan s) (limited_Ok texts_fit (carried_out environment (scan s)) t h).0
  where
    by_outcome : (call : Call) (outcome : Result Effect Refusal) → seen_as (after_call call) outcome ≡ Ok t →
        is_some (option_map Called (option_map (call_recorded call) (result_ok outcome))) ≡ true
    by_outcome call (Ok e) h = refl
    by_outcome call (Err refusal) h = absurd (cc)

    by_scanned : (x : Scanned) → carried_out environment x ≡ Ok t → is_some (record_in environment s x) ≡ true
    by_scanned (Moves u) h = refl
    by_scanned (Calls call) h = by_outcome call (performed environment call) h
