-- What a step leaves as it is, and where what stands after a run of bytes stood before it, as the code tells them.
use Rattle.std.proofs.Common.{◌≡◌, ℕ, ◌+◌, ◌-◌, ◌<◌, ◌≤◌, eqb, Bool, true, false, List, length, take, drop, refl, sym, ap, subst, ◌∙◌, ⊎_elim, arith, Option, None, Some, SomeIff, Ok, slice_get}
use Rattle.std.specs.FinMap as finite
use Rattle.std.specs.List.{concat}
use Rattle.std.proofs.lemmas.Bool.Decides.{nat_tests}
use Rattle.trac_rules.specs.declared.item.Item.{Item}
use Rattle.trac_rules.specs.declared.kind.Kind.{Kind}
use Rattle.trac_rules.specs.Effect.{argument}
use Rattle.trac_rules.specs.Form.{extent}
use Rattle.trac_rules.specs.Goals.{IsCall, next_call}
use Rattle.trac_rules.specs.Limits.{argument_bytes}
use Rattle.trac_rules.specs.Performing.{after_call, primitive_of}
use Rattle.trac_rules.specs.Pieces.{is_gap}
use Rattle.trac_rules.specs.PlainRuns.{moved_on}
use Rattle.trac_rules.specs.Scanning.{Call, Moves, Calls, deleted, front_of, scan}
use Rattle.trac_rules.specs.State.{Environment, Forms, Frame, State}
use Rattle.trac_rules.specs.Stepping.{step}
use Rattle.trac_rules.proofs.Scans.{gathered_in_shows}
use Rattle.trac_origins.specs.Lengths.{before_moved, in_active, is_of_text, is_outside, may_put, moves_bytes, past_in}
use Rattle.trac_origins.specs.Places.{Place, InActive, InBase, InArgument, InForm, InHeld, InOutput, Carried, found_at, items_of}
use Rattle.trac_origins.specs.Stepping.{origin}
use Rattle.trac_origins.proofs.Moved.{past_place, stood}
use Rattle.trac_origins.proofs.Told.{byte_within}
use Rattle.trac_origins.proofs.ToldCalls.{ended}
use Rattle.trac_origins.proofs.Unchanged.{Unchanged, calls_held, calls_unchanged, moves_held}
use Rattle.trac_text.proofs.NeutralAgain.{function_bytes}
use Rattle.trac_follow_step.specs.Items.{IsMeasured}
use Rattle.trac_follow_step.specs.Offsets.{IsPlaced, bytes_left, left_by, neutral_bytes, offset}
use Rattle.trac_follow_step.specs.Places.{IsCalling, IsOutside, IsPassed, calls, is_in_text}
use Rattle.trac_follow_step.specs.Running.{CameFrom, StaysAt}
use Rattle.trac_follow_step.proofs.CallsTold.{active_kept, call_does, functions_left, given_call, output_carried, rest_carried, step_scans, text_carried}
use Rattle.trac_follow_step.proofs.Found.{byte_there}
use Rattle.trac_follow_step.proofs.Offsets.{around_offset, called_offset, moved_offset, new_past, offset_before, stands_within}
use Rattle.trac_follow_step.proofs.Renewed.{IsNew, around_it, called_new, moved_new}
use Rattle.trac_follow_step.proofs.Scanned.{left_carried, left_less, stays_carried}

-- ---- what stays

-- what is known of a place that is in no text
pub aside : (bytes : ℕ) (gap : Bool) (s : State) (p : Place) → is_in_text p ≡ false → IsMeasured bytes gap s p → IsPlaced bytes gap s p
aside bytes gap s p other measured = record { measured = measured; before = λ text. absurd (let unset : true ≡ false = sym text ∙ other in cc) }

pub output_stays : (s : State) (bytes : ℕ) (gap : Bool) (i : ℕ) → i < length s.output → StaysAt s bytes gap (InOutput i)
output_stays s bytes gap i l environment t item h stands placed = (
  ⊎_elim
      (λ (moves : scan s ≡ Moves t).
      let byte = byte_there i s.output l in
      stays_carried environment s t (InOutput i) byte.0 item moves refl byte.1 stands)
      (λ (calls : (call : Call) × (scan s ≡ Calls call)). output_carried environment s t calls.0 item h calls.1 environment.width refl i l)
      (step_scans environment s t h),
  aside bytes gap s (InOutput i) refl tt,
  λ passed. absurd (cc),
)

measured_alike : (bytes : ℕ) (gap : Bool) (s t : State) (name : List ℕ) (i : ℕ) → items_of (finite.get t.forms name) ≡ items_of (finite.get s.forms name) →
    IsMeasured bytes gap t (InForm name i) → IsMeasured bytes gap s (InForm name i)
measured_alike bytes gap s t name i same measured =
    subst (λ (items : List Item). (item : Item) → slice_get items i ≡ Some item → (bytes ≡ extent (take i items)) × (gap ≡ is_gap item)) same measured

pub form_stays : (s : State) (name : List ℕ) →
    ((i : ℕ) (environment : Environment) (t : State) (item : Item) → step environment s ≡ Ok t → found_at t (InForm name i) ≡ Some item → Unchanged environment s t name i) →
    (bytes i : ℕ) (gap : Bool) → StaysAt s bytes gap (InForm name i)
form_stays s name unchanged bytes i gap environment t item h stands placed =
    let same = unchanged i environment t item h stands in
    (same.carried, aside bytes gap s (InForm name i) refl (measured_alike bytes gap s t name i same.items placed.measured), λ passed. absurd (cc))

pub form_unchanged : (s : State) (name : List ℕ) (arguments : List (List ℕ)) → IsCalling s arguments →
    may_put (primitive_of (argument 0 arguments)) (argument 1 arguments) name ≡ false →
    (i : ℕ) (environment : Environment) (t : State) (item : Item) → step environment s ≡ Ok t → found_at t (InForm name i) ≡ Some item → Unchanged environment s t name i
form_unchanged s name arguments is other i environment t item h stands =
    calls_unchanged environment s t is.0 name i item h is.1
    (ap (λ (texts : List (List ℕ)). may_put (primitive_of (argument 0 texts)) (argument 1 texts) name) is.2 ∙ other) stands

pub held_carried : (s : State) (number : ℕ) (name : List ℕ) (i : ℕ) → number < length s.blocks →
    (environment : Environment) (t : State) (item : Item) → step environment s ≡ Ok t → found_at t (InHeld number name i) ≡ Some item →
    origin environment s (InHeld number name i) ≡ Carried (InHeld number name i)
held_carried s number name i within environment t item h stands =
    ⊎_elim
    (λ (moves : scan s ≡ Moves t). moves_held environment s t number name i item h moves stands)
    (λ (calls : (call : Call) × (scan s ≡ Calls call)). calls_held environment s t calls.0 number name i item h calls.1 within stands)
    (step_scans environment s t h)

pub held_stays : (s : State) (bytes : ℕ) (gap : Bool) (number : ℕ) (name : List ℕ) (i : ℕ) → number < length s.blocks → StaysAt s bytes gap (InHeld number name i)
held_stays s bytes gap number name i within environment t item h stands placed =
    (held_carried s number name i within environment t item h stands, aside bytes gap s (InHeld number name i) refl tt, λ passed. absurd (cc))

-- ---- in the neutral text

-- what stays is passed on by no step
pub stays_moving : (s t : State) (p : Place) → scan s ≡ Moves t → IsPassed s p p → ⊥
stays_moving s t (InArgument n k i) is passed = absurd (let unset : false ≡ true = ap (calls n (length s.frames)) (sym is) ∙ passed in cc)
stays_moving s t p is passed = absurd (cc)

stays_calling : (s : State) (call : Call) (p : Place) → scan s ≡ Calls call → IsOutside (length call.state.frames) p → IsPassed s p p → ⊥
stays_calling s call (InArgument n k i) is outside passed =
    let e : eqb (n + 1) (length s.frames) ≡ true = ap (calls n (length s.frames)) (sym is) ∙ passed in
    let last : n + 1 ≡ length s.frames = grind (arith, nat_tests, e) in
    omega (arith, functions_left s call is, outside, last)
stays_calling s call p is outside passed = absurd (cc)

of_text : (p : Place) → is_in_text p ≡ true → (is_outside p ≡ true) × (is_of_text p ≡ true)
of_text (InBase i) text = (refl, refl)
of_text (InArgument n k i) text = (refl, refl)
of_text p text = absurd (cc)

measured_aside : (bytes : ℕ) (gap : Bool) (s : State) (p : Place) → is_in_text p ≡ true → IsMeasured bytes gap s p
measured_aside bytes gap s (InForm name i) text = absurd (cc)
measured_aside bytes gap s p text = tt

module _ (environment : Environment) (s t : State) (bytes : ℕ) (p : Place) (item : Item) (h : step environment s ≡ Ok t) (text : is_in_text p ≡ true) (less : bytes < bytes_left s) (stands : found_at t p ≡ Some item)
    (at : bytes ≡ offset t p) where
  -- by a rule that moves on
  moving : scan s ≡ Moves t → (origin environment s p ≡ Carried p) × (bytes ≡ offset s p) × (IsPassed s p p → ⊥)
  moving moves =
      let there : bytes ≡ offset s p = at ∙ moved_offset s t p item moves text stands in
      let within : bytes < neutral_bytes s = subst (λ x. bytes < left_by x s) moves less in
      let old : found_at s p ≡ Some item =
      ⊎_elim
      (λ (old : found_at s p ≡ Some item). old)
      (λ (new : (moves_bytes (front_of s.active) ≡ true) × IsNew s.frames s p).
      absurd (omega (arith, within, there, ap (offset s) new.1.at, new_past s.frames s new.1.number refl)))
      (moved_new s t p item moves text stands) in
      (stays_carried environment s t p item item moves (of_text p text).0 old stands, there, stays_moving s t p moves)

  -- by a call
  calling : (call : Call) → scan s ≡ Calls call → (origin environment s p ≡ Carried p) × (bytes ≡ offset s p) × (IsPassed s p p → ⊥)
  calling call calls =
      let done = call_does environment s t call h calls (primitive_of (argument 0 call.arguments)) refl in
      let after : found_at (after_call call done.0) p ≡ Some item = subst (λ (u : State). found_at u p ≡ Some item) done.2 stands in
      let there : bytes ≡ offset call.state p = at ∙ ap (λ (u : State). offset u p) done.2 ∙ called_offset call done.0 p item text after in
      let within : bytes < neutral_bytes call.state = subst (λ x. bytes < left_by x s) calls less in
      ⊎_elim
      (λ (old : found_at call.state p ≡ Some item).
      let around = around_it s call p item calls text old in (
        text_carried environment s t call item h calls environment.width refl p item (of_text p text).1 around.0 around.1,
        there ∙ sym (around_offset s call p calls text around.1),
        stays_calling s call p calls around.1,
      ))
      (λ (new : IsNew call.state.frames call.state p).
      absurd (omega (arith, within, there, ap (offset call.state) new.at, new_past call.state.frames call.state new.number refl)))
      (called_new call done.0 p item text after)

pub text_stays : (s : State) (bytes : ℕ) (gap : Bool) (p : Place) → is_in_text p ≡ true → bytes < bytes_left s → StaysAt s bytes gap p
text_stays s bytes gap p text less environment t item h stands placed =
    let at : bytes ≡ offset t p = placed.before text in
    let all : (origin environment s p ≡ Carried p) × (bytes ≡ offset s p) × (IsPassed s p p → ⊥) =
    ⊎_elim
    (λ (moves : scan s ≡ Moves t). moving environment s t bytes p item h text less stands at moves)
    (λ (calls : (call : Call) × (scan s ≡ Calls call)). calling environment s t bytes p item h text less stands at calls.0 calls.1)
    (step_scans environment s t h) in
    (all.0, record { measured = measured_aside bytes gap s p text; before = λ text. all.1 }, all.2)

pub call_leaves : (s : State) (kind : Kind) (arguments : List (List ℕ)) → IsCall (next_call s) kind arguments → neutral_bytes s ≡ bytes_left s + length (concat arguments)
call_leaves s kind arguments is =
    let call = given_call s kind arguments is in
    let at = ended s call.0 call.1 in
    let f : Frame = at.0 in
    omega (
      arith,
      ap (λ x. left_by x s) call.1,
      ap argument_bytes at.2.frames,
      ap neutral_bytes at.2.state,
      function_bytes f.arguments f.gathered,
      ap (λ (texts : List (List ℕ)). length (concat texts)) (sym at.2.arguments ∙ call.2),
    )

-- ---- before a run

-- what is measured stays
measured_or : (bytes : ℕ) (gap : Bool) (s : State) (past : Option ℕ) (p : Place) → IsMeasured bytes gap s p → IsMeasured bytes gap s (in_active past p)
measured_or bytes gap s None p m = m
measured_or bytes gap s (Some i) p m = tt

pub measured_before : (n : ℕ) (s : State) (here : Place) (bytes : ℕ) (gap : Bool) → IsMeasured bytes gap (moved_on n s) here → IsMeasured bytes gap s (before_moved n s here)
measured_before n s (InActive i) bytes gap m = tt
measured_before n s (InForm name i) bytes gap m =
    let forms : (moved_on n s).forms ≡ s.forms =
    gathered_in_shows (λ (u : State). u.forms) (λ u active base frames. refl) s.frames (take n s.active) (deleted n s) in
    measured_or bytes gap s (past_in s.frames s (InForm name i)) (InForm name i)
    (measured_alike bytes gap s (moved_on n s) name i (ap (λ (all : Forms). items_of (finite.get all name)) forms) m)
measured_before n s p bytes gap m = measured_or bytes gap s (past_in s.frames s p) p tt

pub placed_before : (n : ℕ) (s : State) (here : Place) (bytes : ℕ) (gap : Bool) (item : Item) → found_at (moved_on n s) here ≡ Some item → IsPlaced bytes gap (moved_on n s) here →
    IsPlaced bytes gap s (before_moved n s here)
placed_before n s here bytes gap item stands placed =
    record { measured = measured_before n s here bytes gap placed.measured; before = go here (offset_before n s here bytes gap item stands placed) }
  where
    one_of : (past : Option ℕ) (p : Place) → (is_in_text p ≡ true → bytes ≡ offset s p) → is_in_text (in_active past p) ≡ true → bytes ≡ offset s (in_active past p)
    one_of None p at text = at text
    one_of (Some i) p at text = absurd (cc)

    go : (p : Place) → (is_in_text p ≡ true → bytes ≡ offset s p) → is_in_text (before_moved n s p) ≡ true → bytes ≡ offset s (before_moved n s p)
    go (InActive i) at text = absurd (cc)
    go p at text = one_of (past_in s.frames s p) p at text

moved_in_text : (n : ℕ) (s : State) (p : Place) → is_in_text p ≡ true → before_moved n s p ≡ in_active (past_in s.frames s p) p
moved_in_text n s (InBase i) text = refl
moved_in_text n s (InArgument m k i) text = refl
moved_in_text n s p text = absurd (cc)

-- a byte of a text, as the code finds it
pub text_before : (n : ℕ) (s : State) (p : Place) (bytes : ℕ) (gap : Bool) (item : Item) (past : Option ℕ) → is_in_text p ≡ true → found_at (moved_on n s) p ≡ Some item → IsPlaced bytes gap (moved_on n s) p →
    SomeIff past (neutral_bytes s ≤ bytes) (bytes - neutral_bytes s) → in_active past p ≡ before_moved n s p
text_before n s p bytes gap item past text stands placed is = ap (λ q. in_active q p) (go (past_in s.frames s p) refl past is) ∙ sym (moved_in_text n s p text)
  where
    at : bytes ≡ offset s p
    at = offset_before n s p bytes gap item stands placed text

    past_end : (j : ℕ) → past_in s.frames s p ≡ Some j → bytes ≡ neutral_bytes s + j
    past_end j found = at ∙ ap (offset s) (past_place s.frames s p j found) ∙ new_past s.frames s j refl

    go : (found : Option ℕ) → past_in s.frames s p ≡ found → (q : Option ℕ) → SomeIff q (neutral_bytes s ≤ bytes) (bytes - neutral_bytes s) → q ≡ past_in s.frames s p
    go None none None is = sym none
    go None none (Some k) is =
        let old : found_at s p ≡ Some item = stood s.frames s (take n s.active) (drop n s.active) p item refl (of_text p text).0 none stands in
        absurd (omega (arith, at, stands_within s p item text old, is.0))
    go (Some j) found None is = absurd (is (omega (arith, past_end j found)))
    go (Some j) found (Some k) is = ap Some (omega (arith, is.1, past_end j found)) ∙ sym found

-- ---- the rest of the active text

-- a byte that is not new is as far from the end as it was
pub active_came : (s : State) (left i j : ℕ) → j + left ≡ length s.active + i → 0 < j → CameFrom s left (InActive i) (InActive j)
active_came s left i j index some environment t item h is stands = (
  ⊎_elim
      (λ (moves : scan s ≡ Moves t).
      let more : 0 < length s.active = omega (arith, index, some, is, within) in
      left_carried environment s t i item moves more stands
      ∙ ap (λ n. Carried (InActive n)) (omega (arith, index, is, left_less environment s t i item h moves more stands)))
      (λ (calls : (call : Call) × (scan s ≡ Calls call)).
      let kept = active_kept environment s t calls.0 item h calls.1 environment.width refl in
      rest_carried environment s t calls.0 item h calls.1 environment.width refl i (length t.active - (length s.active - 1)) refl kept (omega (arith, index, some, is, within, kept))
      (omega (arith, index, some, is, within, kept))
      ∙ ap (λ n. Carried (InActive n)) (omega (arith, index, some, is, within, kept)))
      (step_scans environment s t h),
  λ bytes gap. aside bytes gap s (InActive j) refl tt,
  λ passed. absurd (cc),
)
  where
    within : i < length t.active
    within = byte_within i t.active item stands
