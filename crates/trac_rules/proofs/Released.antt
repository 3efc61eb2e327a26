-- A state that is released of the front of its output, over a tape that has lost what it has read of its front, goes on as before, and back.
use Rattle.std.proofs.Common.{◌≡◌, ℕ, ◌+◌, ◌-◌, ◌≤◌, Bool, true, false, List, [], ◌∷◌, ◌++◌, length, map, take, drop, refl, sym, ap, ◌∙◌, arith, inl, inr, take_all}
use Rattle.std.specs.Prelude.{None, Some, Ok, Err, nat_le, ◌&&◌, ◌⊎◌, min, option_map}
use Rattle.std.specs.Bool.{then_some}
use Rattle.std.proofs.lemmas.Bool.{and_from, and_parts, le-leb, leb-true}
use Rattle.std.proofs.lemmas.List.{drop-append-le, drop-take, length-drop, length-map, length-take}
use Rattle.trac_rules.specs.declared.limit.TheConstants.{TEXT_LIMIT, MARK_LIMIT, OUTPUT_LIMIT}
use Rattle.trac_rules.specs.declared.refusal.Refusal.{Refusal}
use Rattle.trac_rules.specs.declared.refusal.Refusal.TheVariants.{TooLong}
use Rattle.trac_rules.specs.declared.scan.Front.{Front}
use Rattle.trac_rules.specs.declared.scan.Front.TheVariants as front
use Rattle.trac_rules.specs.Limits.{texts_fit, text_bytes, marks}
use Rattle.trac_rules.specs.Outcomes.{limited, seen_as}
use Rattle.trac_rules.specs.Proper.{IsProper}
use Rattle.trac_rules.specs.Records.{CallRecord, Record, Called, IsOfScanning, Rest, all_before_last, comma_recorded, put_together, recorded_at, rest_before, rest_of, restored, state_before, texts_before, texts_in}
use Rattle.trac_rules.specs.Running.{silent}
use Rattle.trac_rules.specs.Scanning.{Scanned, Moves, Calls, front_of, scan}
use Rattle.trac_rules.specs.Fronts.{IsFrontOf}
use Rattle.trac_rules.specs.Session.{PlainSession, Step, answer, committed, done, first_kept, first_of, released, released_by, settled}
use Rattle.trac_rules.specs.State.{Environment, Frame, State, storage_of}
use Rattle.trac_rules.specs.Stepping.{carried_out, step}
use Rattle.trac_rules.specs.Undone.{storage_before}
use Rattle.trac_rules.specs.Weights.{closing_loss, loss, loss_at, step_weight, step_weight_in, weight}
use Rattle.trac_rules.proofs.Changed.{changed, scan-changed, scanned_as}
use Rattle.trac_rules.proofs.FurtherOn.{put_together_parts, rest_said, stands_there}
use Rattle.trac_rules.proofs.Outcomes.{limited_within, limited_Ok, limited_Err, seen_as-Ok, seen_as-Err}
use Rattle.trac_rules.proofs.Replies.{Step_done}
use Rattle.trac_rules.proofs.Restored.{before_of_restored, elsewhere, restored-elsewhere, restored_of_before}
use Rattle.trac_rules.proofs.Steps.{carried_out-silent, cut, moved_back, step-cut, step-silent_Ok}

-- ---- limits

texts_fit_of_less : (s : State) (o : List ℕ) → length o ≤ length s.output → texts_fit s ≡ true → texts_fit (record s { output = o }) ≡ true
unfolding texts_fit
texts_fit_of_less s o less h =
    let rest : Bool = nat_le (text_bytes s) TEXT_LIMIT && nat_le (marks s.frames) MARK_LIMIT in
    let parts = and_parts rest (nat_le (length s.output) OUTPUT_LIMIT) h in
    and_from rest (nat_le (length o) OUTPUT_LIMIT) parts.0 (le-leb (length o) OUTPUT_LIMIT (omega (arith, less, leb-true (length s.output) OUTPUT_LIMIT parts.1)))

texts_fit-released : (o k : ℕ) (s : State) → texts_fit s ≡ true → texts_fit (released o k s) ≡ true
unfolding texts_fit
texts_fit-released o k s h = texts_fit_of_less s (drop o s.output) (omega (arith, length-drop o s.output)) h

pub proper-released : (o k : ℕ) (s : State) → IsProper s → IsProper (released o k s)
proper-released o k s proper = record { texts = texts_fit-released o k s proper.texts; storage = proper.storage }

-- ---- a step forward

-- what is carried out from a state with less output
carried_out-less : (e : Environment) (o : ℕ) (s t : State) → o ≤ length s.output → carried_out e (scan s) ≡ Ok t →
    carried_out e (scan (record s { output = drop o s.output })) ≡ Ok (record t { output = drop o t.output })
carried_out-less e o s t l out =
    let at = seen_as-Ok (changed (λ p. p) (λ x. s.output ++ x)) (carried_out e (scan (silent s))) t (sym (carried_out-silent e s) ∙ out) in
    let less : State = record s { output = drop o s.output } in
    let kept : drop o s.output ++ at.0.output ≡ drop o t.output =
    sym (drop-append-le o s.output at.0.output l) ∙ ap (λ (u : State). drop o u.output) (sym at.2) in
    carried_out-silent e less
    ∙ ap (seen_as (changed (λ p. p) (λ x. drop o s.output ++ x))) at.1
    ∙ ap (λ (x : List ℕ). Ok (record at.0 { output = x })) kept
    ∙ ap (λ (u : State). Ok (record u { output = drop o t.output })) (sym at.2)

-- a step from such a state
step-less : (e : Environment) (o : ℕ) (s t : State) → o ≤ length s.output → step e s ≡ Ok t →
    step e (record s { output = drop o s.output }) ≡ Ok (record t { output = drop o t.output })
unfolding step
step-less e o s t l h =
    let out = limited_Ok texts_fit (carried_out e (scan s)) t h in
    ap (limited texts_fit) (carried_out-less e o s t l out.0)
    ∙ limited_within texts_fit (record t { output = drop o t.output }) (texts_fit_of_less t (drop o t.output) (omega (arith, length-drop o t.output)) out.1)

-- a step from a released state, over the cut tape, is the released step
pub step-released : (e : Environment) (o k : ℕ) (s t : State) → k ≤ s.position → o ≤ length s.output → step e s ≡ Ok t →
    step (cut k e) (released o k s) ≡ Ok (released o k t)
step-released e o k s t read printed h =
    step-cut k e (record s { output = drop o s.output }) read ∙ ap (seen_as (moved_back k)) (step-less e o s t printed h)

-- a refusal for anything but a limit is that of every output
step-other : (e : Environment) (s : State) (o : List ℕ) (refusal : Refusal) → step e s ≡ Err refusal → (refusal ≡ TooLong → ⊥) →
    step e (record s { output = o }) ≡ Err refusal
unfolding step
step-other e s o r h other =
    let limit = limited_Err texts_fit (carried_out e (scan s)) r h in
    let other_state : State = record s { output = o } in
    ap (limited texts_fit) (carried_out-silent e other_state ∙ ap (seen_as (changed (λ p. p) (λ x. o ++ x))) (silently limit))
  where
    silently : (r ≡ TooLong) ⊎ (carried_out e (scan s) ≡ Err r) → carried_out e (scan (silent s)) ≡ Err r
    silently (inl long) = absurd (other long)
    silently (inr out) = seen_as-Err (changed (λ p. p) (λ x. s.output ++ x)) (carried_out e (scan (silent s))) r (sym (carried_out-silent e s) ∙ out)

pub refused-released : (e : Environment) (o k : ℕ) (s : State) (refusal : Refusal) → k ≤ s.position → step e s ≡ Err refusal → (refusal ≡ TooLong → ⊥) →
    step (cut k e) (released o k s) ≡ Err refusal
refused-released e o k s r read h other =
    step-cut k e (record s { output = drop o s.output }) read ∙ ap (seen_as (moved_back k)) (step-other e s (drop o s.output) r h other)

-- ---- a step back

scanning-released : (o k : ℕ) (r : Record) (s t : State) → IsOfScanning r → restored r t ≡ Some s → restored r (released o k t) ≡ Some (released o k s)
scanning-released o k r s t of back =
    let same = stands_there r s t of back in
    restored-elsewhere r t (t.position - k) (drop o t.output) of
    ∙ ap (option_map (elsewhere (t.position - k) (drop o t.output))) back
    ∙ (λ i. Some (record s { position = sym same.0 i - k; output = drop o (sym same.1 i) }))

-- all but the last n bytes of a text, where its front of o bytes is dropped
all_before_last-less : (o n : ℕ) (text : List ℕ) → o + n ≤ length text → all_before_last n (drop o text) ≡ drop o (all_before_last n text)
all_before_last-less o n text fits =
    let count : length text - n ≡ o + (length (drop o text) - n) = omega (arith, length-drop o text, fits) in
    sym (ap (λ (m : ℕ). drop o (take m text)) count ∙ drop-take o (length (drop o text) - n) text)

-- the rest of a released state
abbrev rest_released : ℕ → ℕ → Rest → Rest
rest_released o k rest = record rest { position = rest.position - k; output = drop o rest.output }

rest-released : (o k : ℕ) (call : CallRecord) (rest before : Rest) → k ≤ before.position → o ≤ length before.output → rest_before call rest ≡ Some before →
    rest_before call (rest_released o k rest) ≡ Some (rest_released o k before)
rest-released o k call rest before read_less printed_less back =
    by_test (nat_le call.read rest.position && nat_le call.printed (length rest.output)) refl
  where
    by_test : (b : Bool) → (nat_le call.read rest.position && nat_le call.printed (length rest.output)) ≡ b →
        rest_before call (rest_released o k rest) ≡ Some (rest_released o k before)
    by_test false t = absurd (let none : None ≡ Some before = ap (λ (b : Bool). then_some b (rest_said call rest)) (sym t) ∙ back in cc)
    by_test true t =
        let parts = and_parts (nat_le call.read rest.position) (nat_le call.printed (length rest.output)) t in
        let read = leb-true call.read rest.position parts.0 in
        let printed = leb-true call.printed (length rest.output) parts.1 in
        let known : Some (rest_said call rest) ≡ Some before = ap (λ (b : Bool). then_some b (rest_said call rest)) (sym t) ∙ back in
        let same : rest_said call rest ≡ before = cc in
        let at : k ≤ rest.position - call.read = omega (arith, read_less, ap (λ (r : Rest). r.position) same) in
        let left : length (all_before_last call.printed rest.output) ≡ length rest.output - call.printed =
        omega (arith, length-take (length rest.output - call.printed) rest.output) in
        let front : o + call.printed ≤ length rest.output = omega (arith, printed_less, printed, left, ap (λ (r : Rest). length r.output) same) in
        let reads : nat_le call.read (rest.position - k) ≡ true = le-leb call.read (rest.position - k) (omega (arith, at, read)) in
        let prints : nat_le call.printed (length (drop o rest.output)) ≡ true =
        le-leb call.printed (length (drop o rest.output)) (omega (arith, front, length-drop o rest.output)) in
        let fits = and_from (nat_le call.read (rest.position - k)) (nat_le call.printed (length (drop o rest.output))) reads prints in
        let place : rest.position - k - call.read ≡ rest.position - call.read - k = omega (arith, read, at) in
        let output = all_before_last-less o call.printed rest.output front in
        ap (λ (b : Bool). then_some b (rest_said call (rest_released o k rest))) fits
        ∙ (λ i. let moved : Rest = record (rest_said call rest) { position = place i; output = output i } in Some moved)
        ∙ ap (λ (r : Rest). Some (rest_released o k r)) same

call-released : (o k : ℕ) (call : CallRecord) (s t : State) → k ≤ s.position → o ≤ length s.output → restored (Called call) t ≡ Some s →
    restored (Called call) (released o k t) ≡ Some (released o k s)
call-released o k call s t read printed back =
    let parts = put_together_parts (texts_before call (texts_in t)) (storage_before call.arguments call.undone (storage_of t)) (rest_before call (rest_of t)) s back in
    let rest = rest-released o k call (rest_of t) (rest_of s) read printed parts.2 in
    λ i. put_together (parts.0 i) (parts.1 i) (rest i)

restored-released : (o k : ℕ) (r : Record) (s t : State) → k ≤ s.position → o ≤ length s.output → restored r t ≡ Some s →
    restored r (released o k t) ≡ Some (released o k s)
restored-released o k (Called call) s t read printed back = call-released o k call s t read printed back
restored-released o k other s t read printed back = scanning-released o k other s t tt back

-- the state before a released state is the released state before
pub before-released : (o k : ℕ) (r : Record) (s t : State) → k ≤ s.position → o ≤ length s.output → state_before r t ≡ Some s →
    state_before r (released o k t) ≡ Some (released o k s)
before-released o k r s t read printed back =
    let parts = restored_of_before r s t back in
    before_of_restored r (released o k s) (released o k t) (proper-released o k s parts.1) (restored-released o k r s t read printed parts.0)

-- ---- what a step keeps

by_frames : (P : List Frame → Type 0) → P [] → ((f : Frame) (fs : List Frame) → P (f ∷ fs)) → (frames : List Frame) → P frames
by_frames P none some [] = none
by_frames P none some (f ∷ fs) = some f fs

recorded_at-released : (at : Front) (o k : ℕ) (s : State) → recorded_at at (released o k s) ≡ recorded_at at s
recorded_at-released front.Comma o k s = by_frames (λ frames. comma_recorded frames (released o k s) ≡ comma_recorded frames s) refl (λ f fs. refl) s.frames
recorded_at-released other o k s = refl

pub step_weight-released : (o k : ℕ) (s : State) → step_weight (released o k s) ≡ step_weight s
step_weight-released o k s =
    ap (step_weight_in (released o k s)) (scan-changed (λ p. p - k) (λ x. drop o x) s) ∙ go (scan s)
  where
    go : (x : Scanned) → step_weight_in (released o k s) (scanned_as (changed (λ p. p - k) (λ x. drop o x)) x) ≡ step_weight_in s x
    go (Moves t) = ap weight (recorded_at-released (front_of s.active) o k s)
    go (Calls call) = refl

pub loss-released : (o k : ℕ) (s : State) → loss (released o k s) ≡ loss s
loss-released o k s = go (front_of s.active)
  where
    go : (at : Front) → loss_at at (released o k s) ≡ loss_at at s
    go front.Closing = by_frames (λ frames. closing_loss frames (released o k s) ≡ closing_loss frames s) refl (λ f fs. refl) s.frames
    go other = refl

-- ---- a commit

pub step_prints_more : (e : Environment) (s t : State) → step e s ≡ Ok t → IsFrontOf s.output t.output
step_prints_more e s t taken =
    let at = step-silent_Ok e s t taken in
    (at.0.output, ap (λ (u : State). u.output) at.2)

pub one_state_more : (keep : ℕ) (p q : PlainSession) → length p.earlier ≤ keep → answer Step p ≡ done q → length q.earlier ≤ keep + 1
one_state_more keep p q few taken = omega (arith, few, ap (λ (s : PlainSession). length s.earlier) (Step_done p q taken).2)

pub length-committed : (keep : ℕ) (p : PlainSession) → length (committed keep p).earlier ≡ min keep (length p.earlier)
length-committed keep p =
    length-map (take keep p.earlier) (released_by (first_kept keep p)) ∙ length-take keep p.earlier

pub first_of-map : (f : State → State) (s : State) (earlier : List State) → first_of (f s) (map f earlier) ≡ f (first_of s earlier)
first_of-map f s [] = refl
first_of-map f s (t ∷ earlier) = first_of-map f t earlier

pub first-committed : (keep : ℕ) (p : PlainSession) → first_of (committed keep p).last (committed keep p).earlier ≡ settled (first_kept keep p)
first-committed keep p = first_of-map (released_by (first_kept keep p)) p.last (take keep p.earlier)

-- a state without output, at the start of the tape, is released of nothing
released_of_nothing : (o k : ℕ) (s : State) → o ≡ 0 → k ≡ 0 → released o k s ≡ s
released_of_nothing o k s none start =
    let same : s.position - k ≡ s.position = omega (arith, start) in
    λ i. record s { output = drop (none i) s.output; position = same i }

map_of_nothing : (o k : ℕ) (states : List State) → o ≡ 0 → k ≡ 0 → map (released o k) states ≡ states
map_of_nothing o k [] none start = refl
map_of_nothing o k (s ∷ states) none start = λ i. released_of_nothing o k s none start i ∷ map_of_nothing o k states none start i

-- where all states stay, and the first of them has no output and stands at the start, nothing changes
pub committed_all : (keep : ℕ) (p : PlainSession) → length p.earlier ≤ keep → (first_of p.last p.earlier).output ≡ [] → (first_of p.last p.earlier).position ≡ 0 →
    committed keep p ≡ p
committed_all keep p all none start =
    let whole : take keep p.earlier ≡ p.earlier = take_all keep p.earlier all in
    let first : first_kept keep p ≡ first_of p.last p.earlier = ap (first_of p.last) whole in
    let o : length (first_kept keep p).output ≡ 0 = ap (λ (s : State). length s.output) first ∙ ap length none in
    let k : (first_kept keep p).position ≡ 0 = ap (λ (s : State). s.position) first ∙ start in
    let states = map_of_nothing (length (first_kept keep p).output) (first_kept keep p).position (take keep p.earlier) o k ∙ whole in
    let last = released_of_nothing (length (first_kept keep p).output) (first_kept keep p).position p.last o k in
    λ i. record p { tape = record p.tape { bytes = drop (k i) p.tape.bytes }; earlier = states i; last = last i }
