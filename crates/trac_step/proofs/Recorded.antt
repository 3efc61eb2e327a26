-- What a step of scanning keeps, and when it lacks room.
use Rattle.std.proofs.Common.{◌≡◌, ◌+◌, ◌<◌, ◌≤◌, List, [], ◌∷◌, length, refl, sym, ap, subst, ◌∙◌, arith}
use Rattle.std.proofs.lemmas.List.{length-append}
use Rattle.std.proofs.lemmas.Result.{on_ok_weaker}
use Rattle.std.specs.Prelude.{Some, Result, Ok, Err, IfOk, OnOk}
use Rattle.trac_rules.specs.declared.refusal.Refusal.{Refusal}
use Rattle.trac_rules.specs.declared.scan.Front.{Front}
use Rattle.trac_rules.specs.declared.scan.Front.TheVariants as front
use Rattle.trac_rules.specs.Limits.{marks}
use Rattle.trac_rules.specs.Records.{CallRecord, Record, Called, record_in, record_of, recorded, recorded_at, rest_before, rest_of, state_before, texts_before, texts_in}
use Rattle.trac_rules.specs.Scanning.{Scanned, Calls, Moves, closing_in, comma_in, deleted, front_of, scan}
use Rattle.trac_rules.specs.State.{Environment, Frame, State, storage_of}
use Rattle.trac_rules.specs.Stepping.{step}
use Rattle.trac_rules.specs.Proper.{IsProper}
use Rattle.trac_rules.specs.Undone.{storage_before}
use Rattle.trac_rules.specs.Weights.{loss, weight}
use Rattle.trac_rules.proofs.CallsBack.{record_leads_back, record_restores}
use Rattle.trac_rules.proofs.CallsWeighed.{record_within}
use Rattle.trac_rules.proofs.FurtherOn.{put_together_parts}
use Rattle.trac_rules.proofs.ProperStates.{step_proper}
use Rattle.trac_step.specs.Calling.{IfMoves, IsMove}
use Rattle.trac_step.specs.Layout.{Shown}
use Rattle.trac_step.specs.Room.{HasRoom, LacksRoomAhead}
use Rattle.trac_step.proofs.Scans.{scan_front}

-- ---- records

-- the record is that of the front
pub recorded_front : (s : State) (at : Front) → front_of s.active ≡ at → recorded s ≡ recorded_at at s
recorded_front s at is = ap (λ (f : Front). recorded_at f s) is

-- the record of a rule that moves on is that of the rules
pub move_recorded : (e : Environment) (s : State) → IsMove (scan s) → record_of e s ≡ Some (recorded s)
move_recorded e s moves = by_scanned (scan s) moves
  where
    by_scanned : (x : Scanned) → IsMove x → record_in e s x ≡ Some (recorded s)
    by_scanned (Moves t) h = refl
    by_scanned (Calls call) h = absurd h

-- an accepted step whose record is that of the rules: its record and the state after it give back the state before
pub taken_and_before : {R : Type 0} (r : Result R Refusal) (read : R → Record) (e : Environment) (s t : State) → IsProper s → OnOk r (step e s ≡ Ok t) → IfOk r (λ x. record_of e s ≡ Some (read x)) →
    IfOk r (λ x. (step e s ≡ Ok t) × (state_before (read x) t ≡ Some s))
taken_and_before (Ok x) read e s t proper taken is = (taken, record_leads_back e s t (read x) proper taken is)
taken_and_before (Err refusal) read e s t proper taken is = tt

-- the state after it is proper
pub proper_after : {R : Type 0} (r : Result R Refusal) (e : Environment) (s t : State) → IsProper s → OnOk r (step e s ≡ Ok t) → OnOk r (IsProper t)
proper_after r e s t proper taken = on_ok_weaker r (λ h. step_proper e s t proper h) taken

-- it weighs no more than the step may lose
pub weighs_within : {R : Type 0} (r : Result R Refusal) (read : R → Record) (e : Environment) (s : State) → IfOk r (λ x. record_of e s ≡ Some (read x)) → IfOk r (λ x. weight (read x) ≤ loss s)
weighs_within (Ok x) read e s is = record_within e s (read x) is
weighs_within (Err refusal) read e s is = tt

-- ---- the three parts of the state before a call

abbrev pub AreBack : CallRecord → State → State → Type 0
AreBack c s t =
    (texts_before c (texts_in t) ≡ Some (texts_in s)) × (storage_before c.arguments c.undone (storage_of t) ≡ Some (storage_of s)) × (rest_before c (rest_of t) ≡ Some (rest_of s))

-- where a call was performed, each is got back from its record and the state after
pub call_parts : (e : Environment) (s t : State) (r : Record) (c : CallRecord) → step e s ≡ Ok t → record_of e s ≡ Some r → r ≡ Called c → AreBack c s t
call_parts e s t r c taken is called =
    put_together_parts (texts_before c (texts_in t)) (storage_before c.arguments c.undone (storage_of t)) (rest_before c (rest_of t)) s
    (record_restores e s t (Called c) taken (is ∙ ap Some called))

module _ {R : Type 0} (read : R → Record) (e : Environment) (s t : State) where
  pub texts_are_back : (r : Result R Refusal) → OnOk r (step e s ≡ Ok t) → IfOk r (λ x. record_of e s ≡ Some (read x)) →
      IfOk r (λ x. (c : CallRecord) → read x ≡ Called c → texts_before c (texts_in t) ≡ Some (texts_in s))
  texts_are_back (Ok x) taken is = λ c called. (call_parts e s t (read x) c taken is called).0
  texts_are_back (Err refusal) taken is = tt

  pub storage_is_back : (r : Result R Refusal) → OnOk r (step e s ≡ Ok t) → IfOk r (λ x. record_of e s ≡ Some (read x)) →
      IfOk r (λ x. (c : CallRecord) → read x ≡ Called c → storage_before c.arguments c.undone (storage_of t) ≡ Some (storage_of s))
  storage_is_back (Ok x) taken is = λ c called. (call_parts e s t (read x) c taken is called).1
  storage_is_back (Err refusal) taken is = tt

  pub rest_is_back : (r : Result R Refusal) → OnOk r (step e s ≡ Ok t) → IfOk r (λ x. record_of e s ≡ Some (read x)) →
      IfOk r (λ x. (c : CallRecord) → read x ≡ Called c → rest_before c (rest_of t) ≡ Some (rest_of s))
  rest_is_back (Ok x) taken is = λ c called. (call_parts e s t (read x) c taken is called).2
  rest_is_back (Err refusal) taken is = tt

-- ---- room

-- there is no room where a mark is added and all places are taken
pub lacks_a_mark : (m : Shown) (t : State) → m.mark_room ≤ marks m.state.frames → marks t.frames ≡ marks m.state.frames + 1 → scan m.state ≡ Moves t → LacksRoomAhead m
lacks_a_mark m t full more moves other =
    subst (λ x. IfMoves x (λ u. HasRoom m u → ⊥)) (sym moves) (λ room. absurd (omega (arith, full, more, room.marks)))

-- a further argument is one mark more
pub argument_marks : (fs : List Frame) (s : State) → 0 < length fs → marks (comma_in fs s).frames ≡ marks fs + 1
argument_marks [] s h = absurd (omega arith)
argument_marks (f ∷ fs) s h = omega (arith, length-append f.arguments (f.gathered ∷ []))

-- a call is no step of scanning
pub call_lacks_nothing : (m : Shown) → front_of m.state.active ≡ front.Closing → 0 < length m.state.frames → LacksRoomAhead m
call_lacks_nothing m is inside other =
    subst (λ x. IfMoves x (λ u. HasRoom m u → ⊥)) (sym (scan_front m.state front.Closing is)) (by_frames m.state.frames inside)
  where
    by_frames : (fs : List Frame) → 0 < length fs → IfMoves (closing_in fs (deleted 1 m.state)) (λ u. HasRoom m u → ⊥)
    by_frames [] h = absurd (omega arith)
    by_frames (f ∷ fs) h = tt
