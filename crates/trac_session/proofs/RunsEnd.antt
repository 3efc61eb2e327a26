-- Where a run of moved bytes ends: a record of another kind is that of a step that moved no byte.
use Rattle.std.proofs.Common.{◌≡◌, ℕ, ◌<◌, Bool, true, false, List, [], ◌∷◌, ◌++◌, length, refl, sym, ap, subst, ◌∙◌, arith}
use Rattle.std.specs.Prelude.{Option, None, Some, codes, if◌then◌else◌, option_map, option_and_then, ◌==◌, ◌&&◌}
use Rattle.std.specs.Bool.{then_some}
use Rattle.trac_rules.specs.declared.kind.Kind.{Kind}
use Rattle.trac_rules.specs.declared.kind.Kind.TheVariants.{Active, Neutral}
use Rattle.trac_rules.specs.declared.scan.Front.{Front}
use Rattle.trac_rules.specs.declared.scan.Front.TheVariants as front
use Rattle.trac_rules.specs.Performing.{beginning_of}
use Rattle.trac_rules.specs.Records.{CallRecord, Record, Moved, Comma, Begun, Quoted, Deleted, Idle, Called, Rest, Texts, begun_again, comma_recorded, ending_of, frame_of, gathered_again_in, is_idle, moved_back, not_begun_in, put_before, put_together, recorded, recorded_at, rest_before, rest_of, restored, restored_call, state_before, texts_before, texts_in, value_taken}
use Rattle.trac_rules.specs.Scanning.{front_of, scan, scan_at}
use Rattle.trac_rules.specs.State.{Frame, State, Storage, storage_of}
use Rattle.trac_rules.specs.Undone.{storage_before}
use Rattle.trac_rules.specs.Weights.{step_weight, step_weight_in, weight}
use Rattle.trac_rules.proofs.Restored.{restored_of_before}
use Rattle.trac_journal.specs.Told.{IsMovedFirst}
use Rattle.trac_session.specs.Journal.{earlier_of, AreRecords, IsOfStep}
use Rattle.trac_session.specs.Runs.{HasNotMovedLast}
use Rattle.trac_session.proofs.Journaled.{led_on-Some}

-- ---- the step that moves a byte

-- a byte is moved at these fronts
abbrev MovesAt : Front → Type 0
MovesAt front.Sharp = Unit {0}
MovesAt front.Plain = Unit {0}
MovesAt other = ⊥

-- and at no others
moves_at : (at : Front) (s : State) → recorded_at at s ≡ Moved → MovesAt at
moves_at front.Sharp s moved = tt
moves_at front.Plain s moved = tt
moves_at front.Comma s moved = absurd (no_comma s.frames moved)
  where
    no_comma : (frames : List Frame) → comma_recorded frames s ≡ Moved → ⊥
    no_comma [] e = absurd (cc)
    no_comma (f ∷ fs) e = absurd (cc)
moves_at other s moved = absurd (cc)

-- which weighs nothing
moved_weighs_at : (at : Front) (s : State) → MovesAt at → step_weight_in s (scan_at at s) ≡ weight (recorded s)
moved_weighs_at front.Sharp s moves = refl
moved_weighs_at front.Plain s moves = refl
moved_weighs_at other s moves = absurd moves

moved_weighs : (s : State) → recorded s ≡ Moved → step_weight s ≡ 0
unfolding scan
moved_weighs s moved = moved_weighs_at (front_of s.active) s (moves_at (front_of s.active) s moved) ∙ ap weight moved

-- ---- what other records say

-- no byte is moved at a state, where there is one
abbrev MovesNone : Option State → Type 0
MovesNone None = Unit {0}
MovesNone (Some s) = MovesAt (front_of s.active) → ⊥

no_comma_moves : (frames : List Frame) (t : State) → MovesNone (gathered_again_in frames t)
no_comma_moves [] t = tt
no_comma_moves (f ∷ fs) t = by_parts (length f.gathered == 0) (frame_of f.kind f.arguments)
  where
    by_parts : (b : Bool) (g : Option Frame) →
        MovesNone (if b then option_map (λ (h : Frame). put_before (codes ",") (record t { frames = h ∷ fs })) g else None)
    by_parts true None = tt
    by_parts true (Some g) = λ moves. moves
    by_parts false g = tt

no_beginning_moves : (frames : List Frame) (t : State) → MovesNone (not_begun_in frames t)
no_beginning_moves [] t = tt
no_beginning_moves (f ∷ fs) t = by_kind (length f.arguments == 0 && length f.gathered == 0) f.kind
  where
    by_kind : (b : Bool) (kind : Kind) → MovesNone (then_some b (put_before (beginning_of kind) (record t { frames = fs })))
    by_kind true Active = λ moves. moves
    by_kind true Neutral = λ moves. moves
    by_kind false kind = tt

no_protected_moves : (before : Option State) → MovesNone (option_map (put_before (codes "(")) before)
no_protected_moves None = tt
no_protected_moves (Some s) = λ moves. moves

no_idle_moves : (b : Bool) (base : List ℕ) (frames : List Frame) (t : State) → MovesNone (then_some b (record t { active = []; base = base; frames = frames }))
no_idle_moves true base frames t = λ moves. moves
no_idle_moves false base frames t = tt

-- at the texts before a call
abbrev TextsMoveNone : Option Texts → Type 0
TextsMoveNone None = Unit {0}
TextsMoveNone (Some texts) = MovesAt (front_of texts.active) → ⊥

no_call_moves : (call : CallRecord) (t : State) → MovesNone (restored_call call t)
no_call_moves call t =
    together (texts_before call (texts_in t)) (storage_before call.arguments call.undone (storage_of t)) (rest_before call (rest_of t))
    (by_value (value_taken call.scanned call.value (texts_in t)))
  where
    by_frame : (texts : Texts) (f : Option Frame) → TextsMoveNone (option_map (λ (g : Frame). record texts { active = codes ")" ++ texts.active; frames = g ∷ texts.frames }) f)
    by_frame texts None = tt
    by_frame texts (Some f) = λ moves. moves

    by_value : (taken : Option Texts) → TextsMoveNone (option_and_then (begun_again call.kind call.arguments) taken)
    by_value None = tt
    by_value (Some texts) = by_frame texts (frame_of call.kind call.arguments)

    together : (texts : Option Texts) (storage : Option Storage) (rest : Option Rest) → TextsMoveNone texts → MovesNone (put_together texts storage rest)
    together (Some texts) (Some storage) (Some rest) none = none
    together texts storage rest none = tt

-- ---- the end of a run

-- where no byte is moved at what a record says, it is that of another step
says_no_move : (r : Record) (s t : State) → IsOfStep r s t → MovesNone (restored r t) → recorded s ≡ Moved → ⊥
says_no_move r s t of none moved = subst MovesNone (restored_of_before r s t of.says).0 none (moves_at (front_of s.active) s moved)

-- so it is of each record of another kind; a deleted byte weighs one
of_no_move : (r : Record) (older : List Record) (s t : State) → IsOfStep r s t → (IsMovedFirst (r ∷ older) → ⊥) → recorded s ≡ Moved → ⊥
of_no_move Moved older s t of other moved = other tt
of_no_move Comma older s t of other moved = says_no_move Comma s t of (no_comma_moves t.frames t) moved
of_no_move Begun older s t of other moved = says_no_move Begun s t of (no_beginning_moves t.frames t) moved
of_no_move (Quoted inner closed) older s t of other moved =
    says_no_move (Quoted inner closed) s t of (no_protected_moves (moved_back inner (put_before (ending_of closed) t))) moved
of_no_move (Deleted b) older s t of other moved = absurd (omega (arith, of.weighs, moved_weighs s moved))
of_no_move (Idle base frames) older s t of other moved = says_no_move (Idle base frames) s t of (no_idle_moves (is_idle t) base frames t) moved
of_no_move (Called call) older s t of other moved = says_no_move (Called call) s t of (no_call_moves call t) moved

-- and where the newest record is not of a moved byte, the last step moved none
pub run_ends : (Holds : State → Type 0) (records : List Record) (t : State) → AreRecords Holds records t → (IsMovedFirst records → ⊥) →
    HasNotMovedLast (earlier_of records t)
run_ends Holds [] t all other = tt
run_ends Holds (r ∷ records) t all other =
    subst HasNotMovedLast (sym (led_on-Some (state_before r t) all.0 (λ u. earlier_of records u) all.1.says))
    (λ moved. of_no_move r records all.0 t all.1 other moved)

-- there is a record where the newest is of a moved byte
pub some_moved : (records : List Record) → IsMovedFirst records → 0 < length records
some_moved [] first = absurd first
some_moved (r ∷ records) first = omega arith
