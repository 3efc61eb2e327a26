-- The room of a machine, which holds its own state.
use Rattle.std.proofs.Common.{◌≡◌, ℕ, ◌+◌, ◌≤◌, List, [], ◌∷◌, length, take, drop, refl, sym, ap, ◌∙◌, arith}
use Rattle.std.proofs.lemmas.List.{length-append, take-append-drop}
use Rattle.std.proofs.lemmas.Result.{on_ok_weaker}
use Rattle.std.specs.Prelude.{OnOk, Result}
use Rattle.trac_rules.specs.declared.refusal.Refusal.{Refusal}
use Rattle.trac_rules.specs.PlainRuns.{moved_on}
use Rattle.trac_rules.specs.Scanning.{gathered_in}
use Rattle.trac_rules.specs.State.{Frame, State}
use Rattle.trac_step.specs.Layout.{Shown}
use Rattle.trac_step.specs.Room.{HasRoom, IsNoLess}

-- ---- no less room

pub no_less : (m : Shown) → IsNoLess m m
no_less m = record { width = refl; text = omega arith; marks = omega arith; output = omega arith; names = λ name h. h; recent = λ name h. h }

-- another state with the same rooms and names
pub no_less_state : (m : Shown) (s : State) → IsNoLess m (record m { state = s })
no_less_state m s = record { width = refl; text = omega arith; marks = omega arith; output = omega arith; names = λ name h. h; recent = λ name h. h }

pub no_less_then : (m n k : Shown) → IsNoLess m n → IsNoLess n k → IsNoLess m k
no_less_then m n k first second = record {
  width = second.width ∙ first.width;
  text = omega (arith, first.text, second.text);
  marks = omega (arith, first.marks, second.marks);
  output = omega (arith, first.output, second.output);
  names = λ name h. second.names name (first.names name h);
  recent = λ name h. second.recent name (first.recent name h);
}

-- rooms that are no less hold what the earlier ones held
pub HasRoom-kept : (m n : Shown) (s : State) → IsNoLess m n → HasRoom m s → HasRoom n s
HasRoom-kept m n s more room = record {
  text = omega (arith, more.text, room.text);
  marks = omega (arith, more.marks, room.marks);
  output = omega (arith, more.output, room.output);
  names = λ name h. more.names name (room.names name h);
}

pub held_after : {R : Type 0} (r : Result R Refusal) (Q : Type 0) (m n : Shown) (s : State) → IsNoLess m n → HasRoom m s → OnOk r Q → OnOk r (HasRoom n s)
held_after r Q m n s more room h = on_ok_weaker r (λ _. HasRoom-kept m n s more room) h

-- where the active text begins with so many bytes, what holds a state holds it with these bytes at the end of the current text
pub HasRoom-moved_on : (m : Shown) (s : State) (n : ℕ) → n ≤ length s.active → HasRoom m s → HasRoom m (moved_on n s)
HasRoom-moved_on m s n within room = by_frames s.frames room
  where
    kept : length (take n s.active) + length (drop n s.active) ≡ length s.active
    kept = sym (length-append (take n s.active) (drop n s.active)) ∙ ap (λ (text : List ℕ). length text) (take-append-drop n s.active)

    by_frames : (fs : List Frame) → HasRoom m (record s { frames = fs }) → HasRoom m (gathered_in fs (take n s.active) (record s { active = drop n s.active; frames = fs }))
    by_frames [] r = record { text = omega (arith, r.text, kept, length-append s.base (take n s.active)); marks = r.marks; output = r.output; names = r.names }
    by_frames (f ∷ fs) r = record { text = omega (arith, r.text, kept, length-append f.gathered (take n s.active)); marks = r.marks; output = r.output; names = r.names }
