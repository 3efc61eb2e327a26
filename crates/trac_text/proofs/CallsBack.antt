-- Going back over a call: the lists before it, and that they hold the texts that its record restores.
use Rattle.std.proofs.Common.{◌≡◌, ℕ, ◌+◌, ◌≤◌, Bool, true, false, List, [], ◌∷◌, ◌++◌, length, map, drop, refl, sym, ap, ◌∙◌, subst, arith}
use Rattle.std.specs.Prelude.{Option, Some, None, IsSome, IsSomeAnd, codes, nat_le, option_map, option_and_then}
use Rattle.std.specs.Bool.{then_some}
use Rattle.std.proofs.lemmas.Bool.{leb-true}
use Rattle.trac_gap.specs.Ends.{Ends, item_count}
use Rattle.trac_rules.specs.declared.kind.Kind.{Kind}
use Rattle.trac_rules.specs.Records.{Texts, all_before_last, begun_again, end_taken_in, last_of, moved_back_in, put_before, texts_in, value_taken}
use Rattle.trac_rules.specs.State.{Frame, State}
use Rattle.trac_rules.proofs.Restored.{frame_of-last}
use Rattle.trac_text.specs.declared.mark.Mark.{Mark}
use Rattle.trac_text.specs.Framing.{marked_in}
use Rattle.trac_text.specs.Holding.{CanHold, ShownTexts, alone, texts_held}
use Rattle.trac_text.specs.Marks.{function_marks}
use Rattle.trac_text.specs.MovingBack.{HasValue, before_call, with_last_before, without_value}
use Rattle.trac_text.specs.Neutral.{IsOrdered, Neutral}
use Rattle.trac_text.specs.Pieces.{Arguments, all_texts, frame_in}
use Rattle.trac_text.proofs.Holding.{AreNow, Hold, byte_count, depth_now, held_as, mark_count, neutral_in}
use Rattle.trac_text.proofs.Neutral.{frames_counted}
use Rattle.trac_text.proofs.NeutralAgain.{shows_function}
use Rattle.trac_text.proofs.ScanningBack.{is_moved_back, then_is}

-- ---- the value is taken off

-- so many bytes of a value are there, and without them the lists hold these texts
pub record IsValueTaken (scanned : Bool) (n : ℕ) (text : Ends ℕ) (ms : Ends Mark) (t : Texts) : Type 0 where
  there : HasValue scanned n text
  held : Hold (without_value scanned n text) ms t

-- what is off the end of the current text would go back before the active text
record IsEndTaken (frames : List Frame) (n : ℕ) (s : State) (texts : Texts) : Type 0 where
  active : texts.active ≡ s.active
  before : List ℕ
  moved : moved_back_in frames n s ≡ Some (record s { active = before; base = texts.base; frames = texts.frames })

end_taken : (frames : List Frame) (n : ℕ) (s : State) (texts : Texts) → end_taken_in frames n (texts_in s) ≡ Some texts → IsEndTaken frames n s texts
end_taken [] n s texts h =
    let is = then_is (nat_le n (length s.base)) (record (texts_in s) { base = all_before_last n s.base }) texts h in
    record {
      active = ap (λ (t : Texts). t.active) (sym is.1);
      before = last_of n s.base ++ s.active;
      moved =
          ap (λ (b : Bool). then_some b (put_before (last_of n s.base) (record s { base = all_before_last n s.base }))) is.0
          ∙ ap (λ (t : Texts). let u : State = record s { active = last_of n s.base ++ s.active; base = t.base; frames = t.frames } in Some u) is.1;
    }
end_taken (f ∷ fs) n s texts h =
    let is = then_is (nat_le n (length f.gathered)) (record (texts_in s) { frames = record f { gathered = all_before_last n f.gathered } ∷ fs }) texts h in
    record {
      active = ap (λ (t : Texts). t.active) (sym is.1);
      before = last_of n f.gathered ++ s.active;
      moved =
          ap (λ (b : Bool). then_some b (put_before (last_of n f.gathered) (record s { frames = record f { gathered = all_before_last n f.gathered } ∷ fs }))) is.0
          ∙ ap (λ (t : Texts). let u : State = record s { active = last_of n f.gathered ++ s.active; base = t.base; frames = t.frames } in Some u) is.1;
    }

is_value_taken : (scanned : Bool) (n : ℕ) (text : Ends ℕ) (ms : Ends Mark) (t : Texts) → IsOrdered (marked_in text ms) → ms.right ≡ [] → value_taken scanned n (texts_held text ms) ≡ Some t → IsValueTaken scanned n text ms t
is_value_taken true n text ms t ordered on_left h =
    let is = then_is (nat_le n (length text.right)) (record (texts_held text ms) { active = drop n text.right }) t h in
    record {
      there = leb-true n (length text.right) is.0;
      held = record { active = ap (λ (u : Texts). u.active) is.1; neutral = record { same = ap neutral_in is.1; ordered = ordered }; on_left = on_left };
    }
is_value_taken false n text ms t ordered on_left h =
    let s = alone (texts_held text ms) in
    let is = end_taken s.frames n s t h in
    let moved = is_moved_back n text ms ordered on_left (subst IsSome (sym is.moved) refl) in
    let both : Some (alone (texts_held (with_last_before n text) ms)) ≡ Some (record s { active = is.before; base = t.base; frames = t.frames }) = sym moved.state ∙ is.moved in
    let same : alone (texts_held (with_last_before n text) ms) ≡ record s { active = is.before; base = t.base; frames = t.frames } = cc in
    record {
      there = moved.within;
      held = record { active = sym is.active; neutral = record { same = ap (λ (u : State). neutral_in (texts_in u)) same; ordered = moved.ordered }; on_left = on_left };
    }

-- ---- the function is begun again

-- texts with this function begun, and its `)` before the active text
abbrev pub with_function : Kind → Arguments → Texts → Texts
with_function kind a t = record t { active = codes ")" ++ t.active; frames = frame_in (kind, a) ∷ t.frames }

pub begins_again : (kind : Kind) (a : Arguments) (t : Texts) → begun_again kind (all_texts a) t ≡ Some (with_function kind a t)
begins_again kind a t =
    ap (option_map (λ (f : Frame). let u : Texts = record t { active = codes ")" ++ t.active; frames = f ∷ t.frames } in u)) (frame_of-last (frame_in (kind, a)))

-- the texts before a call
abbrev pub texts_again : Kind → Arguments → Bool → ℕ → Texts → Option Texts
texts_again kind a scanned n t = option_and_then (begun_again kind (all_texts a)) (value_taken scanned n t)

-- the value is off, and then the function is begun again
pub record AreBack (kind : Kind) (a : Arguments) (scanned : Bool) (n : ℕ) (text : Ends ℕ) (ms : Ends Mark) (m : ShownTexts) : Type 0 where
  pub without : Texts
  taken : IsValueTaken scanned n text ms without
  is : texts_again kind a scanned n (texts_held text ms) ≡ Some (with_function kind a without)
  can : CanHold m (with_function kind a without)

are_back : (kind : Kind) (a : Arguments) (scanned : Bool) (n : ℕ) (text : Ends ℕ) (ms : Ends Mark) (m : ShownTexts) → IsOrdered (marked_in text ms) → ms.right ≡ [] →
    IsSomeAnd (texts_again kind a scanned n (texts_held text ms)) (λ t. CanHold m t) → AreBack kind a scanned n text ms m
are_back kind a scanned n text ms m ordered on_left h = by_taken (value_taken scanned n (texts_held text ms)) refl h
  where
    by_taken : (o : Option Texts) → value_taken scanned n (texts_held text ms) ≡ o → IsSomeAnd (option_and_then (begun_again kind (all_texts a)) o) (λ t. CanHold m t) → AreBack kind a scanned n text ms m
    by_taken None is h = absurd h
    by_taken (Some u) is h = record {
      without = u;
      taken = is_value_taken scanned n text ms u ordered on_left is;
      is = ap (option_and_then (begun_again kind (all_texts a))) is ∙ begins_again kind a u;
      can = subst (λ (o : Option Texts). IsSomeAnd o (λ t. CanHold m t)) (begins_again kind a u) h;
    }

value_capacity : (scanned : Bool) (n : ℕ) (e : Ends ℕ) → (without_value scanned n e).capacity ≡ e.capacity
value_capacity true n e = refl
value_capacity false n e = refl

module _ {functions : ℕ} {text : Ends ℕ} {ms : Ends Mark} {m : ShownTexts} (now : AreNow functions text ms m) (kind : Kind) (a : Arguments) (scanned : Bool) (n : ℕ)
    (h : IsSomeAnd (texts_again kind a scanned n m.texts) (λ t. CanHold m t)) where
  texts_are : texts_held text ms ≡ m.texts
  texts_are = ap (λ (x : ShownTexts). x.texts) now.view

  pub back : AreBack kind a scanned n text ms m
  back = are_back kind a scanned n text ms m now.sound.ordered now.sound.on_left (subst (λ (t : Texts). IsSomeAnd (texts_again kind a scanned n t) (λ u. CanHold m u)) (sym texts_are) h)

  pub has_value : HasValue scanned n text
  has_value = back.taken.there

  abbrev there : Texts
  there = with_function kind a back.without

  -- the marks with those of the function
  abbrev marks_again : Ends Mark
  marks_again = record ms { left = ms.left ++ function_marks (length (without_value scanned n text).left) kind (map length a.finished) }

  holds_again : {next : Ends ℕ} {ns : Ends Mark} → next ≡ before_call scanned n (all_texts a) text → ns ≡ marks_again → Hold next ns there
  holds_again {next} {ns} text_is marks_are =
      let held = back.taken.held in
      let shows = shows_function (without_value scanned n text).left ms.left (neutral_in back.without) kind a held.neutral in
      record {
        active = ap (λ (e : Ends ℕ). e.right) text_is ∙ ap (λ (active : List ℕ). codes ")" ++ active) held.active;
        neutral = rw (text_is, marks_are) shows;
        on_left = ap (λ (e : Ends Mark). e.right) marks_are ∙ now.sound.on_left;
      }

  -- lists with room for the texts before the call
  example : Hold (before_call scanned n (all_texts a) text) marks_again there
  example = holds_again refl refl

  pub text_room : item_count (before_call scanned n (all_texts a) text) ≤ text.capacity
  text_room = omega (arith, byte_count example, back.can.text_room, ap (λ (x : ShownTexts). x.text_room) now.view)

  pub mark_room : item_count ms + 1 + length a.finished ≤ ms.capacity
  mark_room = omega (arith, ap (λ (xs : List Mark). length xs) now.sound.on_left, mark_count back.taken.held, back.can.mark_room, ap (λ (x : ShownTexts). x.mark_room) now.view)

  pub called_now : {next : Ends ℕ} {ns : Ends Mark} → next ≡ before_call scanned n (all_texts a) text → ns ≡ marks_again →
      AreNow (functions + 1) next ns (record m { texts = there })
  called_now {next} {ns} text_is marks_are =
      let same_depth : functions + 1 ≡ length there.frames = omega (arith, counted) in
      held_as now (holds_again text_is marks_are) same_depth (ap (λ (e : Ends ℕ). e.capacity) text_is ∙ value_capacity scanned n text) (ap (λ (e : Ends Mark). e.capacity) marks_are) back.can
    where
      counted : functions ≡ length back.without.frames
      counted =
          depth_now now ∙ sym (ap (λ (t : Texts). length t.frames) texts_are) ∙ sym (frames_counted (marked_in text ms)) ∙ frames_counted (marked_in (without_value scanned n text) ms)
          ∙ ap (λ (x : Neutral). length x.frames) back.taken.held.neutral.same

  pub back_is : (new : ShownTexts) → new ≡ record m { texts = there } → (texts_again kind a scanned n m.texts ≡ Some new.texts) × (new ≡ record m { texts = new.texts })
  back_is new view = (
    ap (texts_again kind a scanned n) (sym texts_are) ∙ back.is ∙ ap (λ (x : ShownTexts). Some x.texts) (sym view),
    subst (λ (x : ShownTexts). x ≡ record m { texts = x.texts }) (sym view) refl,
  )
