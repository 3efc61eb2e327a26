-- Going back over a step of scanning: the lists before it, and that they hold the texts that its record restores.
use Rattle.std.proofs.Common.{◌≡◌, ℕ, suc, ◌+◌, ◌-◌, ◌<◌, ◌≤◌, Bool, true, false, List, [], ◌∷◌, ◌++◌, length, take, drop, reverse, refl, sym, ap, ◌∙◌, subst, arith}
use Rattle.std.specs.Prelude.{Option, Some, None, IsSome, codes, if◌then◌else◌, option_map, ◌==◌, ◌&&◌}
use Rattle.std.specs.Bool.{then_some}
use Rattle.std.proofs.lemmas.Bool.{eqb-true, leb-true, ne_eqb}
use Rattle.std.proofs.lemmas.List.{length-append, length-drop, length-take-le, reverse-append, reverse-reverse, take-append-drop, take_all, take_at}
use Rattle.trac_gap.specs.Ends.{Ends, item_count}
use Rattle.trac_rules.specs.declared.kind.Kind.{Kind}
use Rattle.trac_rules.specs.Limits.{marks}
use Rattle.trac_rules.specs.Performing.{beginning_of}
use Rattle.trac_rules.specs.Records.{Begun, Comma, Quoted, Texts, ending_of, frame_of, gathered_again_in, moved_back, moved_back_in, not_begun_in, put_before, restored, texts_in}
use Rattle.trac_rules.specs.Scanning.{gather, gathered_in}
use Rattle.trac_rules.specs.State.{Frame, State}
use Rattle.trac_rules.proofs.Restored.{frame_of-last, moved_back-gather}
use Rattle.trac_text.specs.declared.mark.Mark.{Mark}
use Rattle.trac_text.specs.Framing.{marked_in}
use Rattle.trac_text.specs.Holding.{CanHold, CanHoldAgain, ShownTexts, alone, texts_held}
use Rattle.trac_text.specs.MovingBack.{beginning_by, last_begun, with_last_before, without_protected}
use Rattle.trac_text.specs.Neutral.{AreMarks, IsOrdered, Neutral, marked, neutral}
use Rattle.trac_text.proofs.Holding.{AreNow, Hold, byte_count, depth_now, held_as, held_now, holds_more, held_within, mark_count}
use Rattle.trac_text.proofs.Neutral.{frames_counted, has_frames}

some_then : {X : Type 0} (b : Bool) (x : X) → IsSome (then_some b x) → b ≡ true
some_then true x h = refl
some_then false x h = absurd (let unset : false ≡ true = h in cc)

some_map : {X : Type 0} (f : X → X) (o : Option X) → IsSome (option_map f o) → IsSome o
some_map f None h = h
some_map f (Some x) h = refl

-- ---- the last bytes of the current text go back

-- a state with this base text and these frames
abbrev with_neutral : State → Neutral → State
with_neutral s n = record s { base = n.base; frames = n.frames }

-- of the text after a mark so many bytes can go back as it has
marked_within : (o : Option Kind) (text : List ℕ) (n : Neutral) (k : ℕ) (s : State) → (o ≡ None → 0 < length n.frames) →
    IsSome (moved_back_in (marked o text n).frames k (with_neutral s (marked o text n))) → k ≤ length text
marked_within (Some kind) text n k s inner h = leb-true k (length text) (some_then _ _ h)
marked_within None text n k s inner h = within n.frames (inner refl) h
  where
    within : (fs : List Frame) → 0 < length fs → IsSome (moved_back_in (marked None text (record n { frames = fs })).frames k (with_neutral s (marked None text (record n { frames = fs })))) → k ≤ length text
    within [] some back = absurd (omega arith)
    within (f ∷ fs) some back = leb-true k (length text) (some_then _ _ back)

-- the marks stand before what goes back
marks_before : (text : List ℕ) (ms : List Mark) (n : ℕ) (s : State) → AreMarks (length text) ms → IsSome (moved_back_in (neutral text ms).frames n (with_neutral s (neutral text ms))) →
    (n ≤ length text) × AreMarks (length text - n) ms
marks_before text [] n s a h = (leb-true n (length text) (some_then _ _ h), tt)
marks_before text (m ∷ ms) n s a h =
    let within : n ≤ length (drop m.place text) =
    marked_within m.frame (drop m.place text) (neutral (take m.place text) ms) n s (λ e. has_frames (take m.place text) ms m.place a.2 (a.1 e)) h in
    (omega (arith, within, a.0, length-drop m.place text), (omega (arith, within, a.0, length-drop m.place text), a.1, a.2))

pub gathered_alone : (more : List ℕ) (fs : List Frame) (t : Texts) → alone (texts_in (gathered_in fs more (alone t))) ≡ gathered_in fs more (alone t)
gathered_alone more [] t = refl
gathered_alone more (f ∷ fs) t = refl

-- the lists with the last n bytes of the left before the right hold the texts in which the last n bytes of the current text have gone back
pub record IsMovedBack (n : ℕ) (text : Ends ℕ) (ms : Ends Mark) : Type 0 where
  pub within : n ≤ length text.left
  pub ordered : IsOrdered (marked_in (with_last_before n text) ms)
  pub state : moved_back n (alone (texts_held text ms)) ≡ Some (alone (texts_held (with_last_before n text) ms))

pub is_moved_back : (n : ℕ) (text : Ends ℕ) (ms : Ends Mark) → IsOrdered (marked_in text ms) → ms.right ≡ [] → IsSome (moved_back n (alone (texts_held text ms))) → IsMovedBack n text ms
is_moved_back n text ms a on_left h =
    let kept : ℕ = length text.left - n in
    let before : (n ≤ length text.left) × AreMarks kept (reverse ms.left) = marks_before text.left (reverse ms.left) n (alone (texts_held text ms)) a h in
    let front : length (take kept text.left) ≡ kept = length-take-le kept text.left (omega arith) in
    let ordered : AreMarks (length (take kept text.left)) (reverse ms.left) = subst (λ (k : ℕ). AreMarks k (reverse ms.left)) (sym front) before.1 in
    let fewer : Ends ℕ = record text { left = take kept text.left } in
    let count : n ≡ length (drop kept text.left) = omega (arith, before.0, length-drop kept text.left) in
    let u : Texts = texts_held fewer ms in
    let short : Hold fewer ms u = record { active = refl; neutral = record { same = refl; ordered = ordered }; on_left = on_left } in
    let there : Hold (record text { left = take kept text.left ++ drop kept text.left }) ms (texts_in (gather (drop kept text.left) (alone u))) = holds_more text.right (drop kept text.left) short in
    let joined : Hold text ms (texts_in (gather (drop kept text.left) (alone u))) =
    subst (λ (xs : List ℕ). Hold (record text { left = xs }) ms (texts_in (gather (drop kept text.left) (alone u)))) (take-append-drop kept text.left) there in
    let whole : alone (texts_held text ms) ≡ gather (drop kept text.left) (alone u) =
    (λ i. alone (record { active = joined.active i; base = (joined.neutral.same i).base; frames = (joined.neutral.same i).frames })) ∙ gathered_alone (drop kept text.left) u.frames u in
    record {
      within = before.0;
      ordered = ordered;
      state = (λ i. moved_back (count i) (whole i)) ∙ moved_back-gather (alone u).frames (drop kept text.left) [] (alone u);
    }

-- ---- the last mark goes

abbrev back_to : State → Neutral → List ℕ → Option State
back_to s n bytes = Some (put_before bytes (with_neutral s n))

-- an empty argument is gone, and the one before it is gathered again
abbrev again_where : Bool → State → Neutral → Frame → List Frame → Option State
again_where b s n f fs =
    if b
    then option_map (λ (g : Frame). put_before (codes ",") (with_neutral s (record n { frames = g ∷ fs }))) (frame_of f.kind (f.arguments ++ f.gathered ∷ []))
    else None

gathered_where : (b : Bool) (size : ℕ) (s : State) (n : Neutral) (f : Frame) (fs : List Frame) → (size == 0) ≡ b → IsSome (again_where b s n f fs) →
    (size ≡ 0) × (again_where b s n f fs ≡ back_to s (record n { frames = f ∷ fs }) (codes ","))
gathered_where true size s n f fs e is =
    (eqb-true size 0 e, ap (option_map (λ (g : Frame). put_before (codes ",") (with_neutral s (record n { frames = g ∷ fs })))) (frame_of-last f))
gathered_where false size s n f fs e is = absurd (let unset : false ≡ true = is in cc)

none_where : (b : Bool) → IsSome {T = State} (if b then None else None) → ⊥
none_where true is = let unset : false ≡ true = is in cc
none_where false is = let unset : false ≡ true = is in cc

-- what a `,` began is gone again
gathered_marked : (o : Option Kind) (text : List ℕ) (n : Neutral) (s : State) → (o ≡ None → 0 < length n.frames) →
    IsSome (gathered_again_in (marked o text n).frames (with_neutral s (marked o text n))) →
    (length text ≡ 0) × (gathered_again_in (marked o text n).frames (with_neutral s (marked o text n)) ≡ back_to s n (codes ","))
gathered_marked (Some kind) text n s inner h = absurd (none_where (length text == 0) h)
gathered_marked None text n s inner h = again n.frames (inner refl) h
  where
    again : (fs : List Frame) → 0 < length fs → IsSome (gathered_again_in (marked None text (record n { frames = fs })).frames (with_neutral s (marked None text (record n { frames = fs })))) →
        (length text ≡ 0) × (gathered_again_in (marked None text (record n { frames = fs })).frames (with_neutral s (marked None text (record n { frames = fs }))) ≡ back_to s (record n { frames = fs }) (codes ","))
    again [] some is = absurd (omega arith)
    again (f ∷ fs) some is = gathered_where (length text == 0) (length text) s n f fs refl is

-- a begun function is gone, where it has one empty argument
record BeginsWith (o : Option Kind) (size : ℕ) (x : Option State) (s : State) (n : Neutral) : Type 0 where
  begins : IsSome o
  null : size ≡ 0
  state : x ≡ back_to s n (beginning_by o)

begun_where : (b : Bool) (size : ℕ) (kind : Kind) (s : State) (n : Neutral) → (size == 0) ≡ b → IsSome (then_some b (put_before (beginning_of kind) (with_neutral s n))) →
    BeginsWith (Some kind) size (then_some b (put_before (beginning_of kind) (with_neutral s n))) s n
begun_where true size kind s n e is = record { begins = refl; null = eqb-true size 0 e; state = refl }
begun_where false size kind s n e is = absurd (let unset : false ≡ true = is in cc)

-- what the beginning of a function began is gone again
begun_marked : (o : Option Kind) (text : List ℕ) (n : Neutral) (s : State) → (o ≡ None → 0 < length n.frames) →
    IsSome (not_begun_in (marked o text n).frames (with_neutral s (marked o text n))) →
    BeginsWith o (length text) (not_begun_in (marked o text n).frames (with_neutral s (marked o text n))) s n
begun_marked (Some kind) text n s inner h = begun_where (length text == 0) (length text) kind s n refl h
begun_marked None text n s inner h = absurd (more n.frames (inner refl) h)
  where
    more : (fs : List Frame) → 0 < length fs → IsSome (not_begun_in (marked None text (record n { frames = fs })).frames (with_neutral s (marked None text (record n { frames = fs })))) → ⊥
    more [] some is = absurd (omega arith)
    more (f ∷ fs) some is =
        let argument : (length (f.arguments ++ f.gathered ∷ []) == 0) ≡ false = ne_eqb _ _ (omega (arith, length-append f.arguments (f.gathered ∷ []))) in
        let unset : false && (length text == 0) ≡ true =
        ap (λ (b : Bool). b && (length text == 0)) (sym argument) ∙ some_then _ _ is in
        cc

-- what is left without the last of the marks, which are given from the last one on, shows this state with these bytes put back
record IsUnmarked (text : List ℕ) (ms : List Mark) (s : State) (bytes : List ℕ) (o : Option State) : Type 0 where
  ordered : AreMarks (length text) (drop 1 ms)
  state : o ≡ back_to s (neutral text (drop 1 ms)) bytes

unmarked : (text : List ℕ) (m : Mark) (ms : List Mark) (s : State) (bytes : List ℕ) (o : Option State) → AreMarks (length text) (m ∷ ms) → length (drop m.place text) ≡ 0 →
    o ≡ back_to s (neutral (take m.place text) ms) bytes → IsUnmarked text (m ∷ ms) s bytes o
unmarked text m ms s bytes o a null e =
    let at_end : m.place ≡ length text = omega (arith, null, a.0, length-drop m.place text) in
    record {
      ordered = subst (λ (k : ℕ). AreMarks k ms) at_end a.2;
      state = e ∙ ap (λ (front : List ℕ). back_to s (neutral front ms) bytes) (take_all m.place text (omega arith));
    }

comma_unmarked : (text : List ℕ) (ms : List Mark) (s : State) → AreMarks (length text) ms → IsSome (gathered_again_in (neutral text ms).frames (with_neutral s (neutral text ms))) →
    IsUnmarked text ms s (codes ",") (gathered_again_in (neutral text ms).frames (with_neutral s (neutral text ms)))
comma_unmarked text [] s a h = absurd (let unset : false ≡ true = h in cc)
comma_unmarked text (m ∷ ms) s a h =
    let again = gathered_marked m.frame (drop m.place text) (neutral (take m.place text) ms) s (λ e. has_frames (take m.place text) ms m.place a.2 (a.1 e)) h in
    unmarked text m ms s (codes ",") _ a again.0 again.1

record IsUnbegun (text : List ℕ) (ms : List Mark) (s : State) (o : Option State) : Type 0 where
  begins : IsSome (last_begun ms)
  rest : IsUnmarked text ms s (beginning_by (last_begun ms)) o

begun_unmarked : (text : List ℕ) (ms : List Mark) (s : State) → AreMarks (length text) ms → IsSome (not_begun_in (neutral text ms).frames (with_neutral s (neutral text ms))) →
    IsUnbegun text ms s (not_begun_in (neutral text ms).frames (with_neutral s (neutral text ms)))
begun_unmarked text [] s a h = absurd (let unset : false ≡ true = h in cc)
begun_unmarked text (m ∷ ms) s a h =
    let began = begun_marked m.frame (drop m.place text) (neutral (take m.place text) ms) s (λ e. has_frames (take m.place text) ms m.place a.2 (a.1 e)) h in
    record { begins = began.begins; rest = unmarked text m ms s (beginning_by m.frame) _ a began.null began.state }

pub then_is : {X : Type 0} (b : Bool) (x y : X) → then_some b x ≡ Some y → (b ≡ true) × (x ≡ y)
then_is true x y h = (refl, let same : x ≡ y = cc in same)
then_is false x y h = absurd (let none : None ≡ Some y = h in cc)

-- the marks without the last one, from the last one on
reverse_front : {X : Type 0} (xs : List X) → reverse (take (length xs - 1) xs) ≡ drop 1 (reverse xs)
reverse_front {X} xs = by_reverse (reverse xs) (reverse-reverse xs)
  where
    by_reverse : (rs : List X) → reverse rs ≡ xs → reverse (take (length xs - 1) xs) ≡ drop 1 rs
    by_reverse [] e = ap (λ (l : List X). reverse (take (length l - 1) l)) (sym e)
    by_reverse (r ∷ rs) e =
        ap (λ (l : List X). reverse (take (length l - 1) l)) (sym (sym (reverse-append (r ∷ []) rs) ∙ e))
        ∙ ap reverse (take_at (reverse rs) (r ∷ []) (length (reverse rs ++ r ∷ []) - 1) (omega (arith, length-append (reverse rs) (r ∷ []))))
        ∙ reverse-reverse rs

-- ---- the lists that go back

-- the lists with these bytes before the active text
abbrev pub with_before : List ℕ → Ends ℕ → Ends ℕ
with_before bytes text = record text { right = bytes ++ text.right }

-- the lists without the last mark
abbrev pub without_last : Ends Mark → Ends Mark
without_last ms = record ms { left = take (length ms.left - 1) ms.left }

-- the state before is that of these lists alone, which are sound
pub record IsBack (before : Option State) (k : ℕ) (next : Ends ℕ) (ns : Ends Mark) (m : ShownTexts) : Type 0 where
  pub state : before ≡ Some (alone (texts_held next ns))
  pub now : AreNow k next ns (record m { texts = texts_held next ns })

pub back_at : {before : Option State} {k : ℕ} {next last : Ends ℕ} {ns ls : Ends Mark} {m : ShownTexts} → IsBack before k next ns m → last ≡ next → ls ≡ ns → IsBack before k last ls m
back_at {before} {k} {next} {last} {ns} {ls} {m} back text_is marks_are =
    subst (λ (e : Ends ℕ). IsBack before k e ls m) (sym text_is) (subst (λ (e : Ends Mark). IsBack before k next e m) (sym marks_are) back)

pub is_there : (m : ShownTexts) (o : Option State) → CanHoldAgain m o → IsSome o
is_there m None h = absurd h
is_there m (Some s) h = refl

-- no byte is lost or added
moved_length : (n : ℕ) (text : Ends ℕ) → n ≤ length text.left → item_count (with_last_before n text) ≡ item_count text
moved_length n text within =
    let kept : ℕ = length text.left - n in
    omega (arith, length-append (drop kept text.left) text.right, length-drop kept text.left, length-take-le kept text.left (omega arith))

pub record IsUnprotected (inner : ℕ) (closed : Bool) (functions : ℕ) (text : Ends ℕ) (ms : Ends Mark) (m : ShownTexts) : Type 0 where
  pub within : inner ≤ length text.left
  pub room : item_count text + length (ending_of closed) < text.capacity
  pub back : IsBack (restored (Quoted inner closed) (alone m.texts)) functions (without_protected inner closed text) ms m

pub record IsNotBegun (functions : ℕ) (text : Ends ℕ) (ms : Ends Mark) (m : ShownTexts) : Type 0 where
  pub begins : IsSome (last_begun (reverse ms.left))
  pub room : item_count text + length (beginning_by (last_begun (reverse ms.left))) ≤ text.capacity
  pub some : 1 ≤ functions
  pub back : IsBack (restored Begun (alone m.texts)) (functions - 1) (with_before (beginning_by (last_begun (reverse ms.left))) text) (without_last ms) m

-- the last argument of a function is gathered again: as many functions as before
again_depth : (fs : List Frame) (s t : State) → gathered_again_in fs s ≡ Some t → length t.frames ≡ length fs
again_depth [] s t h = absurd (let none : None ≡ Some t = h in cc)
again_depth (f ∷ fs) s t h = by_length (length f.gathered == 0) (frame_of f.kind f.arguments) h
  where
    by_length : (b : Bool) (o : Option Frame) → (if b then option_map (λ (g : Frame). put_before (codes ",") (record s { frames = g ∷ fs })) o else None) ≡ Some t →
        length t.frames ≡ suc (length fs)
    by_length true (Some g) e =
        let same : put_before (codes ",") (record s { frames = g ∷ fs }) ≡ t = (let both : Some (put_before (codes ",") (record s { frames = g ∷ fs })) ≡ Some t = e in cc) in
        ap (λ (u : State). length u.frames) (sym same)
    by_length true None e = absurd (let none : None ≡ Some t = e in cc)
    by_length false o e = absurd (let none : None ≡ Some t = e in cc)

-- the beginning of a function is taken back: one less
unbegun_depth : (fs : List Frame) (s t : State) → not_begun_in fs s ≡ Some t → length fs ≡ length t.frames + 1
unbegun_depth [] s t h = absurd (let none : None ≡ Some t = h in cc)
unbegun_depth (f ∷ fs) s t h =
    let same = (then_is (length f.arguments == 0 && length f.gathered == 0) (put_before (beginning_of f.kind) (record s { frames = fs })) t h).1 in
    let count : length fs ≡ length t.frames = ap (λ (u : State). length u.frames) same in
    omega arith

-- what is left without the last mark
pub record IsShorter (bytes : List ℕ) (text : Ends ℕ) (ms : Ends Mark) (before : Option State) : Type 0 where
  pub state : before ≡ Some (alone (texts_held (with_before bytes text) (without_last ms)))
  pub ordered : IsOrdered (marked_in text (without_last ms))

is_shorter : (bytes : List ℕ) (text : Ends ℕ) (ms : Ends Mark) (before : Option State) → IsUnmarked text.left (reverse ms.left) (alone (texts_held text ms)) bytes before → IsShorter bytes text ms before
is_shorter bytes text ms before rest = record {
  state = rest.state ∙ ap (λ (xs : List Mark). back_to (alone (texts_held text ms)) (neutral text.left xs) bytes) (sym (reverse_front ms.left));
  ordered = subst (AreMarks (length text.left)) (sym (reverse_front ms.left)) rest.ordered;
}

module _ {functions : ℕ} {text : Ends ℕ} {ms : Ends Mark} {m : ShownTexts} (now : AreNow functions text ms m) where
  texts_are : texts_held text ms ≡ m.texts
  texts_are = ap (λ (n : ShownTexts). n.texts) now.view

  -- lists in order that show what is there again, for which there is room
  back_now : {before : Option State} {k : ℕ} {next : Ends ℕ} {ns : Ends Mark} → CanHoldAgain m before → before ≡ Some (alone (texts_held next ns)) → IsOrdered (marked_in next ns) →
      ns.right ≡ [] → k ≡ length (texts_held next ns).frames → next.capacity ≡ text.capacity → ns.capacity ≡ ms.capacity → IsBack before k next ns m
  back_now {before} {k} {next} {ns} can is ordered on_left depth text_room mark_room = record {
    state = is;
    now = held_as now (record { active = refl; neutral = record { same = refl; ordered = ordered }; on_left = on_left }) depth text_room mark_room (subst (CanHoldAgain m) is can);
  }

  pub moves_back : (n : ℕ) → IsSome (moved_back n (alone m.texts)) → (n ≤ length text.left) × IsBack (moved_back n (alone m.texts)) functions (with_last_before n text) ms m
  moves_back n h =
      let moved : IsMovedBack n text ms = is_moved_back n text ms now.sound.ordered now.sound.on_left (subst (λ (t : Texts). IsSome (moved_back n (alone t))) (sym texts_are) h) in
      let depth : functions ≡ length (texts_held (with_last_before n text) ms).frames =
      now.sound.depth ∙ sym (frames_counted (marked_in text ms)) ∙ frames_counted (marked_in (with_last_before n text) ms) in (
        moved.within,
        record {
          state = ap (λ (t : Texts). moved_back n (alone t)) (sym texts_are) ∙ moved.state;
          now = held_within now (record { active = refl; neutral = record { same = refl; ordered = moved.ordered }; on_left = now.sound.on_left }) depth refl refl (omega (arith, moved_length n text moved.within)) (omega arith);
        },
      )

  pub unprotects : (inner : ℕ) (closed : Bool) → CanHoldAgain m (restored (Quoted inner closed) (alone m.texts)) → IsUnprotected inner closed functions text ms m
  unprotects inner closed can =
      let ended : Ends ℕ = record text { right = ending_of closed ++ text.right } in
      let here : IsSome (restored (Quoted inner closed) (alone (texts_held text ms))) =
      subst (λ (t : Texts). IsSome (restored (Quoted inner closed) (alone t))) (sym texts_are) (is_there m _ can) in
      let moved : IsMovedBack inner ended ms = is_moved_back inner ended ms now.sound.ordered now.sound.on_left (some_map (put_before (codes "(")) _ here) in
      let depth : functions ≡ length (texts_held (without_protected inner closed text) ms).frames =
      now.sound.depth ∙ sym (frames_counted (marked_in text ms)) ∙ frames_counted (marked_in (without_protected inner closed text) ms) in
      let state : restored (Quoted inner closed) (alone m.texts) ≡ Some (alone (texts_held (without_protected inner closed text) ms)) =
      ap (λ (t : Texts). restored (Quoted inner closed) (alone t)) (sym texts_are) ∙ ap (option_map (put_before (codes "("))) moved.state in
      let back : IsBack (restored (Quoted inner closed) (alone m.texts)) functions (without_protected inner closed text) ms m = back_now can state moved.ordered now.sound.on_left depth refl refl in
      record {
        within = moved.within;
        room = omega (arith, back.now.sound.text_room, moved_length inner ended moved.within, length-append (ending_of closed) text.right);
        back = back;
      }

  pub gathers_again : CanHoldAgain m (restored Comma (alone m.texts)) → IsBack (restored Comma (alone m.texts)) functions (with_before (codes ",") text) (without_last ms) m
  gathers_again can =
      let here : IsSome (restored Comma (alone (texts_held text ms))) = subst (λ (t : Texts). IsSome (restored Comma (alone t))) (sym texts_are) (is_there m _ can) in
      let rest = is_shorter (codes ",") text ms _ (comma_unmarked text.left (reverse ms.left) (alone (texts_held text ms)) now.sound.ordered here) in
      let state = ap (λ (t : Texts). restored Comma (alone t)) (sym texts_are) ∙ rest.state in
      back_now can state rest.ordered now.sound.on_left (now.sound.depth ∙ sym (again_depth (texts_held text ms).frames (alone (texts_held text ms)) _ rest.state)) refl refl

  pub some_mark : IsSome (restored Comma (alone m.texts)) → 0 < length ms.left
  some_mark h = by_frames m.texts.frames (mark_count (held_now now)) h
    where
      by_frames : (fs : List Frame) → length ms.left ≡ marks fs → IsSome (gathered_again_in fs (alone m.texts)) → 0 < length ms.left
      by_frames [] is h = absurd (let unset : false ≡ true = h in cc)
      by_frames (f ∷ fs) is h = omega (arith, is)

  pub takes_beginning_back : CanHoldAgain m (restored Begun (alone m.texts)) → IsNotBegun functions text ms m
  takes_beginning_back can =
      let here : IsSome (restored Begun (alone (texts_held text ms))) = subst (λ (t : Texts). IsSome (restored Begun (alone t))) (sym texts_are) (is_there m _ can) in
      let gone = begun_unmarked text.left (reverse ms.left) (alone (texts_held text ms)) now.sound.ordered here in
      let bytes : List ℕ = beginning_by (last_begun (reverse ms.left)) in
      let rest = is_shorter bytes text ms _ gone.rest in
      let state = ap (λ (t : Texts). restored Begun (alone t)) (sym texts_are) ∙ rest.state in
      let one_less = unbegun_depth (texts_held text ms).frames (alone (texts_held text ms)) _ rest.state in
      let some : 1 ≤ functions = omega (arith, now.sound.depth, one_less) in
      let back : IsBack (restored Begun (alone m.texts)) (functions - 1) (with_before bytes text) (without_last ms) m = back_now can state rest.ordered now.sound.on_left (omega (arith, now.sound.depth, one_less)) refl refl in
      record { begins = gone.begins; room = omega (arith, back.now.sound.text_room, length-append bytes text.right); some = some; back = back }

  pub undeletes : (b : ℕ) → CanHold m (record m.texts { active = b ∷ m.texts.active }) → {next : Ends ℕ} → next ≡ record text { right = b ∷ text.right } →
      AreNow functions next ms (record m { texts = record m.texts { active = b ∷ m.texts.active } })
  undeletes b can {next} is =
      let held = held_now now in
      let holds : Hold (with_before (b ∷ []) text) ms (record m.texts { active = b ∷ m.texts.active }) = record { active = ap (λ (active : List ℕ). b ∷ active) held.active; neutral = held.neutral; on_left = held.on_left } in
      subst (λ (e : Ends ℕ). AreNow functions e ms (record m { texts = record m.texts { active = b ∷ m.texts.active } })) (sym is) (held_as now holds (depth_now now) refl refl can)

  pub undelete_fits : (b : ℕ) → CanHold m (record m.texts { active = b ∷ m.texts.active }) → item_count text + 1 ≤ text.capacity
  undelete_fits b can = omega (arith, can.text_room, byte_count (held_now now), ap (λ (x : ShownTexts). x.text_room) now.view)
