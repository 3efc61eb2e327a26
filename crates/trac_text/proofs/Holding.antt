-- Lists with two ends that hold texts, and what each rule of scanning makes of them.
use Rattle.std.proofs.Common.{◌≡◌, ℕ, ◌+◌, ◌-◌, ◌<◌, ◌≤◌, ◌^◌, List, [], ◌∷◌, ◌++◌, length, take, drop, refl, sym, ap, ◌∙◌, subst, arith, Bool, true, false}
use Rattle.std.specs.Prelude.{Option, Some, None}
use Rattle.std.proofs.lemmas.List.{length-append, length-drop, length-take}
use Rattle.std.proofs.lemmas.Option.{none-some}
use Rattle.trac_gap.specs.Ends.{Ends, item_count}
use Rattle.trac_rules.specs.declared.kind.Kind.{Kind}
use Rattle.trac_rules.specs.declared.kind.Kind.TheVariants.{Active, Neutral}
use Rattle.trac_rules.specs.declared.limit.TheConstants.{MARK_LIMIT, TEXT_LIMIT}
use Rattle.trac_rules.specs.Limits.{argument_bytes, marks}
use Rattle.trac_rules.specs.Matching.{Protected, protected}
use Rattle.trac_rules.specs.Performing.{placed}
use Rattle.trac_rules.specs.PlainRuns.{moved_on}
use Rattle.trac_rules.specs.Records.{Texts, texts_in}
use Rattle.trac_rules.specs.Scanning.{deleted, gather, gathered_in, protect}
use Rattle.trac_rules.specs.State.{Frame, State}
use Rattle.trac_text.specs.declared.mark.Mark.{Mark}
use Rattle.trac_text.specs.declared.calls.Beginning.{Beginning}
use Rattle.trac_text.specs.Cuts.{cut}
use Rattle.trac_text.specs.Framing.{marked_in}
use Rattle.trac_text.specs.Holding.{AreSound, BeginsInnermost, CanHold, IsBegun, ShownTexts, alone, bytes_in, innermost_arguments, shown_texts, texts_by}
use Rattle.trac_text.specs.Marks.{mark_at}
use Rattle.trac_text.specs.Moving.{with_protected, with_value}
use Rattle.trac_text.specs.Neutral.{Neutral as NeutralOf, cut_back, marked, neutral_of}
use Rattle.trac_text.proofs.Beginnings.{is_begun, some_frame}
use Rattle.trac_text.proofs.Neutral.{longer}
use Rattle.trac_text.proofs.NeutralAgain.{Shows, mark_size, shows_mark, shows_more, text_size}
use Rattle.trac_text.proofs.Protected.{protected_length}

-- ---- lists that hold texts

-- base text and frames of texts
abbrev pub neutral_in : Texts → NeutralOf
neutral_in t = record { base = t.base; frames = t.frames }

-- lists hold these texts
pub record Hold (text : Ends ℕ) (ms : Ends Mark) (t : Texts) : Type 0 where
  pub active : text.right ≡ t.active
  pub neutral : Shows text.left ms.left (neutral_in t)
  pub on_left : ms.right ≡ []

-- lists are sound, and this is seen of them
pub record AreNow (functions : ℕ) (text : Ends ℕ) (ms : Ends Mark) (m : ShownTexts) : Type 0 where
  pub sound : AreSound functions text ms
  pub view : shown_texts text ms ≡ m

-- what is seen of lists that hold these texts
pub shown_as : {text : Ends ℕ} {ms : Ends Mark} {t : Texts} → Hold text ms t → shown_texts text ms ≡ record { texts = t; text_room = text.capacity; mark_room = ms.capacity }
shown_as {text} {ms} {t} held i =
    record {
      texts = record { active = held.active i; base = (held.neutral.same i).base; frames = (held.neutral.same i).frames };
      text_room = text.capacity;
      mark_room = ms.capacity;
    }

-- they are as long as the texts
pub byte_count : {text : Ends ℕ} {ms : Ends Mark} {t : Texts} → Hold text ms t → item_count text ≡ bytes_in t
byte_count {text} {ms} {t} held = omega (arith, text_size text.left ms.left (neutral_in t) held.neutral, ap (λ (active : List ℕ). length active) held.active)

pub mark_count : {text : Ends ℕ} {ms : Ends Mark} {t : Texts} → Hold text ms t → length ms.left ≡ marks t.frames
mark_count {text} {ms} {t} held = mark_size text.left ms.left (neutral_in t) held.neutral

pub neutral_bytes : {text : Ends ℕ} {ms : Ends Mark} {t : Texts} → Hold text ms t → length text.left ≡ length t.base + argument_bytes t.frames
neutral_bytes {text} {ms} {t} held = text_size text.left ms.left (neutral_in t) held.neutral

-- lists that hold texts, for which there is room
pub held_in : {k : ℕ} {text : Ends ℕ} {ms : Ends Mark} {t : Texts} → Hold text ms t → k ≡ length t.frames → CanHold (record { texts = t; text_room = text.capacity; mark_room = ms.capacity }) t →
    AreNow k text ms (record { texts = t; text_room = text.capacity; mark_room = ms.capacity })
held_in {k} {text} {ms} {t} held depth can =
    let bytes = byte_count held in
    let count = mark_count held in
    record {
      sound = record {
        ordered = held.neutral.ordered;
        depth = depth ∙ ap (λ (n : NeutralOf). length n.frames) (sym held.neutral.same);
        text_limit = omega (arith, bytes, can.text_limit);
        mark_limit = omega (arith, count, can.mark_limit);
        text_room = omega (arith, bytes, can.text_room);
        mark_room = omega (arith, count, can.mark_room);
        on_left = held.on_left;
      };
      view = shown_as held;
    }

-- ---- from what is seen

module _ {functions : ℕ} {text : Ends ℕ} {ms : Ends Mark} {m : ShownTexts} (now : AreNow functions text ms m) where
  pub held_now : Hold text ms m.texts
  held_now = record {
    active = ap (λ (n : ShownTexts). n.texts.active) now.view;
    neutral = record { same = ap (λ (n : ShownTexts). neutral_in n.texts) now.view; ordered = now.sound.ordered };
    on_left = now.sound.on_left;
  }

  pub depth_now : functions ≡ length m.texts.frames
  depth_now = now.sound.depth ∙ ap (λ (n : ShownTexts). length n.texts.frames) now.view

  -- there is room for what is there
  pub can_hold_now : CanHold m m.texts
  can_hold_now =
      let bytes = byte_count held_now in
      let count = mark_count held_now in
      record {
        text_room = omega (arith, bytes, now.sound.text_room, ap (λ (n : ShownTexts). n.text_room) now.view);
        mark_room = omega (arith, count, now.sound.mark_room, ap (λ (n : ShownTexts). n.mark_room) now.view);
        text_limit = omega (arith, bytes, now.sound.text_limit);
        mark_limit = omega (arith, count, now.sound.mark_limit);
      }

  -- other lists in the same room
  pub held_as : {next : Ends ℕ} {ns : Ends Mark} {t : Texts} {k : ℕ} → Hold next ns t → k ≡ length t.frames → next.capacity ≡ text.capacity → ns.capacity ≡ ms.capacity → CanHold m t →
      AreNow k next ns (record m { texts = t })
  held_as {next} {ns} {t} {k} held depth text_room mark_room can =
      let rooms : record { texts = t; text_room = next.capacity; mark_room = ns.capacity } ≡ record m { texts = t } =
      (λ i. record { texts = t; text_room = text_room i; mark_room = mark_room i }) ∙ ap (λ (n : ShownTexts). record n { texts = t }) now.view in
      let there : CanHold (record m { texts = t }) t =
      record { text_room = can.text_room; mark_room = can.mark_room; text_limit = can.text_limit; mark_limit = can.mark_limit } in
      subst (AreNow k next ns) rooms (held_in held depth (subst (λ (n : ShownTexts). CanHold n t) (sym rooms) there))

  -- the same where they are no larger than before
  pub held_within : {next : Ends ℕ} {ns : Ends Mark} {t : Texts} {k : ℕ} → Hold next ns t → k ≡ length t.frames → next.capacity ≡ text.capacity → ns.capacity ≡ ms.capacity →
      item_count next ≤ item_count text → length ns.left ≤ length ms.left → AreNow k next ns (record m { texts = t })
  held_within {next} {ns} {t} {k} held depth text_room mark_room less fewer =
      let bytes = byte_count held in
      let count = mark_count held in
      let old = can_hold_now in
      held_as held depth text_room mark_room (record {
        text_room = omega (arith, bytes, less, byte_count held_now, old.text_room);
        mark_room = omega (arith, count, fewer, mark_count held_now, old.mark_room);
        text_limit = omega (arith, bytes, less, byte_count held_now, old.text_limit);
        mark_limit = omega (arith, count, fewer, mark_count held_now, old.mark_limit);
      })

-- ---- a text goes to the current text

gathered_texts : (base : List ℕ) (fs : List Frame) (more : List ℕ) (s : State) →
    texts_in (gathered_in fs more (record s { base = base; frames = fs }))
    ≡ record { active = s.active; base = (longer more (record { base = base; frames = fs })).base; frames = (longer more (record { base = base; frames = fs })).frames }
gathered_texts base [] more s = refl
gathered_texts base (f ∷ fs) more s = refl

gathered_depth : (fs : List Frame) (more : List ℕ) (s : State) → length s.frames ≡ length fs → length (texts_in (gathered_in fs more s)).frames ≡ length fs
gathered_depth [] more s is = is
gathered_depth (f ∷ fs) more s is = refl

-- the texts with this active text, and this one at the end of the current text
abbrev pub gathered : List ℕ → List ℕ → Texts → Texts
gathered active more t = texts_in (gather more (record (alone t) { active = active }))

pub holds_more : {text : Ends ℕ} {ms : Ends Mark} {t : Texts} (active more : List ℕ) → Hold text ms t → Hold (record text { left = text.left ++ more; right = active }) ms (gathered active more t)
holds_more {text} {ms} {t} active more held =
    let is = gathered_texts t.base t.frames more (record (alone t) { active = active }) in
    subst (Hold (record text { left = text.left ++ more; right = active }) ms) (sym is)
    (record { active = refl; neutral = shows_more text.left more ms.left (neutral_in t) held.neutral; on_left = held.on_left })

module _ {functions : ℕ} {text : Ends ℕ} {ms : Ends Mark} {m : ShownTexts} (now : AreNow functions text ms m) where
  gathered_now : (active more : List ℕ) {next : Ends ℕ} → next ≡ record text { left = text.left ++ more; right = active } → length active + length more ≤ length text.right →
      AreNow functions next ms (record m { texts = gathered active more m.texts })
  gathered_now active more {next} is less =
      subst (λ (e : Ends ℕ). AreNow functions e ms (record m { texts = gathered active more m.texts })) (sym is)
      (held_within now (holds_more active more (held_now now)) (depth_now now ∙ sym (gathered_depth m.texts.frames more (record (alone m.texts) { active = active }) refl)) refl refl
      (omega (arith, less, length-append text.left more)) (omega arith))

  -- the first n bytes of the active text
  pub moved_now : (n : ℕ) {next : Ends ℕ} → next ≡ record text { left = text.left ++ take n text.right; right = drop n text.right } →
      AreNow functions next ms (record m { texts = texts_by (moved_on n) m.texts })
  moved_now n {next} is =
      subst (λ (active : List ℕ). AreNow functions next ms (record m { texts = gathered (drop n active) (take n active) m.texts })) (held_now now).active
      (gathered_now (drop n text.right) (take n text.right) is (omega (arith, length-take n text.right, length-drop n text.right)))

  -- what a `(` protects
  pub protected_now : {next : Ends ℕ} → 0 < length m.texts.active → next ≡ with_protected (protected (drop 1 text.right)) text →
      AreNow functions next ms (record m { texts = texts_by (protect (protected (drop 1 m.texts.active))) m.texts })
  protected_now {next} some is =
      let kept : Protected = protected (drop 1 text.right) in
      subst (λ (active : List ℕ). AreNow functions next ms (record m { texts = gathered (protected (drop 1 active)).rest (protected (drop 1 active)).inner m.texts })) (held_now now).active
      (gathered_now kept.rest kept.inner is (omega (arith, protected_length (drop 1 text.right), length-drop 1 text.right, some, ap (λ (active : List ℕ). length active) (held_now now).active)))

  -- ---- the front of the active text goes

  pub deleted_now : (n : ℕ) {next : Ends ℕ} → next ≡ record text { right = drop n text.right } → AreNow functions next ms (record m { texts = texts_by (deleted n) m.texts })
  deleted_now n {next} is =
      let held : Hold (record text { right = drop n text.right }) ms (texts_by (deleted n) m.texts) =
      record { active = ap (λ (active : List ℕ). drop n active) (held_now now).active; neutral = (held_now now).neutral; on_left = now.sound.on_left } in
      subst (λ (e : Ends ℕ). AreNow functions e ms (record m { texts = texts_by (deleted n) m.texts })) (sym is)
      (held_within now held (depth_now now) refl refl (omega (arith, length-drop n text.right)) (omega arith))

-- ---- a mark after all others

-- a begun function has a mark
depth_within : (fs : List Frame) → length fs ≤ marks fs
depth_within [] = omega arith
depth_within (f ∷ fs) = omega (arith, depth_within fs)

-- the marks with one at this place after all others, in this room
abbrev pub with_mark_at : ℕ → Option Kind → ℕ → Ends Mark → Ends Mark
with_mark_at place o room ms = record ms { left = ms.left ++ mark_at place o ∷ []; capacity = room }

-- the texts without the first n active bytes, and with a function of this kind begun, or, if none is named, with a further argument of the innermost one
abbrev marked_texts : ℕ → Option Kind → Texts → Texts
marked_texts n o t = record { active = drop n t.active; base = (marked o [] (neutral_in t)).base; frames = (marked o [] (neutral_in t)).frames }

marked_marks : (o : Option Kind) (base : List ℕ) (fs : List Frame) → (o ≡ None → 0 < length fs) → marks (marked o [] (record { base = base; frames = fs })).frames ≡ marks fs + 1
marked_marks (Some kind) base fs inside = omega arith
marked_marks None base [] inside = absurd (let none : 0 < 0 = inside refl in omega arith)
marked_marks None base (f ∷ fs) inside = omega (arith, length-append f.arguments (f.gathered ∷ []))

module _ {functions : ℕ} {text : Ends ℕ} {ms : Ends Mark} {m : ShownTexts} (now : AreNow functions text ms m) (n : ℕ) {next : Ends ℕ} {ns : Ends Mark} {k : ℕ} (text_is : next ≡ record text { right = drop n text.right })
    (room : length ms.left + 1 ≤ ns.capacity) (limit : marks m.texts.frames < MARK_LIMIT) where
  marked_now : (o : Option Kind) → ns ≡ with_mark_at (length text.left) o ns.capacity ms → (o ≡ None → 0 < length m.texts.frames) → k ≡ length (marked_texts n o m.texts).frames → AreSound k next ns
  marked_now o marks_are inside depth =
      let held = held_now now in
      let above : o ≡ None → 0 < length ms.left = λ e. omega (arith, inside e, depth_within m.texts.frames, mark_count held) in
      let shows : Shows text.left (with_mark_at (length text.left) o ns.capacity ms).left (marked o [] (neutral_in m.texts)) = shows_mark text.left ms.left (neutral_in m.texts) (length text.left) o refl above held.neutral in
      let holds : Hold (record text { right = drop n text.right }) (with_mark_at (length text.left) o ns.capacity ms) (marked_texts n o m.texts) =
      record { active = ap (λ (active : List ℕ). drop n active) held.active; neutral = shows; on_left = held.on_left } in
      let old = can_hold_now now in
      let fewer : bytes_in (marked_texts n o m.texts) ≤ bytes_in m.texts = omega (arith, byte_count holds, byte_count held, length-drop n text.right) in
      let more = marked_marks o m.texts.base m.texts.frames inside in
      subst (λ (e : Ends ℕ). AreSound k e ns) (sym text_is) (subst (λ (e : Ends Mark). AreSound k (record text { right = drop n text.right }) e) (sym marks_are)
      (held_in holds depth (record {
        text_room = omega (arith, fewer, old.text_room, ap (λ (x : ShownTexts). x.text_room) now.view);
        mark_room = omega (arith, more, room, mark_count held);
        text_limit = omega (arith, fewer, old.text_limit);
        mark_limit = omega (arith, more, limit);
      })).sound)

  -- that of a function
  pub begun_now : (kind : Kind) → ns ≡ with_mark_at (length text.left) (Some kind) ns.capacity ms → k ≡ functions + 1 → AreSound k next ns
  begun_now kind marks_are count = marked_now (Some kind) marks_are (λ e. absurd (none-some _ (sym e))) (omega (arith, count, depth_now now))

  -- that of a further argument
  pub argument_now : ns ≡ with_mark_at (length text.left) None ns.capacity ms → 0 < length m.texts.frames → k ≡ functions → AreSound k next ns
  argument_now marks_are inside count = marked_now None marks_are (λ _. inside) (count ∙ depth_now now ∙ sym (same_depth m.texts.frames))
    where
      same_depth : (fs : List Frame) → length (marked None [] (record { base = m.texts.base; frames = fs })).frames ≡ length fs
      same_depth [] = refl
      same_depth (f ∷ fs) = refl

-- memory is refused only if there is no room
pub full_now : {functions : ℕ} {text : Ends ℕ} {ms : Ends Mark} {m : ShownTexts} → AreNow functions text ms m → ms.capacity ≤ length ms.left → m.mark_room ≤ marks m.texts.frames
full_now now full = omega (arith, full, mark_count (held_now now), ap (λ (x : ShownTexts). x.mark_room) now.view)

-- the number of begun functions is below the limit on marks
pub depth_fits : {functions : ℕ} {text : Ends ℕ} {ms : Ends Mark} {m : ShownTexts} → AreNow functions text ms m → functions + 1 ≤ 2 ^ 64 - 1
depth_fits {functions} {text} {ms} {m} now = omega (arith, depth_now now, depth_within m.texts.frames, (can_hold_now now).mark_limit)

-- the innermost function begins here
pub begun_here : {functions : ℕ} {text : Ends ℕ} {ms : Ends Mark} {m : ShownTexts} → AreNow functions text ms m → (b : Beginning) → BeginsInnermost m.texts b → IsBegun (marked_in text ms) b
begun_here {functions} {text} {ms} {m} now b begins =
    is_begun (marked_in text ms) b now.sound.ordered (subst (λ (n : ShownTexts). BeginsInnermost n.texts b) (sym now.view) begins)

-- and its arguments are cut from there on
pub arguments_here : {functions : ℕ} {text : Ends ℕ} {ms : Ends Mark} {m : ShownTexts} → AreNow functions text ms m → (b : Beginning) → BeginsInnermost m.texts b →
    cut b.place (drop (b.number + 1) ms.left) text.left ≡ innermost_arguments m.texts.frames
arguments_here now b begins =
    let inner = (begun_here now b begins).innermost in
    sym inner.arguments_are ∙ ap innermost_arguments (sym inner.frames_are) ∙ ap (λ (n : ShownTexts). innermost_arguments n.texts.frames) now.view

-- ---- a call ends

module _ {functions : ℕ} {text : Ends ℕ} {ms : Ends Mark} {m : ShownTexts} (now : AreNow functions text ms m) where
  -- the innermost function goes with its `)`
  pub ended_now : (b : Beginning) → 0 < length m.texts.active → BeginsInnermost m.texts b → {k : ℕ} {next : Ends ℕ} {ns : Ends Mark} → k + 1 ≡ functions →
      next ≡ record text { left = take b.place text.left; right = drop 1 text.right } → ns ≡ record ms { left = take b.number ms.left } →
      AreNow k next ns (record m { texts = record m.texts { active = drop 1 m.texts.active; frames = drop 1 m.texts.frames } })
  ended_now b some begins {k} {next} {ns} count text_is marks_are =
      let held = held_now now in
      let inner = (begun_here now b begins).innermost in
      let rest : Texts = record m.texts { active = drop 1 m.texts.active; frames = drop 1 m.texts.frames } in
      let frames_are : m.texts.frames ≡ inner.frame ∷ (neutral_of (cut_back b.number b.place (marked_in text ms))).frames =
      ap (λ (n : ShownTexts). n.texts.frames) (sym now.view) ∙ inner.frames_are in
      let base_is : m.texts.base ≡ (neutral_of (cut_back b.number b.place (marked_in text ms))).base =
      ap (λ (n : ShownTexts). n.texts.base) (sym now.view) ∙ inner.base_is in
      let shows : Shows (take b.place text.left) (take b.number ms.left) (neutral_in rest) =
      record { same = (λ i. record { base = sym base_is i; frames = drop 1 (sym frames_are i) }); ordered = inner.ordered } in
      let holds : Hold (record text { left = take b.place text.left; right = drop 1 text.right }) (record ms { left = take b.number ms.left }) rest =
      record { active = ap (λ (active : List ℕ). drop 1 active) held.active; neutral = shows; on_left = held.on_left } in
      let depth : k ≡ length rest.frames = omega (arith, count, depth_now now, ap (λ (fs : List Frame). length fs) frames_are, ap (λ (fs : List Frame). length (drop 1 fs)) frames_are) in
      subst (λ (e : Ends ℕ). AreNow k e ns (record m { texts = rest })) (sym text_is)
      (subst (λ (e : Ends Mark). AreNow k (record text { left = take b.place text.left; right = drop 1 text.right }) e (record m { texts = rest })) (sym marks_are)
      (held_within now holds depth refl refl (omega (arith, length-take b.place text.left, length-drop 1 text.right)) (omega (arith, length-take b.number ms.left))))

  pub some_function : (b : Beginning) → BeginsInnermost m.texts b → 1 ≤ functions
  some_function b begins = omega (arith, depth_now now, some_frame m.texts.frames m.texts.base b begins)

-- a value goes where it goes
holds_value : {text : Ends ℕ} {ms : Ends Mark} {t : Texts} (kind : Kind) (forced : Bool) (value : List ℕ) → Hold text ms t → Hold (with_value kind forced value text) ms (texts_by (placed kind forced value) t)
holds_value Active forced value held = record { active = ap (λ (active : List ℕ). value ++ active) held.active; neutral = held.neutral; on_left = held.on_left }
holds_value Neutral true value held = record { active = ap (λ (active : List ℕ). value ++ active) held.active; neutral = held.neutral; on_left = held.on_left }
holds_value {text} {ms} {t} Neutral false value held =
    subst (λ (active : List ℕ). Hold (record text { left = text.left ++ value }) ms (gathered active value t)) held.active (holds_more text.right value held)

value_depth : (kind : Kind) (forced : Bool) (value : List ℕ) (t : Texts) → length (texts_by (placed kind forced value) t).frames ≡ length t.frames
value_depth Active forced value t = refl
value_depth Neutral true value t = refl
value_depth Neutral false value t = gathered_depth t.frames value (alone t) refl

value_capacity : (kind : Kind) (forced : Bool) (value : List ℕ) (e : Ends ℕ) → (with_value kind forced value e).capacity ≡ e.capacity
value_capacity Active forced value e = refl
value_capacity Neutral true value e = refl
value_capacity Neutral false value e = refl

value_length : (kind : Kind) (forced : Bool) (value : List ℕ) (e : Ends ℕ) → item_count (with_value kind forced value e) ≡ item_count e + length value
value_length Active forced value e = omega (arith, length-append value e.right)
value_length Neutral true value e = omega (arith, length-append value e.right)
value_length Neutral false value e = omega (arith, length-append e.left value)

module _ {functions : ℕ} {text : Ends ℕ} {ms : Ends Mark} {m : ShownTexts} (now : AreNow functions text ms m) (kind : Kind) (forced : Bool) (value : List ℕ)
    (room : bytes_in m.texts + length value ≤ m.text_room) (limit : bytes_in m.texts + length value ≤ TEXT_LIMIT) where
  pub value_fits : item_count text + length value ≤ text.capacity
  value_fits = omega (arith, room, byte_count (held_now now), ap (λ (x : ShownTexts). x.text_room) now.view)

  pub placed_now : {next : Ends ℕ} → next ≡ with_value kind forced value text → AreNow functions next ms (record m { texts = texts_by (placed kind forced value) m.texts })
  placed_now {next} is =
      let held = held_now now in
      let holds : Hold (with_value kind forced value text) ms (texts_by (placed kind forced value) m.texts) = holds_value kind forced value held in
      let bytes = value_length kind forced value text in
      let old = can_hold_now now in
      subst (λ (e : Ends ℕ). AreNow functions e ms (record m { texts = texts_by (placed kind forced value) m.texts })) (sym is)
      (held_as now holds (depth_now now ∙ sym (value_depth kind forced value m.texts)) (value_capacity kind forced value text) refl (record {
        text_room = omega (arith, room, byte_count holds, byte_count held, bytes);
        mark_room = omega (arith, old.mark_room, mark_count holds, mark_count held);
        text_limit = omega (arith, limit, byte_count holds, byte_count held, bytes);
        mark_limit = omega (arith, old.mark_limit, mark_count holds, mark_count held);
      }))
