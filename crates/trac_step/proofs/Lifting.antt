-- What the rules of scanning and the ways back make of a state, from what they make of its texts.
use Rattle.std.proofs.Common.{◌≡◌, ℕ, ◌≤◌, Bool, true, false, List, [], ◌∷◌, ◌++◌, length, take, drop, refl, sym, ap, ◌∙◌, subst, arith}
use Rattle.std.specs.Prelude.{Option, Some, None, IsSome, codes, if◌then◌else◌, nat_le, option_map, ◌==◌, ◌&&◌}
use Rattle.std.specs.Bool.{then_some}
use Rattle.trac_gap.specs.Window.{Window}
use Rattle.trac_rules.specs.declared.kind.Kind.{Kind}
use Rattle.trac_rules.specs.declared.kind.Kind.TheVariants.{Active, Neutral}
use Rattle.trac_rules.specs.declared.scan.Front.{Front}
use Rattle.trac_rules.specs.declared.scan.Front.TheVariants as front
use Rattle.trac_rules.specs.declared.width.Width.{Width}
use Rattle.trac_rules.specs.Matching.{protected}
use Rattle.trac_rules.specs.Performing.{beginning_of, placed}
use Rattle.trac_rules.specs.PlainRuns.{moved_on}
use Rattle.trac_rules.specs.Records.{Begun, Comma, Quoted, Rest, Texts, all_before_last, comma_recorded, ending_of, frame_of, gathered_again_in, last_of, moved_back, moved_back_in, not_begun_in, put_before, recorded, recorded_at, restored, state_of, texts_in}
use Rattle.trac_rules.specs.Scanning.{Scanned, Calls, Moves, closing_in, comma_in, deleted, front_of, gathered_in, scan, scan_at}
use Rattle.trac_rules.specs.State.{Frame, State, Storage}
use Rattle.trac_forms.specs.Stored.{Stored, storage_in}
use Rattle.trac_text.specs.Holding.{CanHoldAgain, ShownTexts, alone, texts_by}
use Rattle.trac_text.specs.Ruled.{said_by}
use Rattle.trac_text.specs.declared.scanning.Short.{Short}
use Rattle.trac_text.specs.declared.scanning.Short.TheVariants as short
use Rattle.trac_storage.proofs.Judged.{limits_kept}
use Rattle.trac_step.specs.Layout.{Shown, rest_in, shown_by}
use Rattle.trac_step.specs.Room.{IsNoLess}
use Rattle.trac_step.specs.Undoing.{CanShow}

-- ---- rules

-- a rule makes of a state what it makes of its texts, and leaves all else
abbrev pub Lifts : (State → State) → Type 0
Lifts rule = (t : Texts) (storage : Storage) (rest : Rest) → state_of (texts_by rule t) storage rest ≡ rule (state_of t storage rest)

gathered_lifts : (fs : List Frame) (more active : List ℕ) (t : Texts) (storage : Storage) (rest : Rest) →
    state_of (texts_in (gathered_in fs more (record (alone t) { active = active }))) storage rest ≡ gathered_in fs more (record (state_of t storage rest) { active = active })
gathered_lifts [] more active t storage rest = refl
gathered_lifts (f ∷ fs) more active t storage rest = refl

pub moved_lifts : (n : ℕ) → Lifts (moved_on n)
moved_lifts n t storage rest = gathered_lifts t.frames (take n t.active) (drop n t.active) t storage rest

-- so does scanning
abbrev scanned_with : Storage → Rest → Scanned → Scanned
scanned_with storage rest (Moves u) = Moves (state_of (texts_in u) storage rest)
scanned_with storage rest (Calls call) = Calls (record call { state = state_of (texts_in call.state) storage rest })

scan_lifts : (t : Texts) (storage : Storage) (rest : Rest) → scan (state_of t storage rest) ≡ scanned_with storage rest (scan (alone t))
unfolding scan
scan_lifts t storage rest = by_front (front_of t.active)
  where
    gathers : (more active : List ℕ) → Moves (gathered_in t.frames more (record (state_of t storage rest) { active = active })) ≡ scanned_with storage rest (Moves (gathered_in t.frames more (record (alone t) { active = active })))
    gathers more active = ap Moves (sym (gathered_lifts t.frames more active t storage rest))

    at_comma : (fs : List Frame) → Moves (comma_in fs (deleted 1 (state_of t storage rest))) ≡ scanned_with storage rest (Moves (comma_in fs (deleted 1 (alone t))))
    at_comma [] = refl
    at_comma (f ∷ fs) = refl

    at_closing : (fs : List Frame) → closing_in fs (deleted 1 (state_of t storage rest)) ≡ scanned_with storage rest (closing_in fs (deleted 1 (alone t)))
    at_closing [] = refl
    at_closing (f ∷ fs) = refl

    by_front : (at : Front) → scan_at at (state_of t storage rest) ≡ scanned_with storage rest (scan_at at (alone t))
    by_front front.Nothing = refl
    by_front front.Opening = gathers (protected (drop 1 t.active)).inner (protected (drop 1 t.active)).rest
    by_front front.Layout = refl
    by_front front.Comma = at_comma t.frames
    by_front front.ActiveCall = refl
    by_front front.NeutralCall = refl
    by_front front.Sharp = gathers (take 1 t.active) (drop 1 t.active)
    by_front front.Closing = at_closing t.frames
    by_front front.Plain = gathers (take 1 t.active) (drop 1 t.active)

-- what it destroys is told from the texts alone
recorded_lifts : (t : Texts) (storage : Storage) (rest : Rest) → recorded (state_of t storage rest) ≡ recorded (alone t)
recorded_lifts t storage rest = by_front (front_of t.active)
  where
    at_comma : (fs : List Frame) → comma_recorded fs (state_of t storage rest) ≡ comma_recorded fs (alone t)
    at_comma [] = refl
    at_comma (f ∷ fs) = refl

    by_front : (at : Front) → recorded_at at (state_of t storage rest) ≡ recorded_at at (alone t)
    by_front front.Nothing = refl
    by_front front.Opening = refl
    by_front front.Layout = refl
    by_front front.Comma = at_comma t.frames
    by_front front.ActiveCall = refl
    by_front front.NeutralCall = refl
    by_front front.Sharp = refl
    by_front front.Closing = refl
    by_front front.Plain = refl

pub placed_lifts : (kind : Kind) (forced : Bool) (value : List ℕ) → Lifts (placed kind forced value)
placed_lifts Active forced value t storage rest = refl
placed_lifts Neutral true value t storage rest = refl
placed_lifts Neutral false value t storage rest = gathered_lifts t.frames value t.active t storage rest

-- ---- ways back

-- a state with the texts of another
abbrev pub with_texts : Storage → Rest → State → State
with_texts storage rest u = state_of (texts_in u) storage rest

then_lifts : {X Y : Type 0} (f : X → Y) (b : Bool) (x : X) → then_some b (f x) ≡ option_map f (then_some b x)
then_lifts f true x = refl
then_lifts f false x = refl

-- a way back makes of a state what it makes of its texts, and leaves all else
abbrev pub LiftsBack : (State → Option State) → Type 0
LiftsBack back = (t : Texts) (storage : Storage) (rest : Rest) → back (state_of t storage rest) ≡ option_map (with_texts storage rest) (back (alone t))

back_lifts : (fs : List Frame) (n : ℕ) (t : Texts) (storage : Storage) (rest : Rest) →
    moved_back_in fs n (state_of t storage rest) ≡ option_map (with_texts storage rest) (moved_back_in fs n (alone t))
back_lifts [] n t storage rest = then_lifts (with_texts storage rest) (nat_le n (length t.base)) (put_before (last_of n t.base) (record (alone t) { base = all_before_last n t.base }))
back_lifts (f ∷ fs) n t storage rest =
    then_lifts (with_texts storage rest) (nat_le n (length f.gathered)) (put_before (last_of n f.gathered) (record (alone t) { frames = record f { gathered = all_before_last n f.gathered } ∷ fs }))

pub moved_back_lifts : (n : ℕ) → LiftsBack (moved_back n)
moved_back_lifts n t storage rest = back_lifts t.frames n t storage rest

pub quoted_lifts : (inner : ℕ) (closed : Bool) → LiftsBack (restored (Quoted inner closed))
quoted_lifts inner closed t storage rest =
    let ended : Texts = record t { active = ending_of closed ++ t.active } in
    ap (option_map (put_before (codes "("))) (moved_back_lifts inner ended storage rest) ∙ by_option (moved_back inner (alone ended))
  where
    by_option : (o : Option State) → option_map (put_before (codes "(")) (option_map (with_texts storage rest) o) ≡ option_map (with_texts storage rest) (option_map (put_before (codes "(")) o)
    by_option None = refl
    by_option (Some u) = refl

pub comma_lifts : LiftsBack (restored Comma)
comma_lifts t storage rest = by_frames t.frames
  where
    by_length : (b : Bool) (o : Option Frame) (fs : List Frame) →
        (if b then option_map (λ (g : Frame). put_before (codes ",") (record (state_of t storage rest) { frames = g ∷ fs })) o else None)
        ≡ option_map (with_texts storage rest) (if b then option_map (λ (g : Frame). put_before (codes ",") (record (alone t) { frames = g ∷ fs })) o else None)
    by_length true None fs = refl
    by_length true (Some g) fs = refl
    by_length false o fs = refl

    by_frames : (fs : List Frame) → gathered_again_in fs (state_of t storage rest) ≡ option_map (with_texts storage rest) (gathered_again_in fs (alone t))
    by_frames [] = refl
    by_frames (f ∷ fs) = by_length (length f.gathered == 0) (frame_of f.kind f.arguments) fs

pub begun_lifts : LiftsBack (restored Begun)
begun_lifts t storage rest = by_frames t.frames
  where
    by_frames : (fs : List Frame) → not_begun_in fs (state_of t storage rest) ≡ option_map (with_texts storage rest) (not_begun_in fs (alone t))
    by_frames [] = refl
    by_frames (f ∷ fs) = then_lifts (with_texts storage rest) (length f.arguments == 0 && length f.gathered == 0) (put_before (beginning_of f.kind) (record (alone t) { frames = fs }))

-- a way back over a rule of scanning
pub short_lifts : (short : Short) → LiftsBack (restored (said_by short))
short_lifts short.Moved = moved_back_lifts 1
short_lifts short.Comma = comma_lifts
short_lifts short.Begun = begun_lifts
short_lifts (short.Quoted inner closed) = quoted_lifts inner closed
short_lifts (short.Deleted b) = λ t storage rest. refl

-- ---- what is seen of a machine

module _ {texts : ShownTexts} {store : Stored} {meta : ℕ} {trace : Bool} {position : ℕ} {output : Window ℕ} {width : Width} {m : Shown} (view : shown_by texts store meta trace position output width ≡ m) where
  -- where other texts are seen
  abbrev pub seen : ShownTexts → Shown
  seen other = shown_by other store meta trace position output width

  -- a rule was carried out
  pub rule_state : (rule : State → State) → Lifts rule → (new : ShownTexts) → new.texts ≡ texts_by rule texts.texts → (seen new).state ≡ rule m.state
  rule_state rule lifts new is =
      ap (λ (t : Texts). state_of t (storage_in store) (rest_in meta trace position output)) is
      ∙ lifts texts.texts (storage_in store) (rest_in meta trace position output)
      ∙ ap (λ (n : Shown). rule n.state) view

  pub rule_shown : (rule : State → State) → Lifts rule → (new : ShownTexts) → new ≡ record texts { texts = texts_by rule texts.texts } → seen new ≡ record m { state = rule m.state }
  rule_shown rule lifts new is =
      ap seen is
      ∙ ap (λ (s : State). record (seen texts) { state = s }) (lifts texts.texts (storage_in store) (rest_in meta trace position output))
      ∙ ap (λ (n : Shown). record n { state = rule n.state }) view

  -- scanning of the texts alone moved on
  pub scanned_there : (new : ShownTexts) → scan (alone texts.texts) ≡ Moves (alone new.texts) → scan m.state ≡ Moves (seen new).state
  scanned_there new is =
      ap (λ (n : Shown). scan n.state) (sym view)
      ∙ scan_lifts texts.texts (storage_in store) (rest_in meta trace position output)
      ∙ ap (scanned_with (storage_in store) (rest_in meta trace position output)) is

  -- and destroyed this
  pub recorded_there : recorded (alone texts.texts) ≡ recorded m.state
  recorded_there = sym (recorded_lifts texts.texts (storage_in store) (rest_in meta trace position output)) ∙ ap (λ (n : Shown). recorded n.state) view

  -- texts have other rooms, none of them less
  pub no_less_texts : (new : ShownTexts) → texts.text_room ≤ new.text_room → texts.mark_room ≤ new.mark_room → IsNoLess m (seen new)
  no_less_texts new text_room mark_room = subst (λ (n : Shown). IsNoLess n (seen new)) view
      (record { width = refl; text = text_room; marks = mark_room; output = omega arith; names = λ name h. h; recent = λ name h. h })

  -- texts and begun functions are others, in the same room
  pub only_texts : (new : ShownTexts) → new ≡ record texts { texts = new.texts } → seen new ≡ record m { state = (seen new).state }
  only_texts new is =
      ap (λ (x : ShownTexts). record (seen new) { text_room = x.text_room; mark_room = x.mark_room }) is
      ∙ ap (λ (n : Shown). record n { state = (seen new).state }) view

  -- there is room for the texts of a state before
  pub can_hold : (back : State → Option State) → LiftsBack back → CanShow m (back m.state) → CanHoldAgain texts (back (alone texts.texts))
  can_hold back lifts can =
      by_option (back (alone texts.texts)) (subst (CanShow (seen texts)) (lifts texts.texts (storage_in store) (rest_in meta trace position output)) (subst (λ (n : Shown). CanShow n (back n.state)) (sym view) can))
    where
      by_option : (o : Option State) → CanShow (seen texts) (option_map (with_texts (storage_in store) (rest_in meta trace position output)) o) → CanHoldAgain texts o
      by_option None h = h
      by_option (Some u) h =
          let kept = limits_kept (with_texts (storage_in store) (rest_in meta trace position output) u) h.1.texts in
          record { text_room = h.0.text; mark_room = h.0.marks; text_limit = kept.text; mark_limit = kept.marked }

  pub is_back : (back : State → Option State) → LiftsBack back → IsSome (back m.state) → IsSome (back (alone texts.texts))
  is_back back lifts h =
      by_option (back (alone texts.texts)) (subst IsSome (lifts texts.texts (storage_in store) (rest_in meta trace position output)) (subst (λ (n : Shown). IsSome (back n.state)) (sym view) h))
    where
      by_option : (o : Option State) → IsSome (option_map (with_texts (storage_in store) (rest_in meta trace position output)) o) → IsSome o
      by_option None h = h
      by_option (Some u) h = refl

  -- and when they are there again, the state before is
  pub goes_back : (back : State → Option State) → LiftsBack back → (new : ShownTexts) → back (alone texts.texts) ≡ Some (alone new.texts) → back m.state ≡ Some (seen new).state
  goes_back back lifts new is =
      ap (λ (n : Shown). back n.state) (sym view)
      ∙ lifts texts.texts (storage_in store) (rest_in meta trace position output)
      ∙ ap (option_map (with_texts (storage_in store) (rest_in meta trace position output))) is
