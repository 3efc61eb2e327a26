-- What stood outside the active text stands where it stood, when a text is gathered, an argument finished or a function begun.
use Rattle.std.proofs.Common.{◌≡◌, ℕ, zero, suc, ◌+◌, ◌<◌, true, false, List, [], ◌∷◌, ◌++◌, length, get_or, refl, sym, ap, subst, ◌∙◌, arith, ⊎_elim}
use Rattle.std.specs.Prelude.{Option, Some, ◌==◌}
use Rattle.std.specs.Option.{option_map_or}
use Rattle.std.proofs.lemmas.Bool.{cases_Bool, cond-true, cond-false, eq-eqb, eqb-true, ne_eqb}
use Rattle.std.proofs.lemmas.List.{get_or_append_left, get_or-append-add, get_or_at}
use Rattle.std.proofs.lemmas.Option.{same_Some}
use Rattle.trac_rules.specs.declared.item.Item.{Item}
use Rattle.trac_rules.specs.Effect.{argument}
use Rattle.trac_rules.specs.State.{Frame, State}
use Rattle.trac_origins.specs.Places.{Place, InActive, InBase, InArgument, InForm, InHeld, InOutput, Origin, Carried, Made, arguments_of, found_at, numbered}
use Rattle.trac_origins.specs.Lists.{FrameOrigins, all_kept, frame_kept, frames_kept, kept, lists_of, origin_at, texts_kept}
use Rattle.trac_origins.specs.Moving.{begun_from, comma_from, gather_from}
use Rattle.trac_origins.specs.Lengths.{current_text, in_current, is_outside}
use Rattle.trac_origins.proofs.Told.{IsIn, argument_at, byte_within, frames_told, in_frames, is_in, kept_told, length-frames_kept, length-one_each, length-texts_kept, text_at}
use Rattle.trac_origins.proofs.Zips.{number_within}

-- ---- lists of lists

-- the last of which is longer
longer_last : (lists : List (List Origin)) (last more : List Origin) (k i : ℕ) → i < length (get_or (lists ++ last ∷ []) k []) →
    get_or (get_or (lists ++ (last ++ more) ∷ []) k []) i Made ≡ get_or (get_or (lists ++ last ∷ []) k []) i Made
longer_last [] last more zero i l = get_or_append_left last more Made i l
longer_last [] last more (suc k) i l = refl
longer_last (os ∷ lists) last more zero i l = refl
longer_last (os ∷ lists) last more (suc k) i l = longer_last lists last more k i l

-- of which there are more
more_lists : (lists more : List (List Origin)) (k i : ℕ) → i < length (get_or lists k []) → get_or (get_or (lists ++ more) k []) i Made ≡ get_or (get_or lists k []) i Made
more_lists [] more k i l = absurd (omega (arith, l))
more_lists (os ∷ lists) more zero i l = refl
more_lists (os ∷ lists) more (suc k) i l = more_lists lists more k i l

-- ---- functions

-- with another innermost one, which tells the same of what stood in it
head_told : (f : Frame) (g : FrameOrigins) (fs : List Frame) (n k i : ℕ) → IsIn (f ∷ fs) n k i →
    (i < length (argument k (arguments_of f)) → get_or (get_or (lists_of g) k []) i Made ≡ Carried (InArgument (length fs) k i)) →
    in_frames (g ∷ frames_kept fs) n k i ≡ Carried (InArgument n k i)
head_told f g fs n k i is told =
    ⊎_elim
    (λ (t : (n == length fs) ≡ true).
    let same : f ≡ is.frame = same_Some f is.frame (sym (cond-true (n == length fs) (Some f) (numbered n fs) t) ∙ is.there) in
    let within : i < length (argument k (arguments_of f)) = subst (λ (h : Frame). i < length (argument k (arguments_of h))) (sym same) is.within in
    let test : (n == length (frames_kept fs)) ≡ true = ap (λ j. n == j) (length-frames_kept fs) ∙ t in
    ap (λ (found : Option FrameOrigins). option_map_or (λ h. get_or (get_or (lists_of h) k []) i Made) found Made)
    (cond-true (n == length (frames_kept fs)) (Some g) (numbered n (frames_kept fs)) test)
    ∙ told within ∙ ap (λ j. Carried (InArgument j k i)) (sym (eqb-true n (length fs) t)))
    (λ (t : (n == length fs) ≡ false).
    ap (λ (found : Option FrameOrigins). option_map_or (λ h. get_or (get_or (lists_of h) k []) i Made) found Made)
    (cond-false (n == length (frames_kept fs)) (Some g) (numbered n (frames_kept fs)) (ap (λ j. n == j) (length-frames_kept fs) ∙ t))
    ∙ frames_told fs n k i (record {
      frame = is.frame;
      there = sym (cond-false (n == length fs) (Some f) (numbered n fs) t) ∙ is.there;
      within = is.within;
    }))
    (cases_Bool (n == length fs))

begun_told : (g : FrameOrigins) (fs : List Frame) (n k i : ℕ) → IsIn fs n k i → in_frames (g ∷ frames_kept fs) n k i ≡ Carried (InArgument n k i)
begun_told g fs n k i is =
    let within = number_within n fs is.frame is.there in
    ap (λ (found : Option FrameOrigins). option_map_or (λ h. get_or (get_or (lists_of h) k []) i Made) found Made)
    (cond-false (n == length (frames_kept fs)) (Some g) (numbered n (frames_kept fs)) (ne_eqb n (length (frames_kept fs)) (λ e. absurd (omega (arith, e, within, length-frames_kept fs)))))
    ∙ frames_told fs n k i is

argument_length : (n : ℕ) (f : Frame) (k : ℕ) → length (get_or (lists_of (frame_kept n f)) k []) ≡ length (argument k (arguments_of f))
argument_length n f k =
    ap (λ (os : List Origin). length os) (text_at (InArgument n) f.arguments f.gathered k) ∙ length-one_each (λ j. Carried (InArgument n k j)) (argument k (arguments_of f))

-- ---- places outside the active text

-- another active text
pub outside_told : (s : State) (rest : List Origin) (place : Place) (item : Item) → is_outside place ≡ true → found_at s place ≡ Some item →
    origin_at (record (all_kept s) { active = rest }) place ≡ Carried place
outside_told s rest (InActive i) item out e = absurd (cc)
outside_told s rest other item out e = kept_told s other item e

-- a text gathered
pub gather_told : (s : State) (rest text : List Origin) (place : Place) (item : Item) → is_outside place ≡ true → found_at s place ≡ Some item →
    origin_at (gather_from (frames_kept s.frames) text (record (all_kept s) { active = rest })) place ≡ Carried place
gather_told s rest text place item out e = go s.frames refl place out e
  where
    go : (fs : List Frame) → s.frames ≡ fs → (p : Place) → is_outside p ≡ true → found_at s p ≡ Some item →
        origin_at (gather_from (frames_kept fs) text (record (all_kept s) { active = rest })) p ≡ Carried p
    go [] is (InActive i) out e = absurd (cc)
    go [] is (InBase i) out e =
        get_or_append_left (kept InBase s.base) text Made i (omega (arith, byte_within i s.base item e, length-one_each (λ j. Carried (InBase j)) s.base))
        ∙ kept_told s (InBase i) item e
    go [] is (InArgument n k i) out e = kept_told s (InArgument n k i) item e
    go [] is (InForm name i) out e = kept_told s (InForm name i) item e
    go [] is (InHeld number name i) out e = kept_told s (InHeld number name i) item e
    go [] is (InOutput i) out e = kept_told s (InOutput i) item e
    go (f ∷ fs) is (InActive i) out e = absurd (cc)
    go (f ∷ fs) is (InBase i) out e = kept_told s (InBase i) item e
    go (f ∷ fs) is (InArgument n k i) out e =
        head_told f (record { arguments = texts_kept (InArgument (length fs)) f.arguments; gathered = kept (InArgument (length fs) (length f.arguments)) f.gathered ++ text }) fs n k i
        (subst (λ (gs : List Frame). IsIn gs n k i) is (is_in s n k i item e))
        (λ within. longer_last (texts_kept (InArgument (length fs)) f.arguments) (kept (InArgument (length fs) (length f.arguments)) f.gathered) text k i
        (omega (arith, within, argument_length (length fs) f k)) ∙ argument_at (length fs) f k i within)
    go (f ∷ fs) is (InForm name i) out e = kept_told s (InForm name i) item e
    go (f ∷ fs) is (InHeld number name i) out e = kept_told s (InHeld number name i) item e
    go (f ∷ fs) is (InOutput i) out e = kept_told s (InOutput i) item e

-- an argument finished
pub comma_told : (s : State) (rest : List Origin) (place : Place) (item : Item) → is_outside place ≡ true → found_at s place ≡ Some item →
    origin_at (comma_from (frames_kept s.frames) (record (all_kept s) { active = rest })) place ≡ Carried place
comma_told s rest place item out e = go s.frames refl place out e
  where
    go : (fs : List Frame) → s.frames ≡ fs → (p : Place) → is_outside p ≡ true → found_at s p ≡ Some item →
        origin_at (comma_from (frames_kept fs) (record (all_kept s) { active = rest })) p ≡ Carried p
    go [] is p out e = outside_told s rest p item out e
    go (f ∷ fs) is (InActive i) out e = absurd (cc)
    go (f ∷ fs) is (InBase i) out e = kept_told s (InBase i) item e
    go (f ∷ fs) is (InArgument n k i) out e =
        head_told f (record { arguments = lists_of (frame_kept (length fs) f); gathered = [] }) fs n k i
        (subst (λ (gs : List Frame). IsIn gs n k i) is (is_in s n k i item e))
        (λ within. more_lists (lists_of (frame_kept (length fs) f)) ([] ∷ []) k i (omega (arith, within, argument_length (length fs) f k)) ∙ argument_at (length fs) f k i within)
    go (f ∷ fs) is (InForm name i) out e = kept_told s (InForm name i) item e
    go (f ∷ fs) is (InHeld number name i) out e = kept_told s (InHeld number name i) item e
    go (f ∷ fs) is (InOutput i) out e = kept_told s (InOutput i) item e

-- a function begun
pub begun_from_told : (s : State) (rest : List Origin) (place : Place) (item : Item) → is_outside place ≡ true → found_at s place ≡ Some item →
    origin_at (begun_from (record (all_kept s) { active = rest })) place ≡ Carried place
begun_from_told s rest (InActive i) item out e = absurd (cc)
begun_from_told s rest (InArgument n k i) item out e = begun_told (record { arguments = []; gathered = [] }) s.frames n k i (is_in s n k i item e)
begun_from_told s rest other item out e = kept_told s other item e

-- ---- what is gathered

pub gathered_told : (s : State) (rest text : List Origin) (i : ℕ) →
    origin_at (gather_from (frames_kept s.frames) text (record (all_kept s) { active = rest })) (in_current s.frames (length (current_text s.frames s) + i)) ≡ get_or text i Made
gathered_told s rest text i = go s.frames
  where
    after : {A : Type 0} (place : ℕ → Place) (xs : List A) → get_or (kept place xs ++ text) (length xs + i) Made ≡ get_or text i Made
    after place xs =
        ap (λ n. get_or (kept place xs ++ text) (n + i) Made) (sym (length-one_each (λ j. Carried (place j)) xs)) ∙ get_or-append-add (kept place xs) text i Made

    go : (fs : List Frame) → origin_at (gather_from (frames_kept fs) text (record (all_kept s) { active = rest })) (in_current fs (length (current_text fs s) + i)) ≡ get_or text i Made
    go [] = after InBase s.base
    go (f ∷ fs) =
        let lists = texts_kept (InArgument (length fs)) f.arguments in
        let last = kept (InArgument (length fs) (length f.arguments)) f.gathered ++ text in
        let g : FrameOrigins = record { arguments = lists; gathered = last } in
        let at = length f.gathered + i in
        ap (λ (found : Option FrameOrigins). option_map_or (λ h. get_or (get_or (lists_of h) (length f.arguments) []) at Made) found Made)
        (cond-true (length fs == length (frames_kept fs)) (Some g) (numbered (length fs) (frames_kept fs)) (eq-eqb (length fs) (length (frames_kept fs)) (sym (length-frames_kept fs))))
        ∙ ap (λ (os : List Origin). get_or os at Made) (get_or_at lists last [] [] (length f.arguments) (length-texts_kept (InArgument (length fs)) f.arguments))
        ∙ after (InArgument (length fs) (length f.arguments)) f.gathered
