-- Origins by lengths.
use Rattle.std.proofs.Common.{◌≡◌, ℕ, zero, suc, ◌<◌, true, false, List, [], ◌∷◌, ◌++◌, length, get_or, refl, sym, ap, ◌∙◌, arith, ⊎_elim}
use Rattle.std.specs.Prelude.{Option, None, Some, ◌==◌, option_map, slice_get}
use Rattle.std.specs.FinMap as finite
use Rattle.std.specs.Option.{option_map_or}
use Rattle.std.proofs.lemmas.Bool.{cases_Bool, cond-true, cond-false, eqb-true}
use Rattle.std.proofs.lemmas.Option.{option_and_then_some, slice_get_within}
use Rattle.trac_rules.specs.declared.item.Item.{Item}
use Rattle.trac_rules.specs.declared.item.Item.TheVariants.{Byte}
use Rattle.trac_rules.specs.Blocks.{block_at}
use Rattle.trac_rules.specs.Effect.{argument}
use Rattle.trac_rules.specs.State.{Frame, State}
use Rattle.trac_origins.specs.Places.{Place, InActive, InBase, InArgument, InForm, InHeld, InOutput, Origin, Carried, Made, arguments_of, byte_at, found_at, held_form, items_of, numbered}
use Rattle.trac_origins.specs.Lists.{FrameOrigins, all_kept, frame_kept, frames_kept, kept, lists_of, one_each, origin_at, texts_kept}

-- ---- one origin for each

pub length-one_each : {A : Type 0} (from : ℕ → Origin) (xs : List A) → length (one_each from xs) ≡ length xs
length-one_each from [] = refl
length-one_each from (x ∷ xs) = ap suc (length-one_each (λ i. from (suc i)) xs)

pub one_each-at : {A : Type 0} (from : ℕ → Origin) (xs : List A) (i : ℕ) → i < length xs → get_or (one_each from xs) i Made ≡ from i
one_each-at from [] i l = absurd (omega arith)
one_each-at from (x ∷ xs) zero l = refl
one_each-at from (x ∷ xs) (suc i) l = one_each-at (λ k. from (suc k)) xs i (omega arith)

pub byte_within : (i : ℕ) (text : List ℕ) (item : Item) → byte_at i text ≡ Some item → i < length text
byte_within i text item e = go (slice_get text i) refl e
  where
    go : (found : Option ℕ) → slice_get text i ≡ found → option_map Byte found ≡ Some item → i < length text
    go None is e = absurd (cc)
    go (Some b) is e = slice_get_within text i b is

-- ---- a state in which nothing has moved

pub length-frames_kept : (fs : List Frame) → length (frames_kept fs) ≡ length fs
length-frames_kept [] = refl
length-frames_kept (f ∷ fs) = ap suc (length-frames_kept fs)

pub length-texts_kept : (place : ℕ → ℕ → Place) (texts : List (List ℕ)) → length (texts_kept place texts) ≡ length texts
length-texts_kept place [] = refl
length-texts_kept place (text ∷ texts) = ap suc (length-texts_kept (λ k. place (suc k)) texts)

frame_at : (fs : List Frame) (n : ℕ) (f : Frame) → numbered n fs ≡ Some f → numbered n (frames_kept fs) ≡ Some (frame_kept n f)
frame_at [] n f there = absurd (cc)
frame_at (g ∷ fs) n f there =
    ⊎_elim
    (λ (t : (n == length fs) ≡ true).
    let same : Some g ≡ Some f = sym (cond-true (n == length fs) (Some g) (numbered n fs) t) ∙ there in
    let number : length fs ≡ n = sym (eqb-true n (length fs) t) in
    let test : (n == length (frames_kept fs)) ≡ true = ap (λ k. n == k) (length-frames_kept fs) ∙ t in
    cond-true (n == length (frames_kept fs)) (Some (frame_kept (length fs) g)) (numbered n (frames_kept fs)) test
    ∙ ap (λ k. Some (frame_kept k g)) number ∙ ap (option_map (frame_kept n)) same)
    (λ (t : (n == length fs) ≡ false).
    cond-false (n == length (frames_kept fs)) (Some (frame_kept (length fs) g)) (numbered n (frames_kept fs)) (ap (λ k. n == k) (length-frames_kept fs) ∙ t)
    ∙ frame_at fs n f (sym (cond-false (n == length fs) (Some g) (numbered n fs) t) ∙ there))
    (cases_Bool (n == length fs))

-- an argument of it
pub text_at : (place : ℕ → ℕ → Place) (texts : List (List ℕ)) (last : List ℕ) (k : ℕ) →
    get_or (texts_kept place texts ++ kept (place (length texts)) last ∷ []) k [] ≡ kept (place k) (get_or (texts ++ last ∷ []) k [])
text_at place [] last zero = refl
text_at place [] last (suc k) = refl
text_at place (text ∷ texts) last zero = refl
text_at place (text ∷ texts) last (suc k) = text_at (λ j. place (suc j)) texts last k

-- a byte of it
pub argument_at : (n : ℕ) (f : Frame) (k i : ℕ) → i < length (argument k (arguments_of f)) → get_or (get_or (lists_of (frame_kept n f)) k []) i Made ≡ Carried (InArgument n k i)
argument_at n f k i l =
    ap (λ (os : List Origin). get_or os i Made) (text_at (InArgument n) f.arguments f.gathered k)
    ∙ one_each-at (λ j. Carried (InArgument n k j)) (argument k (arguments_of f)) i l

-- what stands at a place
pub record IsIn (fs : List Frame) (n k i : ℕ) : Type 0 where
  pub frame : Frame
  pub there : numbered n fs ≡ Some frame
  pub within : i < length (argument k (arguments_of frame))

pub is_in : (s : State) (n k i : ℕ) (item : Item) → found_at s (InArgument n k i) ≡ Some item → IsIn s.frames n k i
is_in s n k i item e =
    option_and_then_some (λ (f : Frame). byte_at i (argument k (arguments_of f))) (numbered n s.frames) item e
    (λ f there stands. record { frame = f; there = there; within = byte_within i (argument k (arguments_of f)) item stands })

-- an origin of a list of functions
abbrev pub in_frames : List FrameOrigins → ℕ → ℕ → ℕ → Origin
in_frames gs n k i = option_map_or (λ g. get_or (get_or (lists_of g) k []) i Made) (numbered n gs) Made

pub frames_told : (fs : List Frame) (n k i : ℕ) → IsIn fs n k i → in_frames (frames_kept fs) n k i ≡ Carried (InArgument n k i)
frames_told fs n k i is =
    ap (λ (found : Option FrameOrigins). option_map_or (λ g. get_or (get_or (lists_of g) k []) i Made) found Made) (frame_at fs n is.frame is.there)
    ∙ argument_at n is.frame k i is.within

pub kept_told : (s : State) (place : Place) (item : Item) → found_at s place ≡ Some item → origin_at (all_kept s) place ≡ Carried place
kept_told s (InActive i) item e = one_each-at (λ j. Carried (InActive j)) s.active i (byte_within i s.active item e)
kept_told s (InBase i) item e = one_each-at (λ j. Carried (InBase j)) s.base i (byte_within i s.base item e)
kept_told s (InArgument n k i) item e = frames_told s.frames n k i (is_in s n k i item e)
kept_told s (InForm name i) item e =
    one_each-at (λ j. Carried (InForm name j)) (items_of (finite.get s.forms name)) i (slice_get_within (items_of (finite.get s.forms name)) i item e)
kept_told s (InHeld number name i) item e =
    let items = items_of (held_form name (block_at number s.blocks)) in
    one_each-at (λ j. Carried (InHeld number name j)) items i (slice_get_within items i item e)
kept_told s (InOutput i) item e = one_each-at (λ j. Carried (InOutput j)) s.output i (byte_within i s.output item e)
