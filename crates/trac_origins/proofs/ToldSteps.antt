-- Origins by lengths, of a step.
use Rattle.std.proofs.Common.{◌≡◌, ℕ, zero, suc, ◌+◌, ◌-◌, ◌<◌, true, false, List, [], ◌∷◌, ◌++◌, length, take, drop, get_or, refl, sym, ap, subst, ◌∙◌, arith}
use Rattle.std.specs.Prelude.{Option, None, Some, ◌==◌, option_and_then}
use Rattle.std.proofs.lemmas.Bool.{cond-true, eq-eqb}
use Rattle.std.proofs.lemmas.List.{drop-drop, drop_all, get_or_at, get_or-drop, get_or-take, length-append, length-drop, length-take}
use Rattle.trac_rules.specs.declared.item.Item.{Item}
use Rattle.trac_rules.specs.declared.scan.Front.{Front}
use Rattle.trac_rules.specs.declared.scan.Front.TheVariants.{Nothing, Opening, Layout, Comma, ActiveCall, NeutralCall, Sharp, Closing, Plain}
use Rattle.trac_rules.specs.Bytes.{idle_program}
use Rattle.trac_rules.specs.Effect.{argument}
use Rattle.trac_rules.specs.Matching.{match_of, protected_up_to}
use Rattle.trac_rules.specs.Scanning.{Scanned, Moves, Calls, closing_in, comma_in, deleted, front_of, gathered_in, protect, scan, scan_at}
use Rattle.trac_rules.specs.State.{Environment, Frame, State}
use Rattle.trac_rules.proofs.MovedOn.{active-gathered}
use Rattle.trac_origins.specs.Places.{Place, InActive, InBase, InArgument, InForm, InHeld, InOutput, Origin, Carried, Made, arguments_of, byte_at, found_at, numbered}
use Rattle.trac_origins.specs.Lists.{FrameOrigins, Origins, all_kept, frames_kept, kept, one_each, origin_at}
use Rattle.trac_origins.specs.Moving.{comma_from, deleted_from, gather_from, moved_from, protect_from}
use Rattle.trac_origins.specs.Stepping.{origin, origins, scanned_from}
use Rattle.trac_origins.specs.Accounts.{makes_idle}
use Rattle.trac_origins.specs.Lengths.{current_text, first_moved, in_current, is_outside, is_stored, moves_bytes}
use Rattle.trac_origins.proofs.Growing.{begun_from_told, comma_told, gather_told, gathered_told, outside_told}
use Rattle.trac_origins.proofs.Told.{byte_within, kept_told, length-one_each, one_each-at}

-- the origins after a rule that moves on
of_moves : (environment : Environment) (s t : State) (place : Place) → scan s ≡ Moves t → origin environment s place ≡ origin_at (moved_from (front_of s.active) s (all_kept s)) place
unfolding origins
of_moves environment s t place is = ap (λ x. origin_at (scanned_from environment s x) place) is

at_front : (s : State) (x : Scanned) → scan s ≡ x → scan_at (front_of s.active) s ≡ x
unfolding scan
at_front s x is = is

-- ---- what stays

stays_at : (f : Front) (s : State) (place : Place) (item : Item) → makes_idle f ≡ false → is_outside place ≡ true → found_at s place ≡ Some item →
    origin_at (moved_from f s (all_kept s)) place ≡ Carried place
stays_at f s place item idle out e = go f idle
  where
    opening : (at : Option ℕ) → origin_at (protect_from at (drop 1 (kept InActive s.active)) (all_kept s)) place ≡ Carried place
    opening None = gather_told s [] (drop 1 (kept InActive s.active)) place item out e
    opening (Some k) = gather_told s (drop (k + 1) (drop 1 (kept InActive s.active))) (take k (drop 1 (kept InActive s.active))) place item out e

    go : (g : Front) → makes_idle g ≡ false → origin_at (moved_from g s (all_kept s)) place ≡ Carried place
    go Nothing idle = absurd (cc)
    go Opening idle = opening (match_of (drop 1 s.active))
    go Layout idle = outside_told s (drop 1 (kept InActive s.active)) place item out e
    go Comma idle = comma_told s (drop 1 (kept InActive s.active)) place item out e
    go ActiveCall idle = begun_from_told s (drop 2 (kept InActive s.active)) place item out e
    go NeutralCall idle = begun_from_told s (drop 3 (kept InActive s.active)) place item out e
    go Sharp idle = gather_told s (drop 1 (kept InActive s.active)) (take 1 (kept InActive s.active)) place item out e
    go Closing idle = outside_told s (drop 1 (kept InActive s.active)) place item out e
    go Plain idle = gather_told s (drop 1 (kept InActive s.active)) (take 1 (kept InActive s.active)) place item out e

pub scanning_stays : (environment : Environment) (s t : State) (place : Place) (item : Item) → scan s ≡ Moves t → makes_idle (front_of s.active) ≡ false →
    is_outside place ≡ true → found_at s place ≡ Some item → origin environment s place ≡ Carried place
scanning_stays environment s t place item is idle out e = of_moves environment s t place is ∙ stays_at (front_of s.active) s place item idle out e

-- ---- the rest of the active text

pub active-gather_from : (gs : List FrameOrigins) (text : List Origin) (o : Origins) → (gather_from gs text o).active ≡ o.active
active-gather_from [] text o = refl
active-gather_from (g ∷ gs) text o = refl

active-comma_from : (gs : List FrameOrigins) (o : Origins) → (comma_from gs o).active ≡ o.active
active-comma_from [] o = refl
active-comma_from (g ∷ gs) o = refl

active-comma_in : (fs : List Frame) (s : State) → (comma_in fs s).active ≡ s.active
active-comma_in [] s = refl
active-comma_in (f ∷ fs) s = refl

-- both active texts lost so many
record HasLost (n : ℕ) (o : Origins) (s t : State) : Type 0 where
  origins : o.active ≡ drop n (kept InActive s.active)
  bytes : t.active ≡ drop n s.active

abbrev LosesAt : Front → State → Scanned → Type 0
LosesAt f s (Moves t) = (n : ℕ) × HasLost n (moved_from f s (all_kept s)) s t
LosesAt f s (Calls call) = Unit {0}

loses : (f : Front) (s : State) → makes_idle f ≡ false → LosesAt f s (scan_at f s)
loses f s idle = go f idle
  where
    gathers : (text : List Origin) (bytes : List ℕ) (n : ℕ) →
        HasLost n (gather_from (frames_kept s.frames) text (record (all_kept s) { active = drop n (kept InActive s.active) })) s (gathered_in s.frames bytes (record s { active = drop n s.active }))
    gathers text bytes n = record {
      origins = active-gather_from (frames_kept s.frames) text (record (all_kept s) { active = drop n (kept InActive s.active) });
      bytes = active-gathered s.frames bytes (record s { active = drop n s.active });
    }

    opening : (at : Option ℕ) →
        (n : ℕ) × HasLost n (protect_from at (drop 1 (kept InActive s.active)) (all_kept s)) s (protect (protected_up_to at (drop 1 s.active)) s)
    opening None = (
      length s.active,
      record {
        origins = active-gather_from (frames_kept s.frames) (drop 1 (kept InActive s.active)) (record (all_kept s) { active = [] })
            ∙ sym (drop_all (length s.active) (kept InActive s.active) (omega (arith, length-one_each (λ j. Carried (InActive j)) s.active)));
        bytes = active-gathered s.frames (drop 1 s.active) (record s { active = [] }) ∙ sym (drop_all (length s.active) s.active (omega arith));
      },
    )
    opening (Some k) = (
      1 + (k + 1),
      record {
        origins = active-gather_from (frames_kept s.frames) (take k (drop 1 (kept InActive s.active))) (record (all_kept s) { active = drop (k + 1) (drop 1 (kept InActive s.active)) })
            ∙ drop-drop (k + 1) 1 (kept InActive s.active);
        bytes = active-gathered s.frames (take k (drop 1 s.active)) (record s { active = drop (k + 1) (drop 1 s.active) }) ∙ drop-drop (k + 1) 1 s.active;
      },
    )

    closing : (fs : List Frame) → LosesAt Closing s (closing_in fs (deleted 1 s))
    closing [] = (1, record { origins = refl; bytes = refl })
    closing (g ∷ fs) = tt

    go : (g : Front) → makes_idle g ≡ false → LosesAt g s (scan_at g s)
    go Nothing idle = absurd (cc)
    go Opening idle = opening (match_of (drop 1 s.active))
    go Layout idle = (1, record { origins = refl; bytes = refl })
    go Comma idle = (1, record { origins = active-comma_from (frames_kept s.frames) (deleted_from 1 (all_kept s)); bytes = active-comma_in s.frames (deleted 1 s) })
    go ActiveCall idle = (2, record { origins = refl; bytes = refl })
    go NeutralCall idle = (3, record { origins = refl; bytes = refl })
    go Sharp idle = (1, gathers (take 1 (kept InActive s.active)) (take 1 s.active) 1)
    go Closing idle = closing s.frames
    go Plain idle = (1, gathers (take 1 (kept InActive s.active)) (take 1 s.active) 1)

pub lost_told : (n : ℕ) (text : List ℕ) (i : ℕ) → n + i < length text → get_or (drop n (kept InActive text)) i Made ≡ Carried (InActive (n + i))
lost_told n text i l = get_or-drop n (kept InActive text) i Made ∙ one_each-at (λ j. Carried (InActive j)) text (n + i) l

pub scanning_rest : (environment : Environment) (s t : State) (i : ℕ) → scan s ≡ Moves t → makes_idle (front_of s.active) ≡ false → i < length t.active →
    origin environment s (InActive i) ≡ Carried (InActive (length s.active - length t.active + i))
scanning_rest environment s t i is idle l =
    let lost = subst (LosesAt (front_of s.active) s) (at_front s (Moves t) is) (loses (front_of s.active) s idle) in
    let n : ℕ = lost.0 in
    let counted : length t.active ≡ length s.active - n = ap (λ (text : List ℕ). length text) lost.1.bytes ∙ length-drop n s.active in
    of_moves environment s t (InActive i) is ∙ ap (λ (os : List Origin). get_or os i Made) lost.1.origins
    ∙ lost_told n s.active i (omega (arith, counted, l)) ∙ ap (λ j. Carried (InActive j)) (omega (arith, counted, l))

-- ---- what is moved

-- a text that went to the current text, with its origins
record HasMoved (first : ℕ) (o : Origins) (s t : State) : Type 0 where
  bytes : List ℕ
  text : List Origin
  rest : List Origin
  left : List ℕ
  origins : o ≡ gather_from (frames_kept s.frames) text (record (all_kept s) { active = rest })
  state : t ≡ gathered_in s.frames bytes (record s { active = left })
  each : (i : ℕ) → i < length bytes → get_or text i Made ≡ Carried (InActive (first + i))

abbrev MovesAt : Front → State → Scanned → Type 0
MovesAt f s (Moves t) = HasMoved (first_moved f) (moved_from f s (all_kept s)) s t
MovesAt f s (Calls call) = Unit {0}

moves_on : (f : Front) (s : State) → moves_bytes f ≡ true → MovesAt f s (scan_at f s)
moves_on f s moving = go f moving
  where
    first : HasMoved 0 (gather_from (frames_kept s.frames) (take 1 (kept InActive s.active)) (deleted_from 1 (all_kept s))) s (gathered_in s.frames (take 1 s.active) (deleted 1 s))
    first = record {
      bytes = take 1 s.active;
      text = take 1 (kept InActive s.active);
      rest = drop 1 (kept InActive s.active);
      left = drop 1 s.active;
      origins = refl;
      state = refl;
      each = λ i l.
          get_or-take 1 (kept InActive s.active) i Made (omega (arith, l, length-take 1 s.active))
          ∙ one_each-at (λ j. Carried (InActive j)) s.active i (omega (arith, l, length-take 1 s.active))
          ∙ ap (λ j. Carried (InActive j)) (omega arith);
    }

    opening : (at : Option ℕ) → HasMoved 1 (protect_from at (drop 1 (kept InActive s.active)) (all_kept s)) s (protect (protected_up_to at (drop 1 s.active)) s)
    opening None = record {
      bytes = drop 1 s.active;
      text = drop 1 (kept InActive s.active);
      rest = [];
      left = [];
      origins = refl;
      state = refl;
      each = λ i l. lost_told 1 s.active i (omega (arith, l, length-drop 1 s.active));
    }
    opening (Some k) = record {
      bytes = take k (drop 1 s.active);
      text = take k (drop 1 (kept InActive s.active));
      rest = drop (k + 1) (drop 1 (kept InActive s.active));
      left = drop (k + 1) (drop 1 s.active);
      origins = refl;
      state = refl;
      each = λ i l.
          get_or-take k (drop 1 (kept InActive s.active)) i Made (omega (arith, l, length-take k (drop 1 s.active)))
          ∙ lost_told 1 s.active i (omega (arith, l, length-take k (drop 1 s.active), length-drop 1 s.active));
    }

    go : (g : Front) → moves_bytes g ≡ true → MovesAt g s (scan_at g s)
    go Opening moving = opening (match_of (drop 1 s.active))
    go Sharp moving = first
    go Plain moving = first
    go other moving = absurd (cc)

-- how long the current text is then
pub length-current : (fs : List Frame) (bytes : List ℕ) (s : State) → s.frames ≡ fs →
    length (current_text (gathered_in fs bytes s).frames (gathered_in fs bytes s)) ≡ length (current_text fs s) + length bytes
length-current [] bytes s is =
    ap (λ (fs : List Frame). length (current_text fs (record s { base = s.base ++ bytes }))) is ∙ length-append s.base bytes
length-current (f ∷ fs) bytes s is = length-append f.gathered bytes

pub scanning_moved : (environment : Environment) (s t : State) (i : ℕ) → scan s ≡ Moves t → moves_bytes (front_of s.active) ≡ true →
    length (current_text s.frames s) + i < length (current_text t.frames t) →
    origin environment s (in_current s.frames (length (current_text s.frames s) + i)) ≡ Carried (InActive (first_moved (front_of s.active) + i))
scanning_moved environment s t i is moving l =
    let moved = subst (MovesAt (front_of s.active) s) (at_front s (Moves t) is) (moves_on (front_of s.active) s moving) in
    let place = in_current s.frames (length (current_text s.frames s) + i) in
    let before : State = record s { active = moved.left } in
    let counted : length (current_text t.frames t) ≡ length (current_text s.frames before) + length moved.bytes =
    ap (λ (u : State). length (current_text u.frames u)) moved.state ∙ length-current s.frames moved.bytes before refl in
    of_moves environment s t place is ∙ ap (λ (o : Origins). origin_at o place) moved.origins ∙ gathered_told s moved.rest moved.text i
    ∙ moved.each i (omega (arith, l, counted, same s.frames moved.left))
  where
    same : (fs : List Frame) (left : List ℕ) → length (current_text fs (record s { active = left })) ≡ length (current_text fs s)
    same [] left = refl
    same (f ∷ fs) left = refl

-- what stands in what was the current text is within it
pub within_gathered : (fs : List Frame) (bytes : List ℕ) (u : State) (n : ℕ) (item : Item) → u.frames ≡ fs → found_at (gathered_in fs bytes u) (in_current fs n) ≡ Some item →
    n < length (current_text (gathered_in fs bytes u).frames (gathered_in fs bytes u))
within_gathered [] bytes u n item is e =
    subst (λ (fs : List Frame). n < length (current_text fs (record u { base = u.base ++ bytes }))) (sym is) (byte_within n (u.base ++ bytes) item e)
within_gathered (f ∷ fs) bytes u n item is e =
    let g : Frame = record f { gathered = f.gathered ++ bytes } in
    let there : numbered (length fs) (g ∷ fs) ≡ Some g = cond-true (length fs == length fs) (Some g) (numbered (length fs) fs) (eq-eqb (length fs) (length fs) refl) in
    let last : argument (length f.arguments) (arguments_of g) ≡ f.gathered ++ bytes = get_or_at f.arguments (f.gathered ++ bytes) [] [] (length f.arguments) refl in
    byte_within n (f.gathered ++ bytes) item
    (ap (byte_at n) (sym last) ∙ sym (ap (option_and_then (λ (h : Frame). byte_at n (argument (length f.arguments) (arguments_of h)))) there) ∙ e)

pub within_current : (fs : List Frame) (u : State) (n : ℕ) (item : Item) → u.frames ≡ fs → found_at u (in_current fs n) ≡ Some item → n < length (current_text fs u)
within_current [] u n item is e = byte_within n u.base item e
within_current (f ∷ fs) u n item is e =
    let there : numbered (length fs) u.frames ≡ Some f =
    ap (numbered (length fs)) is ∙ cond-true (length fs == length fs) (Some f) (numbered (length fs) fs) (eq-eqb (length fs) (length fs) refl) in
    let last : argument (length f.arguments) (arguments_of f) ≡ f.gathered = get_or_at f.arguments f.gathered [] [] (length f.arguments) refl in
    byte_within n f.gathered item
    (ap (byte_at n) (sym last) ∙ sym (ap (option_and_then (λ (h : Frame). byte_at n (argument (length f.arguments) (arguments_of h)))) there) ∙ e)

pub scanning_within : (s t : State) (n : ℕ) (item : Item) → scan s ≡ Moves t → moves_bytes (front_of s.active) ≡ true → found_at t (in_current s.frames n) ≡ Some item →
    n < length (current_text t.frames t)
scanning_within s t n item is moving e =
    let moved = subst (MovesAt (front_of s.active) s) (at_front s (Moves t) is) (moves_on (front_of s.active) s moving) in
    let before : State = record s { active = moved.left } in
    subst (λ (u : State). n < length (current_text u.frames u)) (sym moved.state)
    (within_gathered s.frames moved.bytes before n item refl (subst (λ (u : State). found_at u (in_current s.frames n) ≡ Some item) moved.state e))

pub state_idle : (s t : State) → scan s ≡ Moves t → makes_idle (front_of s.active) ≡ true → t ≡ record s { active = idle_program; base = []; frames = [] }
state_idle s t is idle = go (front_of s.active) idle (at_front s (Moves t) is)
  where
    go : (f : Front) → makes_idle f ≡ true → scan_at f s ≡ Moves t → t ≡ record s { active = idle_program; base = []; frames = [] }
    go Nothing idle e = cc
    go Opening idle e = absurd (cc)
    go Layout idle e = absurd (cc)
    go Comma idle e = absurd (cc)
    go ActiveCall idle e = absurd (cc)
    go NeutralCall idle e = absurd (cc)
    go Sharp idle e = absurd (cc)
    go Closing idle e = absurd (cc)
    go Plain idle e = absurd (cc)

-- ---- with nothing left

pub always_made : {A : Type 0} (xs : List A) (i : ℕ) → get_or (one_each (λ j. Made) xs) i Made ≡ Made
always_made [] i = refl
always_made (x ∷ xs) zero = refl
always_made (x ∷ xs) (suc i) = always_made xs i

pub scanning_idle : (environment : Environment) (s t : State) (i : ℕ) → scan s ≡ Moves t → makes_idle (front_of s.active) ≡ true → origin environment s (InActive i) ≡ Made
scanning_idle environment s t i is idle = of_moves environment s t (InActive i) is ∙ go (front_of s.active) idle
  where
    go : (f : Front) → makes_idle f ≡ true → get_or (moved_from f s (all_kept s)).active i Made ≡ Made
    go Nothing idle = always_made idle_program i
    go Opening idle = absurd (cc)
    go Layout idle = absurd (cc)
    go Comma idle = absurd (cc)
    go ActiveCall idle = absurd (cc)
    go NeutralCall idle = absurd (cc)
    go Sharp idle = absurd (cc)
    go Closing idle = absurd (cc)
    go Plain idle = absurd (cc)

-- what is in no text stays
pub scanning_idle_stays : (environment : Environment) (s t : State) (place : Place) (item : Item) → scan s ≡ Moves t → makes_idle (front_of s.active) ≡ true → is_stored place ≡ true →
    found_at s place ≡ Some item → origin environment s place ≡ Carried place
scanning_idle_stays environment s t place item is idle stored e = of_moves environment s t place is ∙ go (front_of s.active) idle place stored e
  where
    nothing : (p : Place) → is_stored p ≡ true → found_at s p ≡ Some item → origin_at (moved_from Nothing s (all_kept s)) p ≡ Carried p
    nothing (InActive i) stored e = absurd (cc)
    nothing (InBase i) stored e = absurd (cc)
    nothing (InArgument n k i) stored e = absurd (cc)
    nothing (InForm name i) stored e = kept_told s (InForm name i) item e
    nothing (InHeld number name i) stored e = kept_told s (InHeld number name i) item e
    nothing (InOutput i) stored e = kept_told s (InOutput i) item e

    go : (f : Front) → makes_idle f ≡ true → (p : Place) → is_stored p ≡ true → found_at s p ≡ Some item → origin_at (moved_from f s (all_kept s)) p ≡ Carried p
    go Nothing idle p stored e = nothing p stored e
    go other idle p stored e = absurd (cc)
