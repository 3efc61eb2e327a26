-- What stands in a text after a step stood there before it, or is past what was the current text.
use Rattle.std.proofs.Common.{◌≡◌, ℕ, zero, suc, ◌+◌, ◌<◌, Bool, true, false, List, [], ◌∷◌, ◌++◌, length, take, drop, get_or, refl, sym, ap, ap₂, subst, ◌∙◌, inl, inr, ⊎_elim, arith, ◌⊎◌, Option, None, Some, ◌==◌, option_and_then}
use Rattle.std.proofs.lemmas.Bool.{cases_Bool, cond-true, cond-false, eqb-true, ne_eqb}
use Rattle.std.proofs.lemmas.List.{get_or_at}
use Rattle.trac_rules.specs.declared.item.Item.{Item}
use Rattle.trac_rules.specs.declared.kind.Kind.{Kind}
use Rattle.trac_rules.specs.declared.kind.Kind.TheVariants.{Active, Neutral}
use Rattle.trac_rules.specs.declared.scan.Front.{Front}
use Rattle.trac_rules.specs.declared.scan.Front.TheVariants.{Nothing, Opening, Layout, Comma, ActiveCall, NeutralCall, Sharp, Closing, Plain}
use Rattle.trac_rules.specs.Bytes.{idle_program}
use Rattle.trac_rules.specs.Effect.{Effect, argument}
use Rattle.trac_rules.specs.Matching.{protected}
use Rattle.trac_rules.specs.Performing.{after_call, changed_by, placed}
use Rattle.trac_rules.specs.Scanning.{Call, Scanned, Calls, Moves, begun, closing_in, comma_in, deleted, front_of, gathered_in, scan, scan_at}
use Rattle.trac_rules.specs.State.{Frame, State}
use Rattle.trac_rules.proofs.Scans.{ScanShows, scan_shows}
use Rattle.trac_origins.specs.Lengths.{current_text, in_current, moves_bytes}
use Rattle.trac_origins.specs.Places.{Place, InBase, InArgument, arguments_of, byte_at, found_at, numbered}
use Rattle.trac_origins.proofs.ToldCalls.{ended}
use Rattle.trac_origins.proofs.Zips.{number_within}
use Rattle.trac_follow_step.specs.Places.{IsOutside, is_in_text}

-- past the current text
pub record IsNew (fs : List Frame) (u : State) (p : Place) : Type 0 where
  pub number : ℕ
  pub at : p ≡ in_current fs (length (current_text fs u) + number)

-- ---- a text that went to the current text

byte_split : (i : ℕ) (xs ys : List ℕ) (item : Item) → byte_at i (xs ++ ys) ≡ Some item → (byte_at i xs ≡ Some item) ⊎ ((n : ℕ) × (i ≡ length xs + n))
byte_split i [] ys item e = inr (i, omega arith)
byte_split zero (x ∷ xs) ys item e = inl e
byte_split (suc i) (x ∷ xs) ys item e =
    ⊎_elim (λ (h : byte_at i xs ≡ Some item). inl h) (λ (h : (n : ℕ) × (i ≡ length xs + n)). inr (h.0, omega (arith, h.1))) (byte_split i xs ys item e)

-- the last of some texts is another, and the others are the same
last_split : (k : ℕ) (xs : List (List ℕ)) (y z : List ℕ) → ((k ≡ length xs) × (get_or (xs ++ z ∷ []) k [] ≡ z)) ⊎ (get_or (xs ++ z ∷ []) k [] ≡ get_or (xs ++ y ∷ []) k [])
last_split zero [] y z = inl (refl, refl)
last_split (suc k) (x ∷ xs) y z =
    ⊎_elim (λ (h : (k ≡ length xs) × (get_or (xs ++ z ∷ []) k [] ≡ z)). inl (ap suc h.0, h.1)) (λ (h : get_or (xs ++ z ∷ []) k [] ≡ get_or (xs ++ y ∷ []) k []). inr h) (last_split k xs y z)
last_split k xs y z = inr refl

-- an empty text after others is nothing
empty_last : (k : ℕ) (xs : List (List ℕ)) → get_or (xs ++ [] ∷ []) k [] ≡ get_or xs k []
empty_last zero [] = refl
empty_last (suc k) (x ∷ xs) = empty_last k xs
empty_last k xs = refl

abbrev pub look : ℕ → ℕ → Option Frame → Option Item
look k i = option_and_then (λ (g : Frame). byte_at i (argument k (arguments_of g)))

-- of one function more
module _ (f : Frame) (fs : List Frame) (n k i : ℕ) where
  pub look_first : (n == length fs) ≡ true → look k i (numbered n (f ∷ fs)) ≡ byte_at i (argument k (arguments_of f))
  look_first t = ap (look k i) (cond-true (n == length fs) (Some f) (numbered n fs) t)

  pub look_rest : (n == length fs) ≡ false → look k i (numbered n (f ∷ fs)) ≡ look k i (numbered n fs)
  look_rest t = ap (look k i) (cond-false (n == length fs) (Some f) (numbered n fs) t)

gathered_new : (fs : List Frame) (text : List ℕ) (u : State) (p : Place) (item : Item) → u.frames ≡ fs → is_in_text p ≡ true → found_at (gathered_in fs text u) p ≡ Some item →
    (found_at u p ≡ Some item) ⊎ IsNew fs u p
gathered_new [] text u (InBase i) item is within e =
    ⊎_elim
    (λ (h : byte_at i u.base ≡ Some item). inl h)
    (λ (h : (n : ℕ) × (i ≡ length u.base + n)). inr (record { number = h.0; at = ap InBase h.1 }))
    (byte_split i u.base text item e)
gathered_new (f ∷ fs) text u (InBase i) item is within e = inl e
gathered_new [] text u (InArgument n k i) item is within e = inl e
gathered_new (f ∷ fs) text u (InArgument n k i) item is within e =
    let g : Frame = record f { gathered = f.gathered ++ text } in
    ⊎_elim
    (λ (t : (n == length fs) ≡ true).
    let byte : byte_at i (get_or (f.arguments ++ (f.gathered ++ text) ∷ []) k []) ≡ Some item = sym (look_first g fs n k i t) ∙ e in
    let back : byte_at i (get_or (f.arguments ++ f.gathered ∷ []) k []) ≡ Some item → found_at u (InArgument n k i) ≡ Some item =
    λ there. ap (λ (gs : List Frame). look k i (numbered n gs)) is ∙ look_first f fs n k i t ∙ there in
    ⊎_elim
    (λ (last : (k ≡ length f.arguments) × (get_or (f.arguments ++ (f.gathered ++ text) ∷ []) k [] ≡ f.gathered ++ text)).
    ⊎_elim
    (λ (h : byte_at i f.gathered ≡ Some item). inl (back (ap (byte_at i) (get_or_at f.arguments f.gathered [] [] k (sym last.0)) ∙ h)))
    (λ (h : (m : ℕ) × (i ≡ length f.gathered + m)).
    inr (record { number = h.0; at = ap₂ (λ a b. InArgument a b i) (eqb-true n (length fs) t) last.0 ∙ ap (InArgument (length fs) (length f.arguments)) h.1 }))
    (byte_split i f.gathered text item (ap (byte_at i) (sym last.1) ∙ byte)))
    (λ (same : get_or (f.arguments ++ (f.gathered ++ text) ∷ []) k [] ≡ get_or (f.arguments ++ f.gathered ∷ []) k []). inl (back (ap (byte_at i) (sym same) ∙ byte)))
    (last_split k f.arguments f.gathered (f.gathered ++ text)))
    (λ (t : (n == length fs) ≡ false).
    inl (ap (λ (gs : List Frame). look k i (numbered n gs)) is ∙ look_rest f fs n k i t ∙ sym (look_rest g fs n k i t) ∙ e))
    (cases_Bool (n == length fs))
gathered_new fs text u p item is within e = absurd (cc)

-- ---- a rule that moves on

-- after an ended argument
comma_old : (fs : List Frame) (u : State) (p : Place) (item : Item) → u.frames ≡ fs → is_in_text p ≡ true → found_at (comma_in fs u) p ≡ Some item → found_at u p ≡ Some item
comma_old [] u (InBase i) item is within e = e
comma_old (f ∷ fs) u (InBase i) item is within e = e
comma_old [] u (InArgument n k i) item is within e = e
comma_old (f ∷ fs) u (InArgument n k i) item is within e =
    let g : Frame = record f { arguments = f.arguments ++ f.gathered ∷ []; gathered = [] } in
    ⊎_elim
    (λ (t : (n == length fs) ≡ true).
    ap (λ (gs : List Frame). look k i (numbered n gs)) is ∙ look_first f fs n k i t
    ∙ sym (ap (byte_at i) (empty_last k (f.arguments ++ f.gathered ∷ []))) ∙ sym (look_first g fs n k i t) ∙ e)
    (λ (t : (n == length fs) ≡ false). ap (λ (gs : List Frame). look k i (numbered n gs)) is ∙ look_rest f fs n k i t ∙ sym (look_rest g fs n k i t) ∙ e)
    (cases_Bool (n == length fs))
comma_old fs u p item is within e = absurd (cc)

-- after a begun function
begun_old : (kind : Kind) (u : State) (p : Place) (item : Item) → is_in_text p ≡ true → found_at (begun kind u) p ≡ Some item → found_at u p ≡ Some item
begun_old kind u (InBase i) item within e = e
begun_old kind u (InArgument n k i) item within e =
    let g : Frame = record { kind = kind; arguments = []; gathered = [] } in
    ⊎_elim
    (λ (t : (n == length u.frames) ≡ true).
    absurd (let none : None ≡ Some item = sym (ap (byte_at i) (empty_last k [])) ∙ sym (look_first g u.frames n k i t) ∙ e in cc))
    (λ (t : (n == length u.frames) ≡ false). sym (look_rest g u.frames n k i t) ∙ e)
    (cases_Bool (n == length u.frames))
begun_old kind u p item within e = absurd (cc)

-- between two states with the same texts
pub current_alike : (fs : List Frame) (u v : State) → u.base ≡ v.base → current_text fs u ≡ current_text fs v
current_alike [] u v base = base
current_alike (f ∷ fs) u v base = refl

new_alike : (fs : List Frame) (u v : State) (p : Place) → u.base ≡ v.base → IsNew fs u p → IsNew fs v p
new_alike fs u v p base new = record { number = new.number; at = new.at ∙ ap (λ (text : List ℕ). in_current fs (length text + new.number)) (current_alike fs u v base) }

found_alike : (u v : State) (p : Place) (item : Item) → u.base ≡ v.base → u.frames ≡ v.frames → is_in_text p ≡ true → found_at u p ≡ Some item → found_at v p ≡ Some item
found_alike u v (InBase i) item base frames within e = ap (byte_at i) (sym base) ∙ e
found_alike u v (InArgument n k i) item base frames within e = ap (λ (gs : List Frame). look k i (numbered n gs)) (sym frames) ∙ e
found_alike u v p item base frames within e = absurd (cc)

-- ---- a rule that moves on, case by case

-- a state to which a rule moves on is one of these, each with what the active text began with
module _ (s : State) (Holds : Front → State → Type 0) (idle : Holds Nothing (record s { active = idle_program; base = []; frames = [] })) (less : (f : Front) → Holds f (deleted 1 s))
    (gathers : (f : Front) → moves_bytes f ≡ true → (text left : List ℕ) → Holds f (gathered_in s.frames text (record s { active = left })))
    (ends : Holds Comma (comma_in s.frames (deleted 1 s))) (begins : (f : Front) (kind : Kind) (n : ℕ) → Holds f (begun kind (deleted n s))) where
  abbrev HoldsOf : Front → Scanned → Type 0
  HoldsOf f (Moves u) = Holds f u
  HoldsOf f (Calls call) = Unit {0}

  closes : (fs : List Frame) → HoldsOf Closing (closing_in fs (deleted 1 s))
  closes [] = less Closing
  closes (f ∷ fs) = tt

  each : (f : Front) → HoldsOf f (scan_at f s)
  each Nothing = idle
  each Opening = gathers Opening refl (protected (drop 1 s.active)).inner (protected (drop 1 s.active)).rest
  each Layout = less Layout
  each Comma = ends
  each ActiveCall = begins ActiveCall Active 2
  each NeutralCall = begins NeutralCall Neutral 3
  each Sharp = gathers Sharp refl (take 1 s.active) (drop 1 s.active)
  each Closing = closes s.frames
  each Plain = gathers Plain refl (take 1 s.active) (drop 1 s.active)

  pub moved_by : (t : State) → scan s ≡ Moves t → Holds (front_of s.active) t
  unfolding scan
  moved_by t is = subst (HoldsOf (front_of s.active)) is (each (front_of s.active))

-- what stands then stood there, or was moved there
abbrev IsMoved : State → Place → Item → Front → State → Type 0
IsMoved s p item f u = found_at u p ≡ Some item → (found_at s p ≡ Some item) ⊎ ((moves_bytes f ≡ true) × IsNew s.frames s p)

-- what is new was moved there
pub moved_new : (s t : State) (p : Place) (item : Item) → scan s ≡ Moves t → is_in_text p ≡ true → found_at t p ≡ Some item →
    (found_at s p ≡ Some item) ⊎ ((moves_bytes (front_of s.active) ≡ true) × IsNew s.frames s p)
moved_new s t p item is within =
    moved_by s (IsMoved s p item) (idle p within) (λ f e. inl (found_alike (deleted 1 s) s p item refl refl within e))
    (λ f moves text left e.
    ⊎_elim
    (λ (h : found_at (record s { active = left }) p ≡ Some item). inl (found_alike (record s { active = left }) s p item refl refl within h))
    (λ (h : IsNew s.frames (record s { active = left }) p). inr (moves, new_alike s.frames (record s { active = left }) s p refl h))
    (gathered_new s.frames text (record s { active = left }) p item refl within e))
    (λ e. inl (found_alike (deleted 1 s) s p item refl refl within (comma_old s.frames (deleted 1 s) p item refl within e)))
    (λ f kind n e. inl (found_alike (deleted n s) s p item refl refl within (begun_old kind (deleted n s) p item within e))) t is
  where
    idle : (q : Place) → is_in_text q ≡ true → IsMoved s q item Nothing (record s { active = idle_program; base = []; frames = [] })
    idle (InBase i) within e = absurd (cc)
    idle q within e = absurd (cc)

-- the output stays
pub moved_output : (s t : State) → scan s ≡ Moves t → t.output ≡ s.output
moved_output s t is = subst (ScanShows (λ (u : State). u.output) s) is (scan_shows (λ (u : State). u.output) (λ u active base frames. refl) s)

-- ---- a call

pub called_new : (call : Call) (e : Effect) (p : Place) (item : Item) → is_in_text p ≡ true → found_at (after_call call e) p ≡ Some item →
    (found_at call.state p ≡ Some item) ⊎ IsNew call.state.frames call.state p
called_new call e p item within h = go call.kind e.forced h
  where
    u : State
    u = changed_by e call.state

    go : (kind : Kind) (forced : Bool) → found_at (placed kind forced e.value u) p ≡ Some item → (found_at call.state p ≡ Some item) ⊎ IsNew call.state.frames call.state p
    go Neutral false there =
        ⊎_elim
        (λ (old : found_at u p ≡ Some item). inl (found_alike u call.state p item refl refl within old))
        (λ (new : IsNew u.frames u p). inr (new_alike call.state.frames u call.state p refl new))
        (gathered_new u.frames e.value u p item refl within there)
    go kind forced there = inl (found_alike (record u { active = e.value ++ u.active }) call.state p item refl refl within there)

-- the function that is called is the innermost
pub called_first : (s : State) (call : Call) → scan s ≡ Calls call → (f : Frame) × (s.frames ≡ f ∷ call.state.frames)
called_first s call is =
    let at = ended s call is in
    (at.0, at.2.frames ∙ ap (λ (u : State). at.0 ∷ u.frames) (sym at.2.state))

-- and what is in an argument of another is the same without it
pub look_around : (s : State) (call : Call) → scan s ≡ Calls call → (n k i : ℕ) → n < length call.state.frames → look k i (numbered n s.frames) ≡ look k i (numbered n call.state.frames)
look_around s call is n k i outside =
    let first = called_first s call is in
    ap (λ (fs : List Frame). look k i (numbered n fs)) first.1
    ∙ look_rest first.0 call.state.frames n k i (ne_eqb n (length call.state.frames) (λ same. absurd (omega (arith, same, outside))))

-- what stands without the function stands with it, around it
pub around_it : (s : State) (call : Call) (p : Place) (item : Item) → scan s ≡ Calls call → is_in_text p ≡ true → found_at call.state p ≡ Some item →
    (found_at s p ≡ Some item) × IsOutside (length call.state.frames) p
around_it s call (InBase i) item is within e =
    (ap (λ (u : State). byte_at i u.base) (sym (ended s call is).2.state) ∙ e, tt)
around_it s call (InArgument n k i) item is within e =
    let number : n < length call.state.frames = found_number (numbered n call.state.frames) refl e in
    (look_around s call is n k i number ∙ e, number)
  where
    found_number : (found : Option Frame) → numbered n call.state.frames ≡ found → look k i found ≡ Some item → n < length call.state.frames
    found_number None is e = absurd (cc)
    found_number (Some g) is e = number_within n call.state.frames g is
around_it s call p item is within e = absurd (cc)
