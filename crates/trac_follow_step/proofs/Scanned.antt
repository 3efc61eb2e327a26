-- Origins of what stands after a rule of scanning that moves on, as the code tells them.
use Rattle.std.proofs.Common.{◌≡◌, ℕ, ◌+◌, ◌-◌, ◌<◌, ◌≤◌, Bool, true, false, cond, List, [], ◌∷◌, length, drop, refl, sym, ap, subst, ◌∙◌, inl, ⊎_elim, arith, ◌⊎◌, Ok, Some, ◌==◌, codes, nat_eq}
use Rattle.std.specs.List.{starts_with}
use Rattle.std.proofs.lemmas.Bool.{cases_Bool}
use Rattle.std.proofs.lemmas.Bool.Decides.{nat_tests}
use Rattle.trac_rules.specs.declared.byte.TheConstants.{OPENING, CLOSING, COMMA, SHARP}
use Rattle.trac_rules.specs.declared.item.Item.{Item}
use Rattle.trac_rules.specs.declared.scan.Front.{Front}
use Rattle.trac_rules.specs.declared.scan.Front.TheVariants.{Opening, Layout, Comma, ActiveCall, NeutralCall, Sharp, Closing, Plain}
use Rattle.trac_rules.specs.Bytes.{idle_program}
use Rattle.trac_rules.specs.Scanning.{Moves, front_of, is_layout, scan, sharp_before}
use Rattle.trac_rules.specs.State.{Environment, State}
use Rattle.trac_rules.specs.Stepping.{step}
use Rattle.trac_origins.specs.Accounts.{Accounts, makes_idle}
use Rattle.trac_origins.specs.Lengths.{current_text, first_moved, in_current, is_outside, is_stored, moves_bytes}
use Rattle.trac_origins.specs.Places.{Place, InActive, InBase, InArgument, InForm, InHeld, InOutput, Carried, Made, byte_at, found_at}
use Rattle.trac_origins.specs.Stepping.{origin}
use Rattle.trac_origins.proofs.Accounted.{accounted}
use Rattle.trac_origins.proofs.Told.{byte_within}
use Rattle.trac_origins.proofs.Unchanged.{moves_held, moves_unchanged}
use Rattle.trac_follow_step.specs.Places.{IsBare}
use Rattle.trac_follow_step.proofs.Found.{byte_there}
use Rattle.trac_follow_step.proofs.Renewed.{IsNew, moved_new, moved_output}
use Rattle.trac_origins.proofs.ToldSteps.{scanning_idle, scanning_idle_stays, scanning_moved, scanning_rest, scanning_stays, scanning_within, state_idle}

-- a text that is not empty begins with something
not_idle : (b : ℕ) (rest : List ℕ) → makes_idle (front_of (b ∷ rest)) ≡ false
not_idle b rest =
    pick (b == OPENING) Opening _ refl
    (pick (b == CLOSING) Closing _ refl
    (pick (b == COMMA) Comma _ refl
    (pick (b == SHARP) (sharp_before rest) _
    (pick (starts_with nat_eq rest (codes "(")) ActiveCall _ refl (pick (starts_with nat_eq rest (codes "#(")) NeutralCall Sharp refl refl))
    (pick (is_layout b) Layout Plain refl refl))))
  where
    pick : (c : Bool) (f g : Front) → makes_idle f ≡ false → makes_idle g ≡ false → makes_idle (cond c f g) ≡ false
    pick true f g first second = first
    pick false f g first second = second

some_idle : (text : List ℕ) → 0 < length text → makes_idle (front_of text) ≡ false
some_idle [] some = absurd (omega (arith, some))
some_idle (b ∷ rest) some = not_idle b rest

-- ---- the active text

pub idle_made : (environment : Environment) (s t : State) (i : ℕ) → scan s ≡ Moves t → s.active ≡ [] → origin environment s (InActive i) ≡ Made
idle_made environment s t i is empty = scanning_idle environment s t i is (ap (λ (text : List ℕ). makes_idle (front_of text)) empty)

pub left_carried : (environment : Environment) (s t : State) (i : ℕ) (item : Item) → scan s ≡ Moves t → 0 < length s.active → found_at t (InActive i) ≡ Some item →
    origin environment s (InActive i) ≡ Carried (InActive (length s.active - length t.active + i))
left_carried environment s t i item is some e = scanning_rest environment s t i is (some_idle s.active some) (byte_within i t.active item e)

-- ---- elsewhere

pub stays_carried : (environment : Environment) (s t : State) (place : Place) (x item : Item) → scan s ≡ Moves t → is_outside place ≡ true → found_at s place ≡ Some x →
    found_at t place ≡ Some item → origin environment s place ≡ Carried place
stays_carried environment s t place x item is outside before after =
    ⊎_elim
    (λ (idle : makes_idle (front_of s.active) ≡ true).
    scanning_idle_stays environment s t place x is idle
    (stored place outside (subst (λ (u : State). found_at u place ≡ Some item) (state_idle s t is idle) after)) before)
    (λ (busy : makes_idle (front_of s.active) ≡ false). scanning_stays environment s t place x is busy outside before)
    (cases_Bool (makes_idle (front_of s.active)))
  where
    stored : (p : Place) → is_outside p ≡ true → found_at (record s { active = idle_program; base = []; frames = [] }) p ≡ Some item → is_stored p ≡ true
    stored (InBase i) outside e = absurd (cc)
    stored (InArgument n k i) outside e = absurd (cc)
    stored (InActive i) outside e = absurd (cc)
    stored p outside e = refl

-- ---- tests for emptiness

pub none_by_test : (text : List ℕ) (empty : Bool) → empty ≡ (length text == 0) → empty ≡ true → text ≡ []
none_by_test [] empty is e = refl
none_by_test (b ∷ text) empty is e = let none : length (b ∷ text) ≡ 0 = grind (arith, nat_tests) in absurd (omega (arith, none))

pub some_by_test : (text : List ℕ) (empty : Bool) → empty ≡ (length text == 0) → empty ≡ false → 0 < length text
some_by_test text empty is e = grind (arith, nat_tests)

-- ---- what is new in the current text

pub gathered_by : (environment : Environment) (s t : State) (place : Place) (n first : ℕ) (active : List ℕ) (item : Item) → scan s ≡ Moves t → active ≡ s.active →
    (moves_bytes (front_of active) ≡ true) × (first ≡ first_moved (front_of active)) → place ≡ in_current s.frames (length (current_text s.frames s) + n) →
    found_at t place ≡ Some item → origin environment s place ≡ Carried (InActive (first + n))
gathered_by environment s t place n first active item is same moves at stands =
    let moving : moves_bytes (front_of s.active) ≡ true = ap (λ (text : List ℕ). moves_bytes (front_of text)) (sym same) ∙ moves.0 in
    ap (origin environment s) at
    ∙ scanning_moved environment s t n is moving
    (scanning_within s t (length (current_text s.frames s) + n) item is moving (subst (λ p. found_at t p ≡ Some item) at stands))
    ∙ ap (λ k. Carried (InActive (k + n))) (sym (moves.1 ∙ ap (λ (text : List ℕ). first_moved (front_of text)) same))

-- ---- what stands then

-- no more is left than there was
pub left_less : (environment : Environment) (s t : State) (i : ℕ) (item : Item) → step environment s ≡ Ok t → scan s ≡ Moves t → 0 < length s.active → found_at t (InActive i) ≡ Some item →
    length t.active ≤ length s.active
left_less environment s t i item h is some stands =
    let within = byte_within i t.active item stands in
    let last = length t.active - 1 in
    let byte = byte_there last t.active (omega (arith, within)) in
    let found : found_at s (InActive (length s.active - length t.active + last)) ≡ Some byte.0 =
    subst (λ o. Accounts environment s t o byte.0) (left_carried environment s t last byte.0 is some byte.1) (accounted environment s t h (InActive last) byte.0 byte.1) in
    omega (arith, within, byte_within (length s.active - length t.active + last) s.active byte.0 found)

-- elsewhere it stood there, or is new in the current text
outside_new : (environment : Environment) (s t : State) (p : Place) (item : Item) → step environment s ≡ Ok t → scan s ≡ Moves t → is_outside p ≡ true → found_at t p ≡ Some item →
    (found_at s p ≡ Some item) ⊎ ((moves_bytes (front_of s.active) ≡ true) × IsNew s.frames s p)
outside_new environment s t (InActive i) item h is outside stands = absurd (cc)
outside_new environment s t (InBase i) item h is outside stands = moved_new s t (InBase i) item is refl stands
outside_new environment s t (InArgument n k i) item h is outside stands = moved_new s t (InArgument n k i) item is refl stands
outside_new environment s t (InForm name i) item h is outside stands =
    inl
    (subst (λ o. Accounts environment s t o item) (moves_unchanged environment s t name i item h is stands).carried
    (accounted environment s t h (InForm name i) item stands))
outside_new environment s t (InHeld number name i) item h is outside stands =
    inl
    (subst (λ o. Accounts environment s t o item) (moves_held environment s t number name i item h is stands)
    (accounted environment s t h (InHeld number name i) item stands))
outside_new environment s t (InOutput i) item h is outside stands = inl (ap (λ (text : List ℕ). byte_at i text) (sym (moved_output s t is)) ∙ stands)

pub new_moved : (environment : Environment) (s t : State) (p : Place) (item : Item) → step environment s ≡ Ok t → scan s ≡ Moves t → is_outside p ≡ true → IsBare s p → found_at t p ≡ Some item →
    (moves_bytes (front_of s.active) ≡ true) × IsNew s.frames s p
new_moved environment s t p item h is outside bare stands =
    ⊎_elim
    (λ (old : found_at s p ≡ Some item). absurd (bare item old))
    (λ (new : (moves_bytes (front_of s.active) ≡ true) × IsNew s.frames s p). new)
    (outside_new environment s t p item h is outside stands)

-- as far past the current text as the code finds it
pub new_so_far : (s : State) (p : Place) (depth n : ℕ) → depth ≡ length s.frames → IsNew s.frames s p →
    ((m : ℕ) → p ≡ in_current (drop (length s.frames - depth) s.frames) (length (current_text (drop (length s.frames - depth) s.frames) s) + m) → n ≡ m) →
    p ≡ in_current s.frames (length (current_text s.frames s) + n)
new_so_far s p depth n all new far =
    let none : 0 ≡ length s.frames - depth = omega (arith, all) in
    let at = new.at ∙ ap (λ k. in_current (drop k s.frames) (length (current_text (drop k s.frames) s) + new.number)) none in
    new.at ∙ ap (λ m. in_current s.frames (length (current_text s.frames s) + m)) (sym (far new.number at))

-- and what stood in the active text is within it
pub carried_within : (environment : Environment) (s t : State) (p : Place) (n : ℕ) (item : Item) → step environment s ≡ Ok t → found_at t p ≡ Some item → origin environment s p ≡ Carried (InActive n) →
    n < length s.active
carried_within environment s t p n item h stands is =
    let found : found_at s (InActive n) ≡ Some item = subst (λ o. Accounts environment s t o item) is (accounted environment s t h p item stands) in
    byte_within n s.active item found
