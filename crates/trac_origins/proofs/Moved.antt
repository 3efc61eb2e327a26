-- Runs of bytes that go to the current text one by one, each in a step of its own.
use Rattle.std.proofs.Common.{◌≡◌, ℕ, zero, suc, ◌+◌, ◌-◌, ◌<◌, ◌≤◌, Bool, true, false, not, ◌&&◌, List, [], ◌∷◌, ◌++◌, length, take, drop, get_or, refl, sym, ap, subst, ◌∙◌, ⊎_elim, arith}
use Rattle.std.specs.Prelude.{Option, None, Some, Ok, ◌==◌, nat_lt, if◌then◌else◌, option_and_then, option_map}
use Rattle.std.proofs.lemmas.Bool.{cases_Bool, cond-true, cond-false, eqb-false, eqb-true, ltb-false, ltb-true}
use Rattle.std.proofs.lemmas.List.{get_or_append_left, get_or_at, length-append, length-drop, length-take}
use Rattle.std.proofs.lemmas.Option.{slice_get-get_or}
use Rattle.trac_rules.specs.declared.item.Item.{Item}
use Rattle.trac_rules.specs.declared.item.Item.TheVariants.{Byte}
use Rattle.trac_rules.specs.declared.kind.Kind.{Kind}
use Rattle.trac_rules.specs.declared.kind.Kind.TheVariants.{Active, Neutral}
use Rattle.trac_rules.specs.declared.scan.Front.{Front}
use Rattle.trac_rules.specs.declared.scan.Front.TheVariants.{Nothing, Opening, Layout, Comma, ActiveCall, NeutralCall, Sharp, Closing, Plain}
use Rattle.trac_rules.specs.Effect.{Effect, argument}
use Rattle.trac_rules.specs.Limits.{texts_fit}
use Rattle.trac_rules.specs.Matching.{match_of, protected_up_to}
use Rattle.trac_rules.specs.Performing.{after_call, changed_by, performed, placed}
use Rattle.trac_rules.specs.PlainRuns.{moved_on, on_the_way}
use Rattle.trac_rules.specs.Scanning.{Call, Scanned, Moves, Calls, closing_in, comma_in, deleted, front_of, gather_first, gathered_in, protect, scan, scan_at}
use Rattle.trac_rules.specs.State.{Environment, Frame, State}
use Rattle.trac_rules.specs.Stepping.{carried_out, step}
use Rattle.trac_rules.specs.Trails.{AreSteps}
use Rattle.trac_rules.proofs.MovedOn.{active-gathered, moved_on-suc, moved_on-zero}
use Rattle.trac_rules.proofs.Outcomes.{limited_Ok, seen_as-Ok}
use Rattle.trac_origins.specs.Accounts.{Accounts, makes_idle}
use Rattle.trac_origins.specs.Following.{followed, going_back, one_more}
use Rattle.trac_origins.specs.Lengths.{after_carried, before_moved, current_text, first_moved, in_active, in_current, is_outside, moves_bytes, past_in}
use Rattle.trac_origins.specs.Places.{Place, InActive, InBase, InArgument, InForm, InHeld, InOutput, Carried, arguments_of, byte_at, found_at, numbered}
use Rattle.trac_origins.specs.Stepping.{origin}
use Rattle.trac_origins.proofs.Accounted.{accounted}
use Rattle.trac_origins.proofs.Told.{byte_within}
use Rattle.trac_origins.proofs.ToldCalls.{ended}
use Rattle.trac_origins.proofs.ToldSteps.{length-current, scanning_moved, scanning_rest, scanning_stays, within_current, within_gathered}

-- ---- which rule moves one byte

pub current_aside : (fs : List Frame) (text : List ℕ) (s : State) → current_text fs (record s { active = text }) ≡ current_text fs s
current_aside [] text s = refl
current_aside (f ∷ fs) text s = refl

abbrev current_len : State → ℕ
current_len s = length (current_text s.frames s)

gathered_len : (s : State) (bytes left : List ℕ) → current_len (gathered_in s.frames bytes (record s { active = left })) ≡ current_len s + length bytes
gathered_len s bytes left =
    length-current s.frames bytes (record s { active = left }) refl ∙ ap (λ (text : List ℕ). length text + length bytes) (current_aside s.frames left s)

-- a state that has one byte more in the current text, and one less in the active text
pub record HasMovedOne (s t : State) : Type 0 where
  pub some : 0 < length s.active
  pub current : current_len t ≡ current_len s + 1
  pub left : length t.active ≡ length s.active - 1
  pub functions : length t.frames ≡ length s.frames

frames_gathered : (fs : List Frame) (bytes : List ℕ) (u : State) → u.frames ≡ fs → length (gathered_in fs bytes u).frames ≡ length u.frames
frames_gathered [] bytes u is = refl
frames_gathered (f ∷ fs) bytes u is = ap (λ (gs : List Frame). length gs) (sym is)

first_moves_one : (s : State) → 0 < length s.active → HasMovedOne s (gather_first s)
first_moves_one s some = record {
  some = some;
  current = gathered_len s (take 1 s.active) (drop 1 s.active) ∙ omega (arith, some, length-take 1 s.active);
  left = ap (λ (text : List ℕ). length text) (active-gathered s.frames (take 1 s.active) (deleted 1 s)) ∙ length-drop 1 s.active;
  functions = frames_gathered s.frames (take 1 s.active) (deleted 1 s) refl;
}

abbrev IsPlainRule : Front → Type 0
IsPlainRule f = (moves_bytes f ≡ true) × (first_moved f ≡ 0)

abbrev RuleAt : Front → State → Scanned → Type 0
RuleAt f s (Moves t) = HasMovedOne s t → IsPlainRule f
RuleAt f s (Calls call) = Unit {0}

rule_at : (f : Front) (s : State) → RuleAt f s (scan_at f s)
rule_at f s = go f
  where
    comma : (fs : List Frame) → s.frames ≡ fs → HasMovedOne s (comma_in fs (deleted 1 s)) → ⊥
    comma [] is one = omega (arith, one.current, ap (λ (text : List ℕ). length text) (current_aside s.frames (drop 1 s.active) s))
    comma (g ∷ gs) is one = omega (arith, one.current)

    closing : (fs : List Frame) → RuleAt Closing s (closing_in fs (deleted 1 s))
    closing [] = λ one. absurd (omega (arith, one.current, ap (λ (text : List ℕ). length text) (current_aside s.frames (drop 1 s.active) s)))
    closing (g ∷ gs) = tt

    opening : (at : Option ℕ) → HasMovedOne s (protect (protected_up_to at (drop 1 s.active)) s) → ⊥
    opening None one =
        omega (
          arith,
          one.some,
          one.current,
          one.left,
          gathered_len s (drop 1 s.active) [],
          length-drop 1 s.active,
          ap (λ (text : List ℕ). length text) (active-gathered s.frames (drop 1 s.active) (record s { active = [] })),
        )
    opening (Some k) one =
        let inner = take k (drop 1 s.active) in
        let rest = drop (k + 1) (drop 1 s.active) in
        omega (
          arith,
          one.some,
          one.current,
          one.left,
          gathered_len s inner rest,
          length-take k (drop 1 s.active),
          length-drop 1 s.active,
          length-drop (k + 1) (drop 1 s.active),
          ap (λ (text : List ℕ). length text) (active-gathered s.frames inner (record s { active = rest })),
        )

    go : (g : Front) → RuleAt g s (scan_at g s)
    go Nothing = λ one. absurd (omega (arith, one.current))
    go Opening = λ one. absurd (opening (match_of (drop 1 s.active)) one)
    go Layout = λ one. absurd (omega (arith, one.current, ap (λ (text : List ℕ). length text) (current_aside s.frames (drop 1 s.active) s)))
    go Comma = λ one. absurd (comma s.frames refl one)
    go ActiveCall = λ one. absurd (omega (arith, one.functions))
    go NeutralCall = λ one. absurd (omega (arith, one.functions))
    go Sharp = λ one. (refl, refl)
    go Closing = closing s.frames
    go Plain = λ one. (refl, refl)

frames_placed : (kind : Kind) (forced : Bool) (value : List ℕ) (u : State) → length (placed kind forced value u).frames ≡ length u.frames
frames_placed Active forced value u = refl
frames_placed Neutral true value u = refl
frames_placed Neutral false value u = frames_gathered u.frames value u refl

calls_end : (s t : State) (call : Call) (e : Effect) → scan s ≡ Calls call → t ≡ after_call call e → HasMovedOne s t → ⊥
calls_end s t call e is after one =
    let at = ended s call is in
    omega (
      arith,
      one.functions,
      ap (λ (u : State). length u.frames) after,
      frames_placed call.kind e.forced e.value (changed_by e call.state),
      ap (λ (u : State). length u.frames) at.2.state,
      ap (λ (fs : List Frame). length fs) at.2.frames,
    )

pub plain_rule : (environment : Environment) (s t : State) → step environment s ≡ Ok t → HasMovedOne s t → (scan s ≡ Moves t) × IsPlainRule (front_of s.active)
unfolding step scan
plain_rule environment s t h one = go (scan s) refl (rule_at (front_of s.active) s) (limited_Ok texts_fit (carried_out environment (scan s)) t h).0
  where
    go : (x : Scanned) → scan s ≡ x → RuleAt (front_of s.active) s x → carried_out environment x ≡ Ok t → (scan s ≡ Moves t) × IsPlainRule (front_of s.active)
    go (Moves u) is rule out = let same : u ≡ t = cc in (is ∙ ap Moves same, subst (λ (v : State). HasMovedOne s v → IsPlainRule (front_of s.active)) same rule one)
    go (Calls call) is rule out =
        let at = seen_as-Ok (after_call call) (performed environment call) t out in
        absurd (calls_end s t call at.0 is at.2 one)

-- ---- what stood before it

front_item : (text more : List ℕ) (i : ℕ) (item : Item) → i < length text → byte_at i (text ++ more) ≡ Some item → byte_at i text ≡ Some item
front_item text more i item l e =
    ap (option_map Byte)
    (slice_get-get_or text i 0 l ∙ ap Some (sym (get_or_append_left text more 0 i l)) ∙ sym (slice_get-get_or (text ++ more) i 0 (omega (arith, l, length-append text more))))
    ∙ e

-- an argument that is not the last
other_last : (xs : List (List ℕ)) (y z : List ℕ) (k : ℕ) → (k ≡ length xs → ⊥) → get_or (xs ++ y ∷ []) k [] ≡ get_or (xs ++ z ∷ []) k []
other_last [] y z zero other = absurd (other refl)
other_last [] y z (suc k) other = refl
other_last (x ∷ xs) y z zero other = refl
other_last (x ∷ xs) y z (suc k) other = other_last xs y z k (λ same. other (ap suc same))

within_by : (a b c : Bool) (x : ℕ) → (if a && b && not c then Some x else None) ≡ None → a ≡ true → b ≡ true → c ≡ true
within_by true true true x e first second = refl
within_by true true false x e first second = absurd (cc)
within_by true false c x e first second = absurd (cc)
within_by false b c x e first second = absurd (cc)

past_by : (a b c : Bool) (x j : ℕ) → (if a && b && not c then Some x else None) ≡ Some j → (a ≡ true) × ((b ≡ true) × ((c ≡ false) × (x ≡ j)))
past_by true true false x j e = (refl, (refl, (refl, cc)))
past_by true true true x j e = absurd (cc)
past_by true false c x j e = absurd (cc)
past_by false b c x j e = absurd (cc)

base_within : (c : Bool) (x : ℕ) → (if c then None else Some x) ≡ None → c ≡ true
base_within true x e = refl
base_within false x e = absurd (cc)

base_past : (c : Bool) (x j : ℕ) → (if c then None else Some x) ≡ Some j → (c ≡ false) × (x ≡ j)
base_past true x j e = absurd (cc)
base_past false x j e = (refl, cc)

-- a place that is past the current text
pub past_place : (fs : List Frame) (s : State) (place : Place) (j : ℕ) → past_in fs s place ≡ Some j → place ≡ in_current fs (length (current_text fs s) + j)
past_place [] s (InBase i) j e =
    let at = base_past (nat_lt i (length s.base)) (i - length s.base) j e in
    ap InBase (omega (arith, ltb-false i (length s.base) at.0, at.1))
past_place (f ∷ fs) s (InActive i) j e = absurd (cc)
past_place (f ∷ fs) s (InBase i) j e = absurd (cc)
past_place (f ∷ fs) s (InArgument n k i) j e =
    let at = past_by (n == length fs) (k == length f.arguments) (nat_lt i (length f.gathered)) (i - length f.gathered) j e in
    let number : n ≡ length fs = eqb-true n (length fs) at.0 in
    let last : k ≡ length f.arguments = eqb-true k (length f.arguments) at.1.0 in
    let byte : i ≡ length f.gathered + j = omega (arith, ltb-false i (length f.gathered) at.1.1.0, at.1.1.1) in
    λ x. InArgument (number x) (last x) (byte x)
past_place (f ∷ fs) s (InForm name i) j e = absurd (cc)
past_place (f ∷ fs) s (InHeld number name i) j e = absurd (cc)
past_place (f ∷ fs) s (InOutput i) j e = absurd (cc)
past_place [] s other j e = absurd (cc)

-- a place that is not stood before
pub stood : (fs : List Frame) (s : State) (text left : List ℕ) (place : Place) (item : Item) → s.frames ≡ fs → is_outside place ≡ true → past_in fs s place ≡ None →
    found_at (gathered_in fs text (record s { active = left })) place ≡ Some item → found_at s place ≡ Some item
stood [] s text left (InActive i) item is out none e = absurd (cc)
stood [] s text left (InBase i) item is out none e =
    front_item s.base text i item (ltb-true i (length s.base) (base_within (nat_lt i (length s.base)) (i - length s.base) none)) e
stood [] s text left other item is out none e = e
stood (f ∷ fs) s text left (InActive i) item is out none e = absurd (cc)
stood (f ∷ fs) s text left (InBase i) item is out none e = e
stood (f ∷ fs) s text left (InForm name i) item is out none e = e
stood (f ∷ fs) s text left (InHeld number name i) item is out none e = e
stood (f ∷ fs) s text left (InOutput i) item is out none e = e
stood (f ∷ fs) s text left (InArgument n k i) item is out none e =
    ap (λ (gs : List Frame). look (numbered n gs)) is
    ∙ ⊎_elim
    (λ (t : (n == length fs) ≡ true).
    ap look (cond-true (n == length fs) (Some f) (numbered n fs) t)
    ∙ inner t (sym (ap look (cond-true (n == length fs) (Some g) (numbered n fs) t)) ∙ e))
    (λ (t : (n == length fs) ≡ false).
    ap look (cond-false (n == length fs) (Some f) (numbered n fs) t) ∙ sym (ap look (cond-false (n == length fs) (Some g) (numbered n fs) t)) ∙ e)
    (cases_Bool (n == length fs))
  where
    g : Frame
    g = record f { gathered = f.gathered ++ text }

    look : Option Frame → Option Item
    look = option_and_then (λ (h : Frame). byte_at i (argument k (arguments_of h)))

    inner : (n == length fs) ≡ true → byte_at i (argument k (arguments_of g)) ≡ Some item → byte_at i (argument k (arguments_of f)) ≡ Some item
    inner number there =
        ⊎_elim
        (λ (t : (k == length f.arguments) ≡ true).
        let last : length f.arguments ≡ k = sym (eqb-true k (length f.arguments) t) in
        let new : argument k (arguments_of g) ≡ f.gathered ++ text = get_or_at f.arguments (f.gathered ++ text) [] [] k last in
        let old : argument k (arguments_of f) ≡ f.gathered = get_or_at f.arguments f.gathered [] [] k last in
        ap (byte_at i) old
        ∙ front_item f.gathered text i item
        (ltb-true i (length f.gathered)
        (within_by (n == length fs) (k == length f.arguments) (nat_lt i (length f.gathered)) (i - length f.gathered) none number t))
        (ap (byte_at i) (sym new) ∙ there))
        (λ (t : (k == length f.arguments) ≡ false).
        ap (byte_at i) (other_last f.arguments f.gathered (f.gathered ++ text) k (eqb-false k (length f.arguments) t)) ∙ there)
        (cases_Bool (k == length f.arguments))

-- ---- one byte

module _ (environment : Environment) (u t : State) (h : step environment u ≡ Ok t) (first : t ≡ gather_first u) (some : 0 < length u.active) where
  pub plain : (scan u ≡ Moves t) × IsPlainRule (front_of u.active)
  plain = plain_rule environment u t h (subst (HasMovedOne u) (sym first) (first_moves_one u some))

  not_idle : (f : Front) → moves_bytes f ≡ true → makes_idle f ≡ false
  not_idle Nothing moves = absurd (cc)
  not_idle other moves = refl

  active_before : (i : ℕ) (item : Item) → found_at t (InActive i) ≡ Some item → origin environment u (InActive i) ≡ Carried (InActive (1 + i))
  active_before i item e =
      scanning_rest environment u t i plain.0 (not_idle (front_of u.active) plain.1.0) (byte_within i t.active item e)
      ∙ ap (λ n. Carried (InActive n)) (omega (arith, some, ap (λ (v : State). length v.active) first, (first_moves_one u some).left))

  outside_before : (place : Place) (item : Item) → is_outside place ≡ true → found_at t place ≡ Some item → origin environment u place ≡ Carried (in_active (past_in u.frames u place) place)
  outside_before place item out e = go (past_in u.frames u place) refl
    where
      go : (past : Option ℕ) → past_in u.frames u place ≡ past → origin environment u place ≡ Carried (in_active past place)
      go None none =
          scanning_stays environment u t place item plain.0 (not_idle (front_of u.active) plain.1.0) out
          (stood u.frames u (take 1 u.active) (drop 1 u.active) place item refl out none (subst (λ (v : State). found_at v place ≡ Some item) first e))
      go (Some j) past =
          let at : place ≡ in_current u.frames (length (current_text u.frames u) + j) = past_place u.frames u place j past in
          let within = within_gathered u.frames (take 1 u.active) (deleted 1 u) (length (current_text u.frames u) + j) item refl
          (subst (λ (v : State). found_at v (in_current u.frames (length (current_text u.frames u) + j)) ≡ Some item) first (subst (λ p. found_at t p ≡ Some item) at e)) in
          ap (origin environment u) at
          ∙ scanning_moved environment u t j plain.0 plain.1.0 (omega (arith, within, ap (λ (v : State). current_len v) first))
          ∙ ap (λ n. Carried (InActive (n + j))) plain.1.1 ∙ ap (λ n. Carried (InActive n)) (omega arith)

  pub one_before : (place : Place) (item : Item) → found_at t place ≡ Some item → origin environment u place ≡ Carried (before_moved 1 u place)
  one_before (InActive i) item e = active_before i item e
  one_before other item e = outside_before other item refl e

-- ---- many

pub not_less : (i k : ℕ) → k ≤ i → nat_lt i k ≡ false
not_less i k l = ⊎_elim (λ (t : nat_lt i k ≡ true). absurd (omega (arith, l, ltb-true i k t))) (λ (t : nat_lt i k ≡ false). t) (cases_Bool (nat_lt i k))

-- n bytes, and one more
module _ (s : State) (bytes left : List ℕ) where
  abbrev grown : List Frame → State
  grown fs = gathered_in fs bytes (record s { active = left; frames = fs })

  base_composes : (i : ℕ) (d : Bool) → nat_lt i (length (s.base ++ bytes)) ≡ d →
      before_moved (length bytes) (record s { frames = [] }) (in_active (if d then None else Some (i - length (s.base ++ bytes))) (InBase i))
      ≡ in_active (past_in [] s (InBase i)) (InBase i)
  base_composes i true is = refl
  base_composes i false is =
      let past : length (s.base ++ bytes) ≤ i = ltb-false i (length (s.base ++ bytes)) is in
      let longer : length (s.base ++ bytes) ≡ length s.base + length bytes = length-append s.base bytes in
      ap InActive (omega (arith, past, longer))
      ∙ sym (ap (λ c. in_active (if c then None else Some (i - length s.base)) (InBase i)) (not_less i (length s.base) (omega (arith, past, longer))))

  argument_composes : (f : Frame) (fs : List Frame) (n k i : ℕ) (a b d : Bool) → (n == length fs) ≡ a → (k == length f.arguments) ≡ b → nat_lt i (length (f.gathered ++ bytes)) ≡ d →
      before_moved (length bytes) (record s { frames = f ∷ fs })
      (in_active (if a && b && not d then Some (i - length (f.gathered ++ bytes)) else None) (InArgument n k i))
      ≡ in_active (past_in (f ∷ fs) s (InArgument n k i)) (InArgument n k i)
  argument_composes f fs n k i false b d one two three = refl
  argument_composes f fs n k i true false d one two three = refl
  argument_composes f fs n k i true true true one two three = refl
  argument_composes f fs n k i true true false one two three =
      let past : length (f.gathered ++ bytes) ≤ i = ltb-false i (length (f.gathered ++ bytes)) three in
      let longer : length (f.gathered ++ bytes) ≡ length f.gathered + length bytes = length-append f.gathered bytes in
      let test : nat_lt i (length f.gathered) ≡ false = not_less i (length f.gathered) (omega (arith, past, longer)) in
      ap InActive (omega (arith, past, longer))
      ∙ sym (λ x. in_active (if one x && two x && not (test x) then Some (i - length f.gathered) else None) (InArgument n k i))

  composes : (fs : List Frame) (place : Place) → is_outside place ≡ true →
      before_moved (length bytes) (record s { frames = fs }) (in_active (past_in (grown fs).frames (grown fs) place) place)
      ≡ in_active (past_in fs (record s { frames = fs }) place) place
  composes [] (InActive i) out = absurd (cc)
  composes [] (InBase i) out = base_composes i (nat_lt i (length (s.base ++ bytes))) refl
  composes (f ∷ fs) (InActive i) out = absurd (cc)
  composes (f ∷ fs) (InBase i) out = refl
  composes (f ∷ fs) (InArgument n k i) out =
      argument_composes f fs n k i (n == length fs) (k == length f.arguments) (nat_lt i (length (f.gathered ++ bytes))) refl refl refl
  composes (f ∷ fs) (InForm name i) out = refl
  composes (f ∷ fs) (InHeld number name i) out = refl
  composes (f ∷ fs) (InOutput i) out = refl
  composes [] other out = refl

one_more_before : (n : ℕ) (s : State) (place : Place) → n ≤ length s.active → before_moved n s (before_moved 1 (moved_on n s) place) ≡ before_moved (suc n) s place
one_more_before n s place within = go place
  where
    count : length (take n s.active) ≡ n
    count = omega (arith, length-take n s.active, within)

    outside : (p : Place) → is_outside p ≡ true →
        before_moved n s (in_active (past_in (moved_on n s).frames (moved_on n s) p) p) ≡ in_active (past_in s.frames s p) p
    outside p out =
        subst (λ k. before_moved k s (in_active (past_in (moved_on n s).frames (moved_on n s) p) p) ≡ in_active (past_in s.frames s p) p) count
        (composes s (take n s.active) (drop n s.active) s.frames p out)

    go : (p : Place) → before_moved n s (before_moved 1 (moved_on n s) p) ≡ before_moved (suc n) s p
    go (InActive i) = ap InActive (omega arith)
    go other = outside other refl

none_before : (s : State) (place : Place) (item : Item) → found_at s place ≡ Some item → before_moved 0 s place ≡ place
none_before s place item e = go place e
  where
    outside : (p : Place) → found_at s p ≡ Some item → (past : Option ℕ) → past_in s.frames s p ≡ past → in_active past p ≡ p
    outside p stands None is = refl
    outside p stands (Some j) is =
        let at = past_place s.frames s p j is in
        let within = within_current s.frames s (length (current_text s.frames s) + j) item refl (subst (λ q. found_at s q ≡ Some item) at stands) in
        absurd (omega (arith, within))

    go : (p : Place) → found_at s p ≡ Some item → before_moved 0 s p ≡ p
    go (InActive i) stands = ap InActive (omega arith)
    go other stands = outside other stands (past_in s.frames s other) refl

-- what is told over a run
pub record RunTold (environment : Environment) (s : State) (earlier : List State) (n : ℕ) (place : Place) (item : Item) : Type 0 where
  pub told : followed environment (on_the_way n s ++ earlier) place ≡ after_carried n (followed environment earlier (before_moved n s place))
  pub stood : found_at s (before_moved n s place) ≡ Some item

pub run_told : (environment : Environment) (s : State) (earlier : List State) (n : ℕ) (place : Place) (item : Item) → AreSteps environment (on_the_way n s ++ earlier) (moved_on n s) →
    n ≤ length s.active → found_at (moved_on n s) place ≡ Some item → RunTold environment s earlier n place item
run_told environment s earlier zero place item all within e =
    let stands : found_at s place ≡ Some item = subst (λ (u : State). found_at u place ≡ Some item) (moved_on-zero s) e in
    let same : before_moved 0 s place ≡ place = none_before s place item stands in
    record {
      told = ap (followed environment earlier) (sym same)
          ∙ ap (λ n. record { carried = n; origin = (followed environment earlier (before_moved 0 s place)).origin }) (omega arith);
      stood = ap (found_at s) same ∙ stands;
    }
run_told environment s earlier (suc n) place item all within e =
    let u : State = moved_on n s in
    let t : State = moved_on (suc n) s in
    let q : Place = before_moved 1 u place in
    let left : length u.active ≡ length s.active - n =
    ap (λ (text : List ℕ). length text) (active-gathered s.frames (take n s.active) (deleted n s)) ∙ length-drop n s.active in
    let from : origin environment u place ≡ Carried q = one_before environment u t all.0 (moved_on-suc n s) (omega (arith, left, within)) place item e in
    let stands : found_at u q ≡ Some item = subst (λ o. Accounts environment u t o item) from (accounted environment u t all.0 place item e) in
    let further : RunTold environment s earlier n q item = run_told environment s earlier n q item all.1 (omega (arith, within)) stands in
    let same : before_moved n s q ≡ before_moved (suc n) s place = one_more_before n s place (omega (arith, within)) in
    record {
      told = ap (λ o. going_back o (λ p. followed environment (on_the_way n s ++ earlier) p)) from
          ∙ ap one_more further.told
          ∙ ap (λ p. one_more (after_carried n (followed environment earlier p))) same
          ∙ ap (λ k. record { carried = k; origin = (followed environment earlier (before_moved (suc n) s place)).origin }) (omega arith);
      stood = ap (found_at s) (sym same) ∙ further.stood;
    }

pub run_followed : (environment : Environment) (s : State) (earlier : List State) (n : ℕ) (place : Place) (item : Item) → AreSteps environment (on_the_way n s ++ earlier) (moved_on n s) →
    n ≤ length s.active → found_at (moved_on n s) place ≡ Some item →
    followed environment (on_the_way n s ++ earlier) place ≡ after_carried n (followed environment earlier (before_moved n s place))
run_followed environment s earlier n place item all within e = (run_told environment s earlier n place item all within e).told
