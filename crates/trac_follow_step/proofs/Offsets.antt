-- How far into the neutral text what stands in it stands, before and after a step, and as the code counts it.
use Rattle.std.proofs.Common.{◌≡◌, ℕ, zero, suc, ◌+◌, ◌<◌, ◌≤◌, Bool, true, false, List, [], ◌∷◌, ◌++◌, length, take, drop, get_or, refl, sym, ap, ap₂, ◌∙◌, ⊎_elim, arith, ◌-◌, reverse, Some, ◌==◌, slice_get}
use Rattle.std.proofs.lemmas.Bool.{cases_Bool, cond-true, cond-false, eq-eqb, ne_eqb, cases_lt}
use Rattle.std.proofs.lemmas.List.{take-append-le, drop-append-le, drop-drop, drop_all, length-drop, length-reverse, reverse-append}
use Rattle.trac_rules.specs.declared.item.Item.{Item}
use Rattle.trac_rules.specs.declared.kind.Kind.{Kind}
use Rattle.trac_rules.specs.declared.kind.Kind.TheVariants.{Neutral}
use Rattle.trac_rules.specs.Bytes.{idle_program}
use Rattle.trac_rules.specs.Effect.{Effect, argument}
use Rattle.trac_rules.specs.Limits.{argument_bytes, total_length}
use Rattle.trac_rules.specs.Performing.{after_call, changed_by, placed}
use Rattle.trac_rules.specs.PlainRuns.{moved_on}
use Rattle.trac_rules.specs.Scanning.{Call, Calls, Moves, begun, comma_in, deleted, gathered_in, scan}
use Rattle.trac_rules.specs.State.{Frame, State}
use Rattle.trac_rules.proofs.Bounded.{total_length-append}
use Rattle.trac_origins.specs.Lengths.{current_text, in_current}
use Rattle.trac_origins.specs.Places.{Place, InBase, InArgument, arguments_of, byte_at, found_at, numbered}
use Rattle.trac_origins.proofs.Told.{byte_within}
use Rattle.trac_follow_step.specs.Offsets.{IsPlaced, argument_offset, neutral_bytes, offset}
use Rattle.trac_follow_step.specs.Places.{IsOutside, is_in_text, Stands}
use Rattle.trac_follow_step.proofs.CallsTold.{base_is}
use Rattle.trac_follow_step.proofs.Renewed.{called_first, look, look_first, look_rest, moved_by}
use Rattle.std.specs.List.{concat}
use Rattle.trac_origins.proofs.Zips.{of_dropped}
use Rattle.trac_text.specs.Frames.{IsFrame, all_arguments}
use Rattle.trac_text.proofs.NeutralAgain.{function_bytes}
use Rattle.trac_follow_step.proofs.Found.{argument_bare, around, at_number, given_frame}

-- ---- texts one after another

pub texts_before : (k : ℕ) (texts : List (List ℕ)) → total_length (take k texts) + length (get_or texts k []) ≤ total_length texts
texts_before zero [] = omega arith
texts_before (suc k) [] = omega arith
texts_before zero (text ∷ texts) = omega arith
texts_before (suc k) (text ∷ texts) = omega (arith, texts_before k texts)

-- an empty text at the end
empty_at_end : (k : ℕ) (texts : List (List ℕ)) → total_length (take k (texts ++ [] ∷ [])) ≡ total_length (take k texts)
empty_at_end (suc zero) [] = refl
empty_at_end (suc (suc k)) [] = refl
empty_at_end (suc k) (text ∷ texts) = ap (λ n. length text + n) (empty_at_end k texts)
empty_at_end k texts = refl

-- a byte that stands in one of some texts
one_of : (k i : ℕ) (texts : List (List ℕ)) (last : List ℕ) (item : Item) → byte_at i (get_or (texts ++ last ∷ []) k []) ≡ Some item → k ≤ length texts
one_of zero i texts last item e = omega arith
one_of (suc zero) i [] last item e = absurd (cc)
one_of (suc (suc k)) i [] last item e = absurd (cc)
one_of (suc k) i (text ∷ texts) last item e = omega (arith, one_of k i texts last item e)

-- ---- one function more

module _ (f : Frame) (fs : List Frame) (base : List ℕ) (n k i : ℕ) where
  pub first_offset : (n == length fs) ≡ true → argument_offset (f ∷ fs) base n k i ≡ length base + argument_bytes fs + (total_length (take k (arguments_of f)) + i)
  first_offset t =
      cond-true (n == length fs) (length base + argument_bytes fs + (total_length (take k (arguments_of f)) + i)) (argument_offset fs base n k i) t

  pub rest_offset : (n == length fs) ≡ false → argument_offset (f ∷ fs) base n k i ≡ argument_offset fs base n k i
  rest_offset t =
      cond-false (n == length fs) (length base + argument_bytes fs + (total_length (take k (arguments_of f)) + i)) (argument_offset fs base n k i) t

-- two functions around which the same ones are begun, and which have the same arguments before this one
same_offset : (f g : Frame) (fs : List Frame) (base : List ℕ) (n k i : ℕ) → ((n == length fs) ≡ true → total_length (take k (arguments_of g)) ≡ total_length (take k (arguments_of f))) →
    argument_offset (g ∷ fs) base n k i ≡ argument_offset (f ∷ fs) base n k i
same_offset f g fs base n k i same =
    ⊎_elim
    (λ (t : (n == length fs) ≡ true).
    first_offset g fs base n k i t ∙ ap (λ m. length base + argument_bytes fs + (m + i)) (same t) ∙ sym (first_offset f fs base n k i t))
    (λ (t : (n == length fs) ≡ false). rest_offset g fs base n k i t ∙ sym (rest_offset f fs base n k i t))
    (cases_Bool (n == length fs))

-- ---- what stands in the neutral text is within it

argument_within : (fs : List Frame) (base : List ℕ) (n k i : ℕ) (item : Item) → look k i (numbered n fs) ≡ Some item → argument_offset fs base n k i < length base + argument_bytes fs
argument_within [] base n k i item e = absurd (cc)
argument_within (f ∷ fs) base n k i item e =
    ⊎_elim
    (λ (t : (n == length fs) ≡ true).
    let byte = byte_within i (argument k (arguments_of f)) item (sym (look_first f fs n k i t) ∙ e) in
    omega (arith, first_offset f fs base n k i t, byte, texts_before k (arguments_of f), total_length-append f.arguments f.gathered))
    (λ (t : (n == length fs) ≡ false).
    omega (arith, rest_offset f fs base n k i t, argument_within fs base n k i item (sym (look_rest f fs n k i t) ∙ e)))
    (cases_Bool (n == length fs))

pub stands_within : (s : State) (p : Place) (item : Item) → is_in_text p ≡ true → found_at s p ≡ Some item → offset s p < neutral_bytes s
stands_within s (InBase i) item text e = omega (arith, byte_within i s.base item e)
stands_within s (InArgument n k i) item text e = argument_within s.frames s.base n k i item e
stands_within s p item text e = absurd (cc)

-- what is past the current text is past its end
pub new_past : (fs : List Frame) (u : State) (m : ℕ) → u.frames ≡ fs → offset u (in_current fs (length (current_text fs u) + m)) ≡ neutral_bytes u + m
new_past [] u m is = omega (arith, ap argument_bytes is)
new_past (f ∷ fs) u m is =
    let first = first_offset f fs u.base (length fs) (length f.arguments) (length f.gathered + m) (eq-eqb (length fs) (length fs) refl) in
    let those : take (length f.arguments) (arguments_of f) ≡ take (length f.arguments) f.arguments = take-append-le (length f.arguments) f.arguments (f.gathered ∷ []) (omega arith) in
    let whole = total_taken f.arguments in
    ap (λ (gs : List Frame). argument_offset gs u.base (length fs) (length f.arguments) (length f.gathered + m)) is
    ∙ omega (arith, first, ap (λ (texts : List (List ℕ)). total_length texts) those, whole, ap argument_bytes is)
  where
    total_taken : (texts : List (List ℕ)) → total_length (take (length texts) texts) ≡ total_length texts
    total_taken [] = refl
    total_taken (text ∷ texts) = ap (λ n. length text + n) (total_taken texts)

-- ---- what a step leaves

gathered_offset : (fs : List Frame) (text : List ℕ) (u : State) (p : Place) (item : Item) → u.frames ≡ fs → is_in_text p ≡ true → found_at (gathered_in fs text u) p ≡ Some item →
    offset (gathered_in fs text u) p ≡ offset u p
gathered_offset fs text u (InBase i) item is within e = refl
gathered_offset [] text u (InArgument n k i) item is within e =
    ap (λ (gs : List Frame). argument_offset gs (u.base ++ text) n k i) is ∙ sym (ap (λ (gs : List Frame). argument_offset gs u.base n k i) is)
gathered_offset (f ∷ fs) text u (InArgument n k i) item is within e =
    let g : Frame = record f { gathered = f.gathered ++ text } in
    same_offset f g fs u.base n k i
    (λ t.
    let few : k ≤ length f.arguments = one_of k i f.arguments (f.gathered ++ text) item (sym (look_first g fs n k i t) ∙ e) in
    ap (λ (texts : List (List ℕ)). total_length texts) (take-append-le k f.arguments ((f.gathered ++ text) ∷ []) few ∙ sym (take-append-le k f.arguments (f.gathered ∷ []) few)))
    ∙ sym (ap (λ (gs : List Frame). argument_offset gs u.base n k i) is)
gathered_offset fs text u p item is within e = absurd (cc)

comma_offset : (fs : List Frame) (u : State) (p : Place) → u.frames ≡ fs → offset (comma_in fs u) p ≡ offset u p
comma_offset (f ∷ fs) u (InArgument n k i) is =
    let g : Frame = record f { arguments = f.arguments ++ f.gathered ∷ []; gathered = [] } in
    same_offset f g fs u.base n k i (λ t. empty_at_end k (f.arguments ++ f.gathered ∷ []))
    ∙ sym (ap (λ (gs : List Frame). argument_offset gs u.base n k i) is)
comma_offset fs u p is = refl

begun_offset : (kind : Kind) (u : State) (p : Place) (item : Item) → found_at (begun kind u) p ≡ Some item → offset (begun kind u) p ≡ offset u p
begun_offset kind u (InArgument n k i) item e =
    let g : Frame = record { kind = kind; arguments = []; gathered = [] } in
    ⊎_elim
    (λ (t : (n == length u.frames) ≡ true). absurd (nothing k (sym (look_first g u.frames n k i t) ∙ e)))
    (λ (t : (n == length u.frames) ≡ false). rest_offset g u.frames u.base n k i t)
    (cases_Bool (n == length u.frames))
  where
    nothing : (k : ℕ) → byte_at i (get_or ([] ∷ []) k []) ≡ Some item → ⊥
    nothing zero e = absurd (cc)
    nothing (suc k) e = absurd (cc)
begun_offset kind u p item e = refl

-- between two states with the same texts
offset_alike : (u v : State) (p : Place) → u.base ≡ v.base → u.frames ≡ v.frames → offset u p ≡ offset v p
offset_alike u v (InArgument n k i) base frames = ap₂ (λ (fs : List Frame) text. argument_offset fs text n k i) frames base
offset_alike u v p base frames = refl

-- a rule that moves on
pub moved_offset : (s t : State) (p : Place) (item : Item) → scan s ≡ Moves t → is_in_text p ≡ true → found_at t p ≡ Some item → offset t p ≡ offset s p
moved_offset s t p item is within =
    moved_by s (λ f u. found_at u p ≡ Some item → offset u p ≡ offset s p) (idle p within) (λ f e. offset_alike (deleted 1 s) s p refl refl)
    (λ f moves text left e. gathered_offset s.frames text (record s { active = left }) p item refl within e ∙ offset_alike (record s { active = left }) s p refl refl)
    (λ e. comma_offset s.frames (deleted 1 s) p refl ∙ offset_alike (deleted 1 s) s p refl refl)
    (λ f kind n e. begun_offset kind (deleted n s) p item e ∙ offset_alike (deleted n s) s p refl refl) t is
  where
    idle : (q : Place) → is_in_text q ≡ true → found_at (record s { active = idle_program; base = []; frames = [] }) q ≡ Some item →
        offset (record s { active = idle_program; base = []; frames = [] }) q ≡ offset s q
    idle (InBase i) within e = refl
    idle q within e = absurd (cc)

-- a call
pub called_offset : (call : Call) (e : Effect) (p : Place) (item : Item) → is_in_text p ≡ true → found_at (after_call call e) p ≡ Some item → offset (after_call call e) p ≡ offset call.state p
called_offset call e p item within h = go call.kind e.forced h
  where
    u : State
    u = changed_by e call.state

    go : (kind : Kind) (forced : Bool) → found_at (placed kind forced e.value u) p ≡ Some item → offset (placed kind forced e.value u) p ≡ offset call.state p
    go Neutral false there = gathered_offset u.frames e.value u p item refl within there ∙ offset_alike u call.state p refl refl
    go kind forced there = offset_alike (record u { active = e.value ++ u.active }) call.state p refl refl

-- what stands around the function that is called
pub around_offset : (s : State) (call : Call) (p : Place) → scan s ≡ Calls call → is_in_text p ≡ true → IsOutside (length call.state.frames) p → offset s p ≡ offset call.state p
around_offset s call (InArgument n k i) is text outside =
    let first = called_first s call is in
    ap (λ (gs : List Frame). argument_offset gs s.base n k i) first.1
    ∙ rest_offset first.0 call.state.frames s.base n k i (ne_eqb n (length call.state.frames) (λ same. absurd (omega (arith, same, outside))))
    ∙ ap (λ base. argument_offset call.state.frames base n k i) (sym (base_is s call is))
around_offset s call p is text outside = refl

-- a run of bytes that move on
pub offset_before : (n : ℕ) (s : State) (p : Place) (bytes : ℕ) (gap : Bool) (item : Item) → found_at (moved_on n s) p ≡ Some item → IsPlaced bytes gap (moved_on n s) p →
    is_in_text p ≡ true → bytes ≡ offset s p
offset_before n s p bytes gap item stands placed text =
    placed.before text ∙ gathered_offset s.frames (take n s.active) (deleted n s) p item refl text stands ∙ offset_alike (deleted n s) s p refl refl

-- ---- functions, counted from the outermost

-- one more at the end
bytes_push : (fs : List Frame) (f : Frame) → argument_bytes (fs ++ f ∷ []) ≡ argument_bytes fs + (total_length f.arguments + length f.gathered)
bytes_push [] f = omega arith
bytes_push (g ∷ fs) f = omega (arith, bytes_push fs f)

pub bytes_reversed : (fs : List Frame) → argument_bytes (reverse fs) ≡ argument_bytes fs
bytes_reversed [] = refl
bytes_reversed (f ∷ fs) = ap argument_bytes (reverse-append (f ∷ []) fs) ∙ omega (arith, bytes_push (reverse fs) f, bytes_reversed fs)

none_dropped : (n : ℕ) → argument_bytes (drop n []) ≡ 0
none_dropped zero = refl
none_dropped (suc n) = refl

-- those from a number on, and those before it
bytes_split : (fs : List Frame) (n : ℕ) → n ≤ length fs → argument_bytes (drop n (reverse fs)) + argument_bytes (drop (length fs - n) fs) ≡ argument_bytes fs
bytes_split [] n l = omega (arith, none_dropped n, none_dropped (0 - n))
bytes_split (f ∷ fs) n l =
    ⊎_elim
    (λ (past : length fs < n).
    let none : length (f ∷ fs) - n ≡ 0 = omega (arith, l, past) in
    omega (
      arith,
      ap argument_bytes (drop_all n (reverse (f ∷ fs)) (omega (arith, past, length-reverse (f ∷ fs)))),
      ap (λ k. argument_bytes (drop k (f ∷ fs))) none,
    ))
    (λ (within : n ≤ length fs).
    let more : length (f ∷ fs) - n ≡ suc (length fs - n) = omega (arith, within) in
    omega (
      arith,
      ap (λ (gs : List Frame). argument_bytes (drop n gs)) (reverse-append (f ∷ []) fs),
      ap argument_bytes (drop-append-le n (reverse fs) (f ∷ []) (omega (arith, within, length-reverse fs))),
      bytes_push (drop n (reverse fs)) f,
      bytes_split fs n within,
      ap (λ k. argument_bytes (drop k (f ∷ fs))) more,
    ))
    (cases_lt (length fs) n)

-- the next of them
pub next_bytes : (frames : List Frame) (kind : Kind) (arguments : List (List ℕ)) → IsFrame (slice_get frames 0) kind arguments → argument_bytes frames ≡ length (concat arguments) + argument_bytes (drop 1 frames)
next_bytes [] kind arguments is = absurd is
next_bytes (f ∷ fs) kind arguments is =
    omega (arith, function_bytes f.arguments f.gathered, ap (λ (texts : List (List ℕ)). length (concat texts)) (sym is.1))

-- the last one
pub last_bytes : (frames : List Frame) (n : ℕ) (kind : Kind) (arguments : List (List ℕ)) → n + 1 ≡ length frames → IsFrame (slice_get frames n) kind arguments →
    argument_bytes (drop n frames) ≡ length (concat arguments)
last_bytes (f ∷ []) zero kind arguments last is = omega (arith, next_bytes (f ∷ []) kind arguments is)
last_bytes (f ∷ fs) (suc n) kind arguments last is = last_bytes fs n kind arguments (omega (arith, last)) is
last_bytes fs n kind arguments last is = absurd (omega (arith, last))

-- none is left
pub none_left : (frames : List Frame) (i n : ℕ) → i ≤ n → drop i frames ≡ [] → argument_bytes (drop n frames) ≡ 0
none_left frames i n l none =
    let rest : drop (n - i) (drop i frames) ≡ drop n frames = drop-drop (n - i) i frames ∙ ap (λ k. drop k frames) (omega (arith, l)) in
    ap argument_bytes (sym rest) ∙ ap (λ (gs : List Frame). argument_bytes (drop (n - i) gs)) none ∙ none_dropped (n - i)

-- ---- arguments

next_one : (texts : List (List ℕ)) (i : ℕ) → total_length (take (suc i) texts) ≡ total_length (take i texts) + length (get_or texts i [])
next_one [] zero = refl
next_one [] (suc i) = refl
next_one (text ∷ texts) zero = omega arith
next_one (text ∷ texts) (suc i) = omega (arith, next_one texts i)

pub next_text : (texts : List (List ℕ)) (i : ℕ) → total_length (take (i + 1) texts) ≡ total_length (take i texts) + length (get_or texts i [])
next_text texts i =
    let same : i + 1 ≡ suc i = omega arith in
    ap (λ n. total_length (take n texts)) same ∙ next_one texts i

-- ---- a byte

at_function : (fs : List Frame) (m n k i : ℕ) (base : List ℕ) (f : Frame) (rest : List Frame) → drop m fs ≡ f ∷ rest → length rest ≡ n →
    argument_offset fs base n k i ≡ length base + argument_bytes rest + (total_length (take k (arguments_of f)) + i)
at_function fs m n k i base =
    at_number n (λ gs. argument_offset gs base n k i) (λ g gs. length base + argument_bytes gs + (total_length (take k (arguments_of g)) + i))
    (λ g gs. first_offset g gs base n k i) (λ g gs. rest_offset g gs base n k i) fs m

pub offset_is : (s : State) (n k i : ℕ) (kind : Kind) (arguments : List (List ℕ)) (len from_function from_argument from_byte result : ℕ) → IsFrame (slice_get (reverse s.frames) n) kind arguments →
    from_function ≡ argument_bytes (drop n (reverse s.frames)) → from_argument ≡ from_function - total_length (take k arguments) → from_byte ≡ from_argument - i →
    len ≡ neutral_bytes s → result ≡ len - from_byte → Stands s (InArgument n k i) → result ≡ offset s (InArgument n k i)
offset_is s n k i kind arguments len from_function from_argument from_byte result is function argument byte whole left stands =
    let given = given_frame (slice_get (reverse s.frames) n) kind arguments is in
    let f : Frame = given.0 in
    let at = around s.frames n f given.1 in
    let rest : List Frame = at.0 in
    let within : n < length s.frames = omega (arith, at.2, ap (λ (fs : List Frame). length fs) at.1, length-drop (length s.frames - (n + 1)) s.frames) in
    let outer : drop (length s.frames - n) s.frames ≡ rest =
    ap (λ m. drop m s.frames) (omega (arith, within)) ∙ sym (drop-drop 1 (length s.frames - (n + 1)) s.frames) ∙ ap (λ (fs : List Frame). drop 1 fs) at.1 in
    let there : offset s (InArgument n k i) ≡ length s.base + argument_bytes rest + (total_length (take k (arguments_of f)) + i) =
    at_function s.frames (length s.frames - (n + 1)) n k i s.base f rest at.1 at.2 in
    let few : i < length (get_or arguments k []) =
    ⊎_elim
    (λ (l : i < length (get_or arguments k [])). l)
    (λ (past : length (get_or arguments k []) ≤ i). absurd (argument_bare s n k i kind arguments is past stands.0 stands.1))
    (cases_lt i (length (get_or arguments k []))) in
    let first : slice_get (drop n (reverse s.frames)) 0 ≡ Some f =
    of_dropped n (reverse s.frames) 0 ∙ ap (slice_get (reverse s.frames)) (let same : n + 0 ≡ n = omega arith in same) ∙ given.1 in
    let own : argument_bytes (drop n (reverse s.frames)) ≡ total_length arguments + argument_bytes (drop 1 (drop n (reverse s.frames))) =
    own_bytes (drop n (reverse s.frames)) f first ∙ ap (λ (texts : List (List ℕ)). total_length texts + argument_bytes (drop 1 (drop n (reverse s.frames)))) given.2 in
    omega (
      arith,
      left,
      whole,
      byte,
      argument,
      function,
      own,
      there,
      few,
      texts_before k arguments,
      bytes_split s.frames n (omega (arith, within)),
      ap argument_bytes outer,
      ap (λ (texts : List (List ℕ)). total_length (take k texts)) given.2,
    )
  where
    own_bytes : (fs : List Frame) (g : Frame) → slice_get fs 0 ≡ Some g → argument_bytes fs ≡ total_length (all_arguments g) + argument_bytes (drop 1 fs)
    own_bytes [] g e = absurd (cc)
    own_bytes (h ∷ fs) g e =
        let same : h ≡ g = cc in
        omega (arith, total_length-append h.arguments h.gathered, ap (λ (x : Frame). total_length (all_arguments x)) same)
