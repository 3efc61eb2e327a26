-- Where a text stands in a form: by runs of bytes between gaps, and by places.
use Rattle.std.proofs.Common.{◌≡◌, ℕ, zero, suc, ◌+◌, ◌<◌, ◌≤◌, Bool, true, false, cond, List, [], ◌∷◌, length, take, drop, get_or, refl, sym, ap, ◌∙◌, arith, ⊎_elim}
use Rattle.std.specs.Prelude.{Option, None, Some, is_some, slice_get, sum, ◌==◌, ◌||◌, ◌&&◌}
use Rattle.std.specs.List.{list_any}
use Rattle.std.specs.Option.{option_map_or, option_to_list}
use Rattle.std.specs.Str.{bytes_eq}
use Rattle.std.proofs.Math.Bool.{or-false, or_assoc}
use Rattle.std.proofs.lemmas.Bool.{and_parts, cases_eq, cases_lt, eq-eqb, eqb-true, false≢true, false_from_ne_true}
use Rattle.std.proofs.lemmas.List.{drop_more, get_or-drop, take_more, length-drop}
use Rattle.std.proofs.lemmas.List.Sums.{sum_by-cons, sum_by_push}
use Rattle.std.proofs.lemmas.Option.{slice_get-get_or}
use Rattle.trac_rules.specs.declared.item.Item.{Item}
use Rattle.trac_rules.specs.declared.item.Item.TheVariants.{Byte, Gap}
use Rattle.trac_rules.specs.Bytes.{first_place}
use Rattle.trac_rules.specs.Pieces.{begin_with}
use Rattle.trac_rules.specs.Segmenting.{leftmost, runs_of, stands_at}
use Rattle.trac_rules.specs.Doubts.{stands_in}
use Rattle.trac_doubts.specs.Sums.{code_of, sum_among}

-- ---- the first of some places

chosen : (b : Bool) (n : ℕ) → is_some (cond b (Some n) None) ≡ b
chosen true n = refl
chosen false n = refl

-- one place more, after the others
some_more : (passes : ℕ → Bool) (n : ℕ) → is_some (first_place passes (suc n)) ≡ (is_some (first_place passes n) || passes n)
some_more passes n = go (first_place passes n) refl
  where
    go : (o : Option ℕ) → first_place passes n ≡ o → is_some (first_place passes (suc n)) ≡ (is_some (first_place passes n) || passes n)
    go None e = rw e (chosen (passes n) n)
    go (Some k) e = rw e refl

-- one place more, before the others
some_before : (passes : ℕ → Bool) (n : ℕ) → is_some (first_place passes (suc n)) ≡ (passes 0 || is_some (first_place (λ k. passes (suc k)) n))
some_before passes zero = chosen (passes 0) 0 ∙ sym (or-false (passes 0))
some_before passes (suc n) =
    some_more passes (suc n)
    ∙ ap (λ b. b || passes (suc n)) (some_before passes n)
    ∙ or_assoc (passes 0) (is_some (first_place (λ k. passes (suc k)) n)) (passes (suc n))
    ∙ ap (λ b. passes 0 || b) (sym (some_more (λ k. passes (suc k)) n))

-- ---- by runs, and by places

eq_turned : (a b : ℕ) → (a == b) ≡ (b == a)
eq_turned a b =
    ⊎_elim
    (λ (e : a ≡ b). eq-eqb a b e ∙ sym (eq-eqb b a (sym e)))
    (λ (ne : a ≡ b → ⊥). false_from_ne_true (a == b) (λ t. ne (eqb-true a b t)) ∙ sym (false_from_ne_true (b == a) (λ t. ne (sym (eqb-true b a t)))))
    (cases_eq a b)

-- items begin with a text where their first run does
begins_run : (text : List ℕ) (items : List Item) → begin_with text items ≡ bytes_eq (take (length text) (runs_of items).first) text
begins_run [] items = refl
begins_run (b ∷ text) [] = refl
begins_run (b ∷ text) (Byte c ∷ items) = λ i. eq_turned b c i && begins_run text items i
begins_run (b ∷ text) (Gap ordinal width ∷ items) = refl

-- whether a text begins at one of the places of items
abbrev pub begins_somewhere : List ℕ → List Item → Bool
begins_somewhere text [] = false
begins_somewhere text (item ∷ items) = begin_with text (item ∷ items) || begins_somewhere text items

-- a byte before a run
leftmost_before : (text run : List ℕ) (b : ℕ) → is_some (leftmost text (b ∷ run)) ≡ (stands_at text (b ∷ run) 0 || is_some (leftmost text run))
leftmost_before text run b =
    ap (λ n. is_some (first_place (stands_at text (b ∷ run)) n)) (let same : suc (length run) + 1 ≡ suc (length run + 1) = omega arith in same)
    ∙ some_before (stands_at text (b ∷ run)) (length run + 1)

pub stands_somewhere : (b : ℕ) (text : List ℕ) (items : List Item) → stands_in (b ∷ text) (runs_of items) ≡ begins_somewhere (b ∷ text) items
stands_somewhere b text [] = refl
stands_somewhere b text (Byte c ∷ items) =
    let run = (runs_of items).first in
    let rest = list_any (λ piece. is_some (leftmost (b ∷ text) piece.1)) (runs_of items).others in
    ap (λ found. found || rest) (leftmost_before (b ∷ text) run c)
    ∙ or_assoc (stands_at (b ∷ text) (c ∷ run) 0) (is_some (leftmost (b ∷ text) run)) rest
    ∙ (λ i. sym (begins_run (b ∷ text) (Byte c ∷ items)) i || stands_somewhere b text items i)
stands_somewhere b text (Gap ordinal width ∷ items) = stands_somewhere b text items

-- ---- places

or_right : (a b : Bool) → b ≡ true → (a || b) ≡ true
or_right true b e = refl
or_right false b e = e

-- it begins at this place
pub found_at : (b : ℕ) (text : List ℕ) (items : List Item) (k : ℕ) → begin_with (b ∷ text) (drop k items) ≡ true → begins_somewhere (b ∷ text) items ≡ true
found_at b text [] zero e = e
found_at b text [] (suc k) e = e
found_at b text (item ∷ items) zero e = ap (λ here. here || begins_somewhere (b ∷ text) items) e
found_at b text (item ∷ items) (suc k) e = or_right (begin_with (b ∷ text) (item ∷ items)) (begins_somewhere (b ∷ text) items) (found_at b text items k e)

-- it begins at none
pub none_at : (text : List ℕ) (items : List Item) → ((k : ℕ) → k < length items → begin_with text (drop k items) ≡ false) → begins_somewhere text items ≡ false
none_at text [] none = refl
none_at text (item ∷ items) none =
    (λ i. none 0 (omega arith) i || begins_somewhere text items) ∙ none_at text items (λ k l. none (suc k) (omega arith))

-- items that begin with a text are as many at least
pub begins_within : (text : List ℕ) (items : List Item) → begin_with text items ≡ true → length text ≤ length items
begins_within [] items e = omega arith
begins_within (b ∷ text) [] e = absurd (false≢true e)
begins_within (b ∷ text) (Byte c ∷ items) e = omega (arith, begins_within text items (and_parts (b == c) (begin_with text items) e).1)
begins_within (b ∷ text) (Gap ordinal width ∷ items) e = absurd (false≢true e)

-- ---- sums

-- and their sum is that of the text
begins_sum : (text : List ℕ) (items : List Item) → begin_with text items ≡ true → sum text ≡ sum_among (take (length text) items)
begins_sum [] items e = refl
begins_sum (b ∷ text) [] e = absurd (false≢true e)
begins_sum (b ∷ text) (Byte c ∷ items) e =
    let both = and_parts (b == c) (begin_with text items) e in
    sum_by-cons (λ x. x) b text
    ∙ (λ i. eqb-true b c both.0 i + begins_sum text items both.1 i)
    ∙ sym (sum_by-cons code_of (Byte c) (take (length text) items))
begins_sum (b ∷ text) (Gap ordinal width ∷ items) e = absurd (false≢true e)

-- where the sum is another, the text does not begin
pub other_sum : (text : List ℕ) (items : List Item) → (sum_among (take (length text) items) ≡ sum text → ⊥) → begin_with text items ≡ false
other_sum text items differs = false_from_ne_true _ (λ e. differs (sym (begins_sum text items e)))

-- the code of the item at a place; 0 past the end
abbrev pub code_in : List Item → ℕ → ℕ
code_in items k = option_map_or code_of (slice_get items k) 0

there : (items : List Item) (k : ℕ) → k < length items → code_in items k ≡ code_of (get_or items k (Gap 0 0))
there items k l = ap (λ o. option_map_or code_of o 0) (slice_get-get_or items k (Gap 0 0) l)

-- one place on, an item comes in and an item goes out
pub sum_moved : (items : List Item) (k m : ℕ) → k + m < length items →
    sum_among (take m (drop (k + 1) items)) + code_in items k ≡ sum_among (take m (drop k items)) + code_in items (k + m)
sum_moved items k m within =
    let front : drop k items ≡ get_or items k (Gap 0 0) ∷ drop (k + 1) items = drop_more items k (Gap 0 0) (omega arith) in
    let whole : sum_among (take (m + 1) (drop k items)) ≡ sum_among (take m (drop k items)) + code_of (get_or (drop k items) m (Gap 0 0)) =
    ap sum_among (take_more (drop k items) m (Gap 0 0) (omega (arith, length-drop k items))) ∙ sum_by_push code_of (take m (drop k items)) (get_or (drop k items) m (Gap 0 0)) in
    let again : sum_among (take (m + 1) (drop k items)) ≡ code_of (get_or items k (Gap 0 0)) + sum_among (take m (drop (k + 1) items)) =
    ap (λ (xs : List Item). sum_among (take (m + 1) xs)) front
    ∙ ap (λ n. sum_among (take n (get_or items k (Gap 0 0) ∷ drop (k + 1) items))) (let same : m + 1 ≡ suc m = omega arith in same)
    ∙ sum_by-cons code_of (get_or items k (Gap 0 0)) (take m (drop (k + 1) items)) in
    let last : code_of (get_or (drop k items) m (Gap 0 0)) ≡ code_in items (k + m) = ap code_of (get_or-drop k items m (Gap 0 0)) ∙ sym (there items (k + m) within) in
    omega (arith, whole, again, last, there items k (omega arith))

-- one item more
pub sum_next : (items : List Item) (k : ℕ) → k < length items → sum_among (take (k + 1) items) ≡ sum_among (take k items) + code_in items k
sum_next items k l =
    ap sum_among (take_more items k (Gap 0 0) l)
    ∙ sum_by_push code_of (take k items) (get_or items k (Gap 0 0))
    ∙ ap (λ n. sum_among (take k items) + n) (sym (there items k l))

-- ---- a text by its bytes

and_true : (a b : Bool) → (a && b) ≡ ((a && true) && b)
and_true true b = refl
and_true false b = refl

-- one byte of a text, and the item at its place
byte_step : (b : ℕ) (text : List ℕ) (items : List Item) (k : ℕ) →
    begin_with (b ∷ text) (drop k items) ≡ (begin_with (b ∷ []) (option_to_list (slice_get items k)) && begin_with text (drop (suc k) items))
byte_step b text [] zero = refl
byte_step b text [] (suc k) = refl
byte_step b text (Byte c ∷ items) zero = and_true (b == c) (begin_with text items)
byte_step b text (Gap ordinal width ∷ items) zero = refl
byte_step b text (item ∷ items) (suc k) = byte_step b text items k

pub next_byte : (text : List ℕ) (items : List Item) (i k : ℕ) → i < length text →
    begin_with (drop i text) (drop k items) ≡ (begin_with (get_or text i 0 ∷ []) (option_to_list (slice_get items k)) && begin_with (drop (i + 1) text) (drop (k + 1) items))
next_byte text items i k l =
    ap (λ (t : List ℕ). begin_with t (drop k items)) (drop_more text i 0 l)
    ∙ byte_step (get_or text i 0) (drop (i + 1) text) items k
    ∙ ap (λ n. begin_with (get_or text i 0 ∷ []) (option_to_list (slice_get items k)) && begin_with (drop (i + 1) text) (drop n items)) (let same : suc k ≡ k + 1 = omega arith in same)

-- ---- what a search says

stands_is : (text : List ℕ) (items : List Item) → 0 < length text → stands_in text (runs_of items) ≡ begins_somewhere text items
stands_is [] items l = absurd (omega (arith, l))
stands_is (b ∷ text) items l = stands_somewhere b text items

-- it was found
pub found : (text : List ℕ) (items : List Item) (k : ℕ) → 0 < length text → begin_with text (drop k items) ≡ true → true ≡ stands_in text (runs_of items)
found [] items k l here = absurd (omega (arith, l))
found (b ∷ text) items k l here = sym (stands_somewhere b text items ∙ found_at b text items k here)

-- it is nowhere
missing : (text : List ℕ) (items : List Item) → 0 < length text → ((k : ℕ) → k < length items → begin_with text (drop k items) ≡ false) → false ≡ stands_in text (runs_of items)
missing text items l none = sym (stands_is text items l ∙ none_at text items none)

-- where too few items are left it does not begin
too_few : (text : List ℕ) (items : List Item) (k : ℕ) → length items < k + length text → 0 < length text → begin_with text (drop k items) ≡ false
too_few text items k few some = false_from_ne_true _ (λ e. absurd (omega (arith, begins_within text (drop k items) e, length-drop k items, few, some)))

-- there are fewer items than bytes
pub too_short : (text : List ℕ) (items : List Item) → 0 < length text → length items < length text → false ≡ stands_in text (runs_of items)
too_short text items l few = missing text items l (λ k m. too_few text items k (omega (arith, few)) l)

-- what is left to try is the last place at which it can stand
pub last_tried : (text : List ℕ) (items : List Item) (last : ℕ) (here : Bool) → 0 < length text → last + length text ≡ length items → here ≡ begin_with text (drop last items) →
    ((k : ℕ) → k < last → begin_with text (drop k items) ≡ false) → here ≡ stands_in text (runs_of items)
last_tried text items last true l all is before = found text items last l (sym is)
last_tried text items last false l all is before =
    missing text items l (λ k m.
    ⊎_elim
    (λ (sooner : k < last). before k sooner)
    (λ (later : last ≤ k).
    ⊎_elim
    (λ (same : k ≡ last). ap (λ n. begin_with text (drop n items)) same ∙ sym is)
    (λ (ne : k ≡ last → ⊥). too_few text items k (let past : last < k = omega (arith, ne, later) in omega (arith, past, all)) l)
    (cases_eq k last))
    (cases_lt k last))
