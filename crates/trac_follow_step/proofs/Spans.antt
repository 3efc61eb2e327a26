-- Items one after another, what they give and how much they stand for.
use Rattle.std.proofs.Common.{◌≡◌, ℕ, zero, suc, ◌+◌, ◌-◌, ◌<◌, ◌≤◌, List, [], ◌∷◌, ◌++◌, All, length, take, drop, get_or, not, refl, ap, subst, ◌∙◌, ⊎_elim, arith, Some, slice_get, take-add}
use Rattle.std.specs.List.{flat_map, position_or_len}
use Rattle.std.proofs.lemmas.Bool.{cases_lt, cases_order}
use Rattle.std.proofs.lemmas.Grind.{flat_map-append}
use Rattle.std.proofs.lemmas.List.{drop-drop, drop_at, length-append, length-drop, length-take, take-append-drop, take_all, take_more}
use Rattle.std.proofs.lemmas.List.Elements.{All-head, All-tail}
use Rattle.std.proofs.lemmas.List.Sums.{prefix_len-le-length}
use Rattle.std.proofs.lemmas.Option.{get_or_from_slice_get, slice_get_within}
use Rattle.trac_rules.specs.declared.item.Item.{Item}
use Rattle.trac_rules.specs.declared.item.Item.TheVariants.{Byte, Gap}
use Rattle.trac_rules.specs.Form.{Form, IsWide, all_items, extent, width_of}
use Rattle.trac_rules.specs.Pieces.{byte_of, bytes_in, is_gap}
use Rattle.trac_origins.proofs.Zips.{of_dropped}
use Rattle.trac_follow_step.specs.declared.items.Given.{Given}
use Rattle.trac_follow_step.specs.Items.{IsGiven}

-- ---- as much as each of them

module _ (whole : List Item → ℕ) (each : Item → ℕ) (none : whole [] ≡ 0) (more : (x : Item) (xs : List Item) → whole (x ∷ xs) ≡ each x + whole xs) where
  joined : (xs ys : List Item) → whole (xs ++ ys) ≡ whole xs + whole ys
  joined [] ys = omega (arith, none)
  joined (x ∷ xs) ys = omega (arith, more x (xs ++ ys), more x xs, joined xs ys)

  one_more : (items : List Item) (n : ℕ) (item : Item) → slice_get items n ≡ Some item → whole (take (n + 1) items) ≡ whole (take n items) + each item
  one_more items n item e =
      ap whole (take_more items n item (slice_get_within items n item e)) ∙ joined (take n items) (get_or items n item ∷ [])
      ∙ omega (arith, more (get_or items n item) [], none, ap each (get_or_from_slice_get items n item item e))

  grows : (items : List Item) (m n : ℕ) → m ≤ n → whole (take m items) ≤ whole (take n items)
  grows items m n l =
      let all : m + (n - m) ≡ n = omega (arith, l) in
      omega (arith, ap (λ k. whole (take k items)) all, ap whole (take-add m (n - m) items), joined (take m items) (take (n - m) (drop m items)))

  -- no two that come to something have as much before them
  alone : (items : List Item) (m n : ℕ) (x y : Item) → slice_get items m ≡ Some x → slice_get items n ≡ Some y → 0 < each x → 0 < each y → whole (take m items) ≡ whole (take n items) → m ≡ n
  alone items m n x y first second some other e =
      ⊎_elim
      (λ (same : m ≡ n). same)
      (⊎_elim
      (λ (l : m < n). absurd (omega (arith, grows items (m + 1) n (omega (arith, l)), one_more items m x first, some, e)))
      (λ (l : n < m). absurd (omega (arith, grows items (n + 1) m (omega (arith, l)), one_more items n y second, other, e))))
      (cases_order m n)

-- ---- what they give

pub given_more : (give : Item → List ℕ) (items : List Item) (n : ℕ) (item : Item) → slice_get items n ≡ Some item →
    length (flat_map give (take (n + 1) items)) ≡ length (flat_map give (take n items)) + length (give item)
given_more give = one_more (λ xs. length (flat_map give xs)) (λ x. length (give x)) refl (λ x xs. length-append (give x) (flat_map give xs))

-- some of them have no more bytes than all
pub bytes_taken : (n : ℕ) (items : List Item) → length (bytes_in (take n items)) ≤ length (bytes_in items)
bytes_taken n items =
    omega (
      arith,
      ap (λ (xs : List Item). length (bytes_in xs)) (take-append-drop n items),
      joined (λ xs. length (bytes_in xs)) (λ x. length (byte_of x)) refl (λ x xs. length-append (byte_of x) (bytes_in xs)) (take n items) (drop n items),
    )

-- the byte that has so many before it is one, and fewer than all
pub byte_alone : (items : List Item) (m n a b : ℕ) → slice_get items m ≡ Some (Byte a) → slice_get items n ≡ Some (Byte b) → length (bytes_in (take m items)) ≡ length (bytes_in (take n items)) → m ≡ n
byte_alone items m n a b first second e =
    alone (λ xs. length (bytes_in xs)) (λ x. length (byte_of x)) refl (λ x xs. length-append (byte_of x) (bytes_in xs)) items m n (Byte a) (Byte b) first second (omega arith) (omega arith) e

pub byte_before_end : (items : List Item) (m b : ℕ) → slice_get items m ≡ Some (Byte b) → length (bytes_in (take m items)) < length (bytes_in items)
byte_before_end items m b there = omega (arith, bytes_taken (m + 1) items, given_more byte_of items m (Byte b) there)

-- items before the first gap give a byte each, where each byte gives one
run_given : (give : Item → List ℕ) → ((b : ℕ) → length (give (Byte b)) ≡ 1) → (items : List Item) (m n : ℕ) → n ≤ position_or_len is_gap (take m items) → length (flat_map give (take n items)) ≡ n
run_given give one items m zero l = refl
run_given give one [] zero (suc n) l = absurd (omega (arith, l))
run_given give one [] (suc m) (suc n) l = absurd (omega (arith, l))
run_given give one (item ∷ items) zero (suc n) l = absurd (omega (arith, l))
run_given give one (Byte b ∷ items) (suc m) (suc n) l =
    omega (arith, length-append (give (Byte b)) (flat_map give (take n items)), one b, run_given give one items m n (omega (arith, l)))
run_given give one (Gap k w ∷ items) (suc m) (suc n) l = absurd (omega (arith, l))

-- of the items from one place up to another: those up to a place, and a run of bytes from there on
module _ (give : Item → List ℕ) (one : (b : ℕ) → length (give (Byte b)) ≡ 1) (items : List Item) (from place to : ℕ) (order : from ≤ place) where
  run_more : (n : ℕ) → n ≤ position_or_len is_gap (take (to - place) (drop place items)) →
      length (flat_map give (take (place + n - from) (drop from items))) ≡ length (flat_map give (take (place - from) (drop from items))) + n
  run_more n l =
      let later : drop (place - from) (drop from items) ≡ drop place items =
      drop-drop (place - from) from items ∙ ap (λ k. drop k items) (let same : from + (place - from) ≡ place = omega (arith, order) in same) in
      ap (λ k. length (flat_map give (take k (drop from items)))) (let same : place + n - from ≡ place - from + n = omega (arith, order) in same)
      ∙ ap (λ (xs : List Item). length (flat_map give xs)) (take-add (place - from) n (drop from items) ∙ ap (λ (xs : List Item). take (place - from) (drop from items) ++ take n xs) later)
      ∙ ap (λ (text : List ℕ). length text) (flat_map-append give (take (place - from) (drop from items)) (take n (drop place items)))
      ∙ length-append (flat_map give (take (place - from) (drop from items))) (flat_map give (take n (drop place items)))
      ∙ ap (λ k. length (flat_map give (take (place - from) (drop from items))) + k) (run_given give one (drop place items) (to - place) n l)

  module _ (run : ℕ) (is : run ≡ position_or_len is_gap (take (to - place) (drop place items))) where
    pub run_within : run ≤ to - place
    run_within = omega (arith, is, prefix_len-le-length (λ item. not (is_gap item)) (take (to - place) (drop place items)), length-take (to - place) (drop place items))

    -- all of it is passed
    pub run_passed : length (flat_map give (take (place + run - from) (drop from items))) ≡ length (flat_map give (take (place - from) (drop from items))) + run
    run_passed = run_more run (omega (arith, is))

    -- or a byte of it is found
    pub run_found : (rest i : ℕ) (given : Given) → length (flat_map give (take (place - from) (drop from items))) + rest ≡ i → rest < run → place ≤ to →
        slice_get items (place + rest) ≡ Some given.item → given.at ≡ place + rest - from → given.byte ≡ 0 → (given.at < to - from) × IsGiven give (drop from items) i given
    run_found rest i given sum short within there at byte =
        let here : slice_get (drop from items) given.at ≡ Some given.item =
        ap (slice_get (drop from items)) at ∙ of_dropped from items (place + rest - from)
        ∙ ap (slice_get items) (let same : from + (place + rest - from) ≡ place + rest = omega (arith, order) in same) ∙ there in
        let before = run_more rest (omega (arith, is, short)) in
        let more = run_more (rest + 1) (omega (arith, is, short)) in
        let next : place + (rest + 1) - from ≡ place + rest - from + 1 = omega (arith, order) in
        let counted = ap (λ k. length (flat_map give (take k (drop from items)))) next in
        let count = ap (λ k. length (flat_map give (take k (drop from items)))) at in
        let one_more = given_more give (drop from items) given.at given.item here in
        let same = ap (λ k. length (flat_map give (take (k + 1) (drop from items)))) at in (
          omega (arith, at, short, run_within, within, order),
          record { there = here; place = omega (arith, before, sum, count, byte); within = omega (arith, before, more, counted, count, one_more, same, byte) },
        )

-- ---- how much they stand for

pub stands_for_more : (items : List Item) (n : ℕ) (item : Item) → slice_get items n ≡ Some item → extent (take (n + 1) items) ≡ extent (take n items) + width_of item
stands_for_more = one_more extent width_of refl (λ x xs. refl)

extent_more : (items : List Item) (m n : ℕ) → m ≤ n → extent (take m items) ≤ extent (take n items)
extent_more = grows extent width_of refl (λ x xs. refl)

wide_at : (items : List Item) (n : ℕ) (item : Item) → All IsWide items → slice_get items n ≡ Some item → IsWide item
wide_at [] n item wide there = absurd (cc)
wide_at (x ∷ items) zero item wide there = let same : x ≡ item = cc in subst IsWide same (All-head IsWide x items wide)
wide_at (x ∷ items) (suc n) item wide there = wide_at items n item (All-tail IsWide x items wide) there

-- wide items stand for different numbers of bytes
pub same_place : (items : List Item) → All IsWide items → (m n : ℕ) (x y : Item) → slice_get items m ≡ Some x → slice_get items n ≡ Some y →
    extent (take m items) ≡ extent (take n items) → m ≡ n
same_place items wide m n x y first second = alone extent width_of refl (λ x xs. refl) items m n x y first second (wide_at items m x wide first) (wide_at items n y wide second)

-- no item stands where none can
pub none_within : (items : List Item) (place : ℕ) (item : Item) (left bytes : ℕ) → slice_get items place ≡ Some item → left + extent (take place items) ≡ bytes → 0 < left → left < width_of item →
    (n : ℕ) (other : Item) → slice_get items n ≡ Some other → extent (take n items) ≡ bytes → ⊥
none_within items place item left bytes there sum some wide n other stands e =
    ⊎_elim
    (λ (l : place < n). absurd (omega (arith, extent_more items (place + 1) n (omega (arith, l)), stands_for_more items place item there, sum, wide, e)))
    (λ (l : n ≤ place). absurd (omega (arith, extent_more items n place l, sum, some, e)))
    (cases_lt place n)

pub none_at_end : (items : List Item) (place left bytes : ℕ) → length items ≤ place → left + extent (take place items) ≡ bytes → All IsWide items →
    (n : ℕ) (other : Item) → slice_get items n ≡ Some other → extent (take n items) ≡ bytes → ⊥
none_at_end items place left bytes ends sum wide n other stands e =
    let more = extent_more items (n + 1) place (omega (arith, slice_get_within items n other stands, ends)) in
    absurd (omega (arith, more, stands_for_more items n other stands, wide_at items n other wide stands, sum, e))

-- ---- after the pointer of a form

module _ (form : Form) (start : ℕ) (begins : start ≡ length form.before) where
  pub after_pointer : drop start (all_items form) ≡ form.after
  after_pointer = ap (λ k. drop k (all_items form)) begins ∙ drop_at form.before form.after (length form.before) refl

  pub whole_after : (to : ℕ) → to ≡ length (all_items form) → take (to - start) (drop start (all_items form)) ≡ form.after
  whole_after to ends = take_all (to - start) (drop start (all_items form)) (omega (arith, ends, length-drop start (all_items form))) ∙ after_pointer
