-- A segment, and runs of bytes over two lists.
use Rattle.std.proofs.Common.{◌≡◌, ℕ, zero, suc, ◌+◌, ◌-◌, ◌<◌, ◌≤◌, true, false, List, [], ◌∷◌, ◌++◌, length, take, drop, get_or, min, not, refl, sym, ap, subst, ◌∙◌, arith, ⊎_elim}
use Rattle.std.specs.List.{position, position_or_len}
use Rattle.std.proofs.lemmas.Bool.Decides.{nat_tests}
use Rattle.std.proofs.lemmas.Bool.{cases_lt, false≢true}
use Rattle.std.proofs.lemmas.List.{append_assoc, append-nil, drop-append-le, drop-drop, drop-take, drop_more, length-append, length-drop, length-take, length-take-le, take-append-drop, take-take, take_more}
use Rattle.std.proofs.lemmas.List.Folds.{prefix_len-append}
use Rattle.std.proofs.lemmas.List.Sums.{fails_before_first, passes_at_first, prefix_len-le-length}
use Rattle.std.proofs.Math.Seq.{drop-append-add, take-add}
use Rattle.trac_rules.specs.declared.item.Item.{Item}
use Rattle.trac_rules.specs.declared.item.Item.TheVariants.{Byte, Gap}
use Rattle.trac_rules.specs.Cuts.{begins_with_gap}
use Rattle.trac_rules.specs.Pieces.{bytes_in, is_gap, segment_items}
use Rattle.trac_rules.specs.Weights.{gap_count}
use Rattle.trac_rules.proofs.Items.{bytes_in-append}
use Rattle.trac_items.proofs.ByteRuns.{plain_count}
use Rattle.trac_forms.proofs.Passing.{count, count-append, count_falls, count_gap, count_grows, count_next, count_within_length, segment_to_gap, segment_whole}
use Rattle.trac_items.proofs.Runs.{run_is}

-- ---- a segment: the run with the gap that ends it, where there is one

module _ (items : List Item) (run : ℕ) (within : run ≤ length items) (bytes : gap_count (take run items) ≡ 0) (gap : run < length items → begins_with_gap (drop run items) ≡ true) where
  place : run ≡ position_or_len is_gap items
  place = run_is items run within bytes gap

  plain : (k : ℕ) → k < run → is_gap (get_or items k (Byte 0)) ≡ false
  plain k l = fails_before_first is_gap items k (Byte 0) (omega (arith, l, place))

  pub run_count : run ≡ count (take run items)
  run_count = omega (arith, plain_count (take run items) bytes, length-take-le run items within)

  module _ (l : run < length items) where
    here : is_gap (get_or items run (Byte 0)) ≡ true
    here = ap (λ k. is_gap (get_or items k (Byte 0))) place ∙ passes_at_first is_gap items (Byte 0) (omega (arith, l, place))

    pub segment_ended : run + 1 ≡ segment_items (position is_gap items) items
    segment_ended = segment_to_gap items run (Byte 0) l plain here

    pub ended_count : run ≡ count (take (run + 1) items)
    ended_count = omega (arith, count_next items run (Byte 0) l, count_gap (get_or items run (Byte 0)) here, run_count)

  pub segment_all : length items ≤ run → run ≡ segment_items (position is_gap items) items
  segment_all m = omega (arith, m, within, segment_whole items (Byte 0) (λ k l. plain k (omega (arith, l, m))))

-- ---- two lists, one after the other

-- the items of both from one place on, up to another
taken_both : (xs ys : List Item) (to m n : ℕ) → m ≡ min to (length xs) → n ≡ to - length xs → take m xs ++ take n ys ≡ take to (xs ++ ys)
taken_both [] ys to zero n e f = ap (λ k. take k ys) (omega (arith, f))
taken_both [] ys to (suc m) n e f = absurd (omega (arith, e))
taken_both (x ∷ xs) ys zero zero zero e f = refl
taken_both (x ∷ xs) ys zero (suc m) n e f = absurd (omega (arith, e))
taken_both (x ∷ xs) ys zero zero (suc n) e f = absurd (omega (arith, f))
taken_both (x ∷ xs) ys (suc to) zero n e f = absurd (omega (arith, e))
taken_both (x ∷ xs) ys (suc to) (suc m) n e f = ap (λ (zs : List Item). x ∷ zs) (taken_both xs ys to m n (omega (arith, e)) (omega (arith, f)))

spanned : (xs ys : List Item) (from to m n : ℕ) → from ≤ length xs → m ≡ min to (length xs) - from → n ≡ to - length xs → from ≤ to →
    take m (drop from xs) ++ take n ys ≡ take (to - from) (drop from (xs ++ ys))
spanned xs ys from to m n within e f order =
    taken_both (drop from xs) ys (to - from) m n (omega (arith, e, order, length-drop from xs)) (omega (arith, f, order, within, length-drop from xs))
    ∙ ap (take (to - from)) (sym (drop-append-le from xs ys within))

-- a run that begins in the first list
module _ (xs ys : List Item) (from to m n run : ℕ) (within : from ≤ length xs) (e : m ≡ min to (length xs) - from) (f : n ≡ to - length xs) (order : from ≤ to)
    (is : run ≡ position_or_len is_gap (take m (drop from xs))) where
  joined : position_or_len is_gap (take m (drop from xs) ++ take n ys) ≡ position_or_len is_gap (take (to - from) (drop from (xs ++ ys)))
  joined = ap (position_or_len is_gap) (spanned xs ys from to m n within e f order)

  pub run_stops : run < length (take m (drop from xs)) → run ≡ position_or_len is_gap (take (to - from) (drop from (xs ++ ys)))
  run_stops l = grind (arith, nat_tests, is, l, prefix_len-append (λ item. not (is_gap item)) (take m (drop from xs)) (take n ys), joined)

  pub run_goes_on : (more : ℕ) → length (take m (drop from xs)) ≤ run → more ≡ position_or_len is_gap (take n ys) → run + more ≡ position_or_len is_gap (take (to - from) (drop from (xs ++ ys)))
  run_goes_on more l rest =
      let most = prefix_len-le-length (λ item. not (is_gap item)) (take m (drop from xs)) in
      grind (arith, nat_tests, prefix_len-append (λ item. not (is_gap item)) (take m (drop from xs)) (take n ys), joined)

-- a run that begins in the second
pub run_after : (xs ys : List Item) (from to : ℕ) → length xs ≤ from →
    position_or_len is_gap (take (to - length xs - (from - length xs)) (drop (from - length xs) ys)) ≡ position_or_len is_gap (take (to - from) (drop from (xs ++ ys)))
run_after xs ys from to after =
    ap (position_or_len is_gap)
    (ap (λ k. take k (drop (from - length xs) ys)) (let same : to - length xs - (from - length xs) ≡ to - from = omega (arith, after) in same)
    ∙ ap (take (to - from)) (sym (drop-append-add xs ys (from - length xs)) ∙ ap (λ k. drop k (xs ++ ys)) (let same : length xs + (from - length xs) ≡ from = omega (arith, after) in same)))

-- ---- a run among the items from a place on

-- of so many items of a list from a place on the first are bytes
module _ (items slice : List Item) (passed most run : ℕ) (is : slice ≡ take most (drop passed items)) (fits : passed + most ≤ length items) (within : run ≤ length slice) where
  slice_long : length slice ≡ most
  slice_long = omega (arith, ap length is, length-take-le most (drop passed items) (omega (arith, fits, length-drop passed items)))

  run_taken : take run (drop passed items) ≡ take run slice
  run_taken = sym (ap (take run) is ∙ take-take run most (drop passed items) (omega (arith, within, slice_long)))

  run_bytes : bytes_in (take (passed + run) items) ≡ bytes_in (take passed items) ++ bytes_in (take run slice)
  run_bytes = ap bytes_in (take-add passed run items ∙ ap (λ (xs : List Item). take passed items ++ xs) run_taken) ∙ bytes_in-append (take passed items) (take run slice)

  -- what was put so far, and these
  pub run_put : (old out new : List ℕ) → out ≡ old ++ bytes_in (take passed items) → new ≡ out ++ bytes_in (take run slice) → new ≡ old ++ bytes_in (take (passed + run) items)
  run_put old out new so put =
      put ∙ ap (λ (xs : List ℕ). xs ++ bytes_in (take run slice)) so ∙ append_assoc old (bytes_in (take passed items)) (bytes_in (take run slice))
      ∙ ap (λ (xs : List ℕ). old ++ xs) (sym run_bytes)

  module _ (bytes : gap_count (take run slice) ≡ 0) where
    pub run_passed : count (take (passed + run) items) ≡ count (take passed items) + run
    run_passed =
        omega (
          arith,
          ap length run_bytes,
          length-append (bytes_in (take passed items)) (bytes_in (take run slice)),
          plain_count (take run slice) bytes,
          length-take-le run slice within,
        )

    -- and fewer stand before each earlier place
    pub fewer_before : 0 < run → (k : ℕ) → k < passed + run → count (take k items) < count (take passed items) + run
    fewer_before some k l =
        ⊎_elim
        (λ (sooner : k < passed). omega (arith, some, count_grows items k passed (omega arith)))
        (λ (later : passed ≤ k).
        let same : k ≡ passed + (k - passed) = omega arith in
        omega (
          arith,
          ap (λ j. count (take j items)) same,
          ap count (take-add passed (k - passed) items),
          count-append (take passed items) (take (k - passed) (drop passed items)),
          count_within_length (take (k - passed) (drop passed items)),
          length-take (k - passed) (drop passed items),
          l,
        ))
        (cases_lt k passed)

  -- or the first is a gap
  module _ (none : run ≡ 0) (some : 0 < most) (gap : run < length slice → begins_with_gap (drop run slice) ≡ true) where
    first_is : (item : Item) (rest : List Item) (n : ℕ) → 0 < n → begins_with_gap (take n (item ∷ rest)) ≡ true → is_gap item ≡ true
    first_is item rest zero l h = absurd (omega (arith, l))
    first_is (Byte b) rest (suc n) l h = absurd (false≢true h)
    first_is (Gap k w) rest (suc n) l h = refl

    gap_first : is_gap (get_or items passed (Byte 0)) ≡ true
    gap_first =
        let first : drop run slice ≡ slice = ap (λ k. drop k slice) none in
        let more : drop passed items ≡ get_or items passed (Byte 0) ∷ drop (passed + 1) items = drop_more items passed (Byte 0) (omega (arith, fits, some)) in
        first_is (get_or items passed (Byte 0)) (drop (passed + 1) items) most some
        (ap begins_with_gap (ap (take most) (sym more) ∙ sym is ∙ sym first) ∙ gap (omega (arith, none, some, slice_long)))

    no_bytes : (item : Item) → is_gap item ≡ true → bytes_in (item ∷ []) ≡ []
    no_bytes (Byte b) h = absurd (false≢true h)
    no_bytes (Gap k w) h = refl

    gap_bytes : bytes_in (take (passed + 1) items) ≡ bytes_in (take passed items)
    gap_bytes =
        ap bytes_in (take_more items passed (Byte 0) (omega (arith, fits, some))) ∙ bytes_in-append (take passed items) (get_or items passed (Byte 0) ∷ [])
        ∙ ap (λ (xs : List ℕ). bytes_in (take passed items) ++ xs) (no_bytes (get_or items passed (Byte 0)) gap_first) ∙ append-nil (bytes_in (take passed items))

    pub gap_put : (old out new : List ℕ) → out ≡ old ++ bytes_in (take passed items) → new ≡ out ++ bytes_in (take run slice) → new ≡ old ++ bytes_in (take (passed + 1) items)
    gap_put old out new so put = put ∙ ap (λ k. out ++ bytes_in (take k slice)) none ∙ append-nil out ∙ so ∙ ap (λ (xs : List ℕ). old ++ xs) (sym gap_bytes)

    pub gap_passed : count (take (passed + 1) items) ≡ count (take passed items)
    gap_passed = ap length gap_bytes

-- ---- a run among the items before a place

-- of so many items of a list before a place the last are bytes
module _ (items slice : List Item) (place most run : ℕ) (is : slice ≡ take most (drop (place - most) items)) (fits : (most ≤ place) × (place ≤ length items)) (within : run ≤ length slice) where
  slice_behind : length slice ≡ most
  slice_behind = omega (arith, ap length is, length-take-le most (drop (place - most) items) (omega (arith, fits.0, fits.1, length-drop (place - most) items)))

  -- the last of them
  last_taken : (n : ℕ) → n ≤ most → drop (length slice - n) slice ≡ take n (drop (place - n) items)
  last_taken n less =
      let front : length slice - n ≡ most - n = omega (arith, slice_behind) in
      let whole : most - n + n ≡ most = omega (arith, less) in
      let there : place - most + (most - n) ≡ place - n = omega (arith, less, fits.0) in
      ap (λ k. drop k slice) front
      ∙ ap (drop (most - n)) (is ∙ ap (λ k. take k (drop (place - most) items)) (sym whole))
      ∙ drop-take (most - n) n (drop (place - most) items)
      ∙ ap (take n) (drop-drop (most - n) (place - most) items ∙ ap (λ k. drop k items) there)

  -- the bytes after a place so many items before
  behind : (n : ℕ) → n ≤ place → count (drop (place - n) items) ≡ count (take n (drop (place - n) items)) + count (drop place items)
  behind n less =
      let there : place - n + n ≡ place = omega (arith, less) in
      ap count (sym (take-append-drop n (drop (place - n) items))) ∙ count-append (take n (drop (place - n) items)) (drop n (drop (place - n) items))
      ∙ ap (λ (xs : List Item). count (take n (drop (place - n) items)) + count xs) (drop-drop n (place - n) items ∙ ap (λ k. drop k items) there)

  module _ (bytes : gap_count (drop (length slice - run) slice) ≡ 0) where
    pub run_behind : count (drop (place - run) items) ≡ count (drop place items) + run
    run_behind =
        omega (
          arith,
          behind run (omega (arith, within, slice_behind, fits.0)),
          ap count (last_taken run (omega (arith, within, slice_behind))),
          plain_count (drop (length slice - run) slice) bytes,
          length-drop (length slice - run) slice,
          within,
        )

    -- and fewer stand after each later place
    pub fewer_behind : 0 < run → (k : ℕ) → place - run < k → k ≤ length items → count (drop k items) < count (drop place items) + run
    fewer_behind some k l m =
        ⊎_elim
        (λ (sooner : k < place).
        let same : place - (place - k) ≡ k = omega arith in
        omega (
          arith,
          ap (λ j. count (drop j items)) same,
          behind (place - k) (omega arith),
          count_within_length (take (place - k) (drop (place - (place - k)) items)),
          length-take (place - k) (drop (place - (place - k)) items),
          l,
          sooner,
        ))
        (λ (later : place ≤ k). omega (arith, some, count_falls items place k later))
        (cases_lt k place)

  -- or the last is a gap
  module _ (none : run ≡ 0) (some : 0 < most) (gap : run < length slice → 0 < gap_count (drop (length slice - run - 1) slice)) where
    gap_alone : (xs : List Item) → 0 < gap_count (take 1 xs) → count (take 1 xs) ≡ 0
    gap_alone [] h = refl
    gap_alone (Byte b ∷ xs) h = absurd (omega (arith, h))
    gap_alone (Gap k w ∷ xs) h = refl

    pub gap_behind : count (drop (place - 1) items) ≡ count (drop place items)
    gap_behind =
        let last : length slice - run - 1 ≡ length slice - 1 = omega (arith, none) in
        let there : 0 < gap_count (take 1 (drop (place - 1) items)) =
        subst (λ (xs : List Item). 0 < gap_count xs) (ap (λ k. drop k slice) last ∙ last_taken 1 (omega (arith, some))) (gap (omega (arith, none, some, slice_behind))) in
        omega (arith, behind 1 (omega (arith, some, fits.0)), gap_alone (drop (place - 1) items) there)
