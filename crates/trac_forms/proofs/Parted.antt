-- Tables of which the entries with a value come first.
use Rattle.std.proofs.Common.{◌≡◌, ℕ, zero, suc, ◌+◌, ◌-◌, ◌<◌, ◌≤◌, Bool, true, false, cond, ltb, eqb, List, [], ◌∷◌, ◌++◌, length, map, get_or, set, swap, take, position, refl, sym, ap, ◌∙◌, arith, is_some, filter, ⊎_elim}
use Rattle.std.specs.Prelude.{Option, None, Some}
use Rattle.std.specs.Map.{keys_of, values_of, set_value}
use Rattle.std.specs.List.{position_or_len}
use Rattle.std.proofs.lemmas.Bool.{cases_Bool, cond-true, cond-false, lt-ltb}
use Rattle.std.proofs.lemmas.Bool.Decides.{nat_tests}
use Rattle.std.proofs.lemmas.List.{get_or-set_same, get_or-set_other, get_or-take, get_or_past, length-set, length-take, length-append, take-map, map_push}
use Rattle.std.proofs.lemmas.List.Quantifiers.{position-Some}
use Rattle.std.proofs.lemmas.List.Folds.{position_or_len_push}
use Rattle.std.proofs.lemmas.Map.Entries.{length-keys_of, length-values_of}
use Rattle.indexmap.specs.IndexMap.{set_value_at}
use Rattle.indexmap.proofs.MapLemmas.{Missing-position}
use Rattle.indexmap.proofs.ReorderLemmas.{exchange, get_or-swap, map-swap}
use Rattle.trac_forms.specs.Table.{IsParted}

-- ---- values

module _ {X : Type 0} (vs : List (Option X)) (n : ℕ) (first : (k : ℕ) → is_some (get_or vs k None) ≡ ltb k n) where
  -- there are no fewer values
  values_within : n ≤ length vs
  values_within =
      let past : is_some (get_or vs (length vs) None) ≡ false = ap is_some (get_or_past vs (length vs) None (omega arith)) in
      let h = first (length vs) in
      grind (arith, nat_tests)

  module _ (i : ℕ) (w : Option X) (within : i < length vs) where
    -- after a write, where a value stands
    stands : (k : ℕ) → is_some (get_or (set vs i w) k None) ≡ cond (eqb k i) (is_some w) (ltb k n)
    stands k =
        ⊎_elim
        (λ (t : eqb k i ≡ true).
        let e : k ≡ i = grind (arith, nat_tests) in
        ap is_some (ap (λ j. get_or (set vs i w) j None) e ∙ get_or-set_same vs i w None within) ∙ sym (cond-true (eqb k i) (is_some w) (ltb k n) t))
        (λ (t : eqb k i ≡ false).
        ap is_some (get_or-set_other vs i k w None (λ e. absurd (grind (arith, nat_tests)))) ∙ first k ∙ sym (cond-false (eqb k i) (is_some w) (ltb k n) t))
        (cases_Bool (eqb k i))

    -- a value in the place of a value, or none in the place of none
    first_kept : is_some w ≡ is_some (get_or vs i None) → (k : ℕ) → is_some (get_or (set vs i w) k None) ≡ ltb k n
    first_kept same k =
        let s = stands k in
        let f = first i in
        grind (arith, nat_tests)

    -- after the exchange too
    swapped_stands : (j k : ℕ) → j < length vs → is_some (get_or (swap (set vs i w) i j) k None) ≡ cond (eqb (exchange i j k) i) (is_some w) (ltb (exchange i j k) n)
    swapped_stands j k below =
        ap is_some (get_or-swap (set vs i w) i j None (omega (arith, length-set vs i w)) (omega (arith, length-set vs i w)) k) ∙ stands (exchange i j k)

    -- a value in the place of none
    first_more : is_some w ≡ true → is_some (get_or vs i None) ≡ false → (k : ℕ) → is_some (get_or (swap (set vs i w) i n) k None) ≡ ltb k (n + 1)
    first_more full none k =
        let f : ltb i n ≡ false = sym (first i) ∙ none in
        let above : n ≤ i = grind (arith, nat_tests) in
        let s = swapped_stands n k (omega arith) in
        grind (arith, nat_tests)

    -- none in the place of a value
    first_fewer : is_some w ≡ false → is_some (get_or vs i None) ≡ true → (k : ℕ) → is_some (get_or (swap (set vs i w) i (n - 1)) k None) ≡ ltb k (n - 1)
    first_fewer none full k =
        let f : ltb i n ≡ true = sym (first i) ∙ full in
        let below : i < n = grind (arith, nat_tests) in
        let s = swapped_stands (n - 1) k (omega (arith, values_within)) in
        grind (arith, nat_tests)

-- ---- entries

module _ {K X : Type 0} where
  values-set_value_at : (es : List (K × X)) (i : ℕ) (w : X) → values_of (set_value_at es i w) ≡ set (values_of es) i w
  values-set_value_at [] i w = refl
  values-set_value_at (e ∷ es) zero w = refl
  values-set_value_at (e ∷ es) (suc i) w = ap (λ vs. e.1 ∷ vs) (values-set_value_at es i w)

  -- a write at the first place whose key passes
  at_first : (t : K → Bool) (es : List (K × X)) (i : ℕ) (w : X) (d : K) → i < length (keys_of es) → t (get_or (keys_of es) i d) ≡ true → ((k : ℕ) → k < i → t (get_or (keys_of es) k d) ≡ false) →
      set_value_at es i w ≡ set_value t es w
  at_first t [] i w d within here before = refl
  at_first t (e ∷ es) zero w d within here before = sym (cond-true (t e.0) ((e.0, w) ∷ es) (e ∷ set_value t es w) here)
  at_first t (e ∷ es) (suc i) w d within here before =
      ap (λ r. e ∷ r) (at_first t es i w d (omega arith) here (λ k below. before (suc k) (omega arith)))
      ∙ sym (cond-false (t e.0) ((e.0, w) ∷ es) (e ∷ set_value t es w) (before 0 (omega arith)))

  pub written_first : (t : K → Bool) (es : List (K × X)) (i : ℕ) (w : X) → position t (keys_of es) ≡ Some i → set_value_at es i w ≡ set_value t es w
  written_first t [] i w found = refl
  written_first t (e ∷ es) i w found =
      let p = position-Some t (keys_of (e ∷ es)) i e.0 found in
      at_first t (e ∷ es) i w e.0 p.0 p.1 p.2

  -- a new key has the last place
  pub new_last : (t : K → Bool) (es : List (K × X)) (k : K) (w : X) → position t (keys_of es) ≡ None → t k ≡ true → position t (keys_of (es ++ (k, w) ∷ [])) ≡ Some (length es)
  new_last t es k w none passes =
      let ks = keys_of es ++ k ∷ [] in
      let long = length-keys_of es in
      let absent = (Missing-position t es none).or_len in
      let put = position_or_len_push t (keys_of es) k in
      let at : position_or_len t ks ≡ length es = grind (arith, nat_tests) in
      ap (position t) (map_push (λ e. e.0) es (k, w))
      ∙ ap (λ n. cond (ltb n (length ks)) (Some n) None) at
      ∙ ap (λ b. cond b (Some (length es)) None) (lt-ltb (length es) (length ks) (omega (arith, long, length-append (keys_of es) (k ∷ []))))

module _ {K X : Type 0} (es : List (K × Option X)) (n : ℕ) (parted : IsParted es n) where
  -- there are no fewer entries
  pub parted_within : n ≤ length es
  parted_within = omega (arith, values_within (values_of es) n parted, length-values_of es)

  -- a value in the place of a value, or none in the place of none
  pub parted_kept : (i : ℕ) (w : Option X) → i < length es → is_some w ≡ is_some (get_or (values_of es) i None) → IsParted (set_value_at es i w) n
  parted_kept i w within same k =
      ap (λ (vs : List (Option X)). is_some (get_or vs k None)) (values-set_value_at es i w)
      ∙ first_kept (values_of es) n parted i w (omega (arith, length-values_of es)) same k

  swapped_values : (i j : ℕ) (w : Option X) → values_of (swap (set_value_at es i w) i j) ≡ swap (set (values_of es) i w) i j
  swapped_values i j w = map-swap (λ e. e.1) (set_value_at es i w) i j ∙ ap (λ (vs : List (Option X)). swap vs i j) (values-set_value_at es i w)

  -- a value in the place of none, then put after the others
  pub parted_more : (i : ℕ) (w : Option X) → i < length es → is_some w ≡ true → is_some (get_or (values_of es) i None) ≡ false → IsParted (swap (set_value_at es i w) i n) (n + 1)
  parted_more i w within full none k =
      ap (λ (vs : List (Option X)). is_some (get_or vs k None)) (swapped_values i n w)
      ∙ first_more (values_of es) n parted i w (omega (arith, length-values_of es)) full none k

  -- none in the place of a value, then exchanged with the last one
  pub parted_fewer : (i : ℕ) (w : Option X) → i < length es → is_some w ≡ false → is_some (get_or (values_of es) i None) ≡ true → IsParted (swap (set_value_at es i w) i (n - 1)) (n - 1)
  parted_fewer i w within none full k =
      ap (λ (vs : List (Option X)). is_some (get_or vs k None)) (swapped_values i (n - 1) w)
      ∙ first_fewer (values_of es) n parted i w (omega (arith, length-values_of es)) none full k

  -- where a value stands
  pub is_below : (i : ℕ) → is_some (get_or (values_of es) i None) ≡ true → i < n
  is_below i full = let f : ltb i n ≡ true = sym (parted i) ∙ full in grind (arith, nat_tests)

  pub is_past : (i : ℕ) → is_some (get_or (values_of es) i None) ≡ false → n ≤ i
  is_past i none = let f : ltb i n ≡ false = sym (parted i) ∙ none in grind (arith, nat_tests)

  -- one more entry, without a value
  pub parted_push : (k : K) → IsParted (es ++ (k, None) ∷ []) n
  parted_push key k =
      ap (λ (vs : List (Option X)). is_some (get_or vs k None)) (map_push (λ e. e.1) es (key, None))
      ∙ ap is_some (pushed (values_of es) k)
      ∙ parted k
    where
      pushed : (vs : List (Option X)) (j : ℕ) → get_or (vs ++ None ∷ []) j None ≡ get_or vs j None
      pushed [] zero = refl
      pushed [] (suc j) = refl
      pushed (v ∷ vs) zero = refl
      pushed (v ∷ vs) (suc j) = pushed vs j

  -- the first ones alone, with all that have a value among them
  pub parted_front : (m : ℕ) → n ≤ m → IsParted (take m es) n
  parted_front m less k =
      ap (λ (vs : List (Option X)). is_some (get_or vs k None)) (sym (take-map (λ e. e.1) m es))
      ∙ ⊎_elim
      (λ (t : ltb k m ≡ true). ap is_some (get_or-take m (values_of es) k None (grind (arith, nat_tests))) ∙ parted k)
      (λ (t : ltb k m ≡ false).
      let past : m ≤ k = grind (arith, nat_tests) in
      let above : ltb k n ≡ false = grind (arith, nat_tests) in
      ap is_some (get_or_past (take m (values_of es)) k None (omega (arith, length-take m (values_of es)))) ∙ sym above)
      (cases_Bool (ltb k m))

  pub parted_cut : IsParted (take n es) n
  parted_cut = parted_front n (omega arith)

  -- two without a value change places
  pub parted_swapped : (i j : ℕ) → i < length es → j < length es → n ≤ i → n ≤ j → IsParted (swap es i j) n
  parted_swapped i j within below past above k =
      let there : is_some (get_or (values_of es) (exchange i j k) None) ≡ ltb (exchange i j k) n = parted (exchange i j k) in
      let same : ltb (exchange i j k) n ≡ ltb k n = grind (arith, nat_tests) in
      ap (λ (vs : List (Option X)). is_some (get_or vs k None)) (map-swap (λ e. e.1) es i j)
      ∙ ap is_some (get_or-swap (values_of es) i j None (omega (arith, length-values_of es)) (omega (arith, length-values_of es)) k)
      ∙ there
      ∙ same

below_none : (i : ℕ) → ltb i 0 ≡ false
below_none i = grind (arith, nat_tests)

below_rest : (i n : ℕ) → ltb (suc i) (suc n) ≡ ltb i n
below_rest i n = grind (arith, nat_tests)

none_more : (n : ℕ) → ltb 0 (suc n) ≡ true
none_more n = grind (arith, nat_tests)

-- the first ones are those with a value
pub parted_full : {K X : Type 0} (es : List (K × Option X)) (n : ℕ) → IsParted es n → filter (λ e. is_some e.1) es ≡ take n es
parted_full [] zero parted = refl
parted_full [] (suc n) parted = refl
parted_full (e ∷ es) zero parted =
    cond-false (is_some e.1) (e ∷ filter (λ x. is_some x.1) es) (filter (λ x. is_some x.1) es) (parted 0)
    ∙ parted_full es 0 (λ i. parted (suc i) ∙ below_none (suc i) ∙ sym (below_none i))
parted_full (e ∷ es) (suc n) parted =
    cond-true (is_some e.1) (e ∷ filter (λ x. is_some x.1) es) (filter (λ x. is_some x.1) es) (parted 0 ∙ none_more n)
    ∙ ap (λ r. e ∷ r) (parted_full es n (λ i. parted (suc i) ∙ below_rest i n))

-- there are as many as have a value
pub parted_count : {K X : Type 0} (es : List (K × Option X)) (n : ℕ) → IsParted es n → length (filter (λ e. is_some e.1) es) ≡ n
parted_count es n parted = ap length (parted_full es n parted) ∙ omega (arith, length-take n es, parted_within es n parted)

-- entries whose values are taken away
pub parted_none : {K X : Type 0} (es : List (K × Option X)) (new : List (K × Option X)) → new ≡ map (λ e. (e.0, None)) es → IsParted new 0
parted_none {K} {X} es new same i = ap (λ (xs : List (K × Option X)). is_some (get_or (values_of xs) i None)) same ∙ none es i ∙ sym (below_none i)
  where
    none : (xs : List (K × Option X)) (j : ℕ) → is_some (get_or (values_of (map (λ e. let r : K × Option X = (e.0, None) in r) xs)) j None) ≡ false
    none [] j = refl
    none (x ∷ xs) zero = refl
    none (x ∷ xs) (suc j) = none xs j
