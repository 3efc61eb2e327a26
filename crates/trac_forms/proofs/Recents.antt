-- The first names of a table, which are recent: after one more is put among them.
use Rattle.std.proofs.Common.{◌≡◌, ℕ, ◌+◌, ◌<◌, ◌≤◌, Bool, cond, ltb, ◌||◌, List, length, get_or, min, max, swap, take, position, sym, ap, subst, ◌∙◌, arith, inl, inr, ◌⊎◌, ⊎_elim}
use Rattle.std.specs.Prelude.{None, Some}
use Rattle.std.specs.Cmp.Lexicographic.{slice_cmp, nat_list_cmp_total, nat_list_eq_equiv}
use Rattle.std.specs.FinSet as set
use Rattle.std.specs.List.{list_any, IsDistinct}
use Rattle.std.specs.List.Sorted.{IsPermutation}
use Rattle.std.specs.Map.{keys_of}
use Rattle.std.specs.Ordering.{nat_cmp, eq_by_cmp}
use Rattle.std.specs.Str.{bytes_eq}
use Rattle.std.proofs.lemmas.Bool.{cases_lt, lt-ltb}
use Rattle.std.proofs.lemmas.Bool.Decides.{nat_tests}
use Rattle.std.proofs.lemmas.List.Edits.{length-swap}
use Rattle.std.proofs.lemmas.List.Quantifiers.{position-Some}
use Rattle.std.proofs.lemmas.List.Sorted.{IsPermutation-swap}
use Rattle.std.proofs.lemmas.List.Sums.{position_or_len_is}
use Rattle.std.proofs.lemmas.Map.Entries.{length-keys_of}
use Rattle.std.proofs.lemmas.Map.Keys.{apart_from_distinct}
use Rattle.std.proofs.lemmas.Slice.Eq.{bytes_eq-Decides}
use Rattle.indexmap.proofs.MapLemmas.{distinct_permutation}
use Rattle.indexmap.proofs.ReorderLemmas.{exchange, get_or-swap, map-swap}
use Rattle.trac_rules.proofs.NamedForms.{only_equal_tie}
use Rattle.trac_forms.specs.Stored.{Names, Stored}
use Rattle.trac_forms.specs.Table.{IsParted, IsRecentAt, Kept, first_of, stored}
use Rattle.trac_forms.proofs.Entries.{any_among, any_with, swap-same}
use Rattle.trac_forms.proofs.Parted.{parted_swapped}
use Rattle.trac_forms.proofs.Tables.{Entries, stored_moved}

-- where a name stands, of which no other is equal
position_found : (ks : List (List ℕ)) (i : ℕ) (name : List ℕ) → IsDistinct bytes_eq ks → i < length ks → get_or ks i name ≡ name → position (bytes_eq name) ks ≡ Some i
position_found ks i name apart within is =
    let at =
    position_or_len_is (bytes_eq name) ks i name (omega (arith, within))
    (λ k below. nat_list_eq_equiv.symm name (get_or ks k name) ∙ ap (bytes_eq (get_or ks k name)) (sym is) ∙ apart_from_distinct bytes_eq ks k i name apart below within)
    (λ _. ap (bytes_eq name) is ∙ nat_list_eq_equiv.refl name) in
    ap (λ n. cond (ltb n (length ks)) (Some n) None) at ∙ ap (λ b. cond b (Some i) None) (lt-ltb i (length ks) within)

-- an entry that takes the place after the first names, where it is not one of them
module _ (es new : Entries) (n i place more : ℕ) (name : List ℕ) (mark : n ≤ length es) (found : position (bytes_eq name) (keys_of es) ≡ Some i) (apart : IsDistinct bytes_eq (keys_of es))
    (moved : new ≡ swap es i (min i n)) (place_is : place ≡ min i n) (more_is : more ≡ max n (place + 1)) where
  abbrev ks : List (List ℕ)
  ks = keys_of es

  inside : i < length ks
  inside = (position-Some (bytes_eq name) ks i name found).0

  is_there : get_or ks i name ≡ name
  is_there = sym ((bytes_eq-Decides name (get_or ks i name)).0 (position-Some (bytes_eq name) ks i name found).1)

  long : length ks ≡ length es
  long = length-keys_of es

  placed : ((i < n) × (place ≡ i) × (more ≡ n)) ⊎ ((n ≤ i) × (place ≡ n) × (more ≡ n + 1))
  placed = ⊎_elim
      (λ (below : i < n). let at : place ≡ i = omega (arith, place_is) in inl (below, at, omega (arith, more_is)))
      (λ (past : n ≤ i). let at : place ≡ n = omega (arith, place_is) in inr (past, at, omega (arith, more_is)))
      (cases_lt i n)

  pub place_within : place < more
  place_within = omega (arith, more_is)

  pub more_mark : n ≤ more
  more_mark = omega (arith, more_is)

  place_inside : place < length es
  place_inside = omega (arith, place_is, inside, long)

  is_swapped : new ≡ swap es i place
  is_swapped = moved ∙ ap (swap es i) (sym place_is)

  keys-new : keys_of new ≡ swap ks i place
  keys-new = ap keys_of is_swapped ∙ map-swap (λ e. e.0) es i place

  pub length-new : length new ≡ length es
  length-new = ap length is_swapped ∙ length-swap es i place

  pub more_inside : more ≤ length new
  more_inside = omega (arith, more_is, place_inside, mark, length-new)

  pub moves : IsPermutation es new
  moves = IsPermutation-swap es new i place (omega (arith, inside, long)) place_inside is_swapped

  pub apart_new : IsDistinct bytes_eq (keys_of new)
  apart_new =
      distinct_permutation nat_list_eq_equiv ks (keys_of new) (IsPermutation-swap ks (keys_of new) i place inside (omega (arith, place_inside, long)) keys-new) apart

  pub found_new : position (bytes_eq name) (keys_of new) ≡ Some place
  found_new =
      let there : exchange i place place ≡ i = grind (arith, nat_tests) in
      position_found (keys_of new) place name apart_new (omega (arith, place_inside, length-new, length-keys_of new))
      (ap (λ l. get_or l place name) keys-new ∙ get_or-swap ks i place name inside (omega (arith, place_inside, long)) place ∙ ap (λ j. get_or ks j name) there ∙ is_there)

  -- the tests that one of the first names passes
  any_first : (p : List ℕ → Bool) → list_any p (take more (keys_of new)) ≡ (p name || list_any p (take n ks))
  any_first p =
      ap (λ l. list_any p (take more l)) keys-new
      ∙ ⊎_elim
      (λ (c : (i < n) × (place ≡ i) × (more ≡ n)).
      (λ k. list_any p (take (c.2 k) (swap ks i (c.1 k)))) ∙ any_among p ks n i name (omega (arith, mark, long)) inside c.0)
      (λ (c : (n ≤ i) × (place ≡ n) × (more ≡ n + 1)).
      (λ k. list_any p (take (c.2 k) (swap ks i (c.1 k)))) ∙ any_with p ks n i name (omega (arith, mark, long)) inside c.0)
      placed
      ∙ ap (λ x. p x || list_any p (take n ks)) is_there

  first_with : first_of more new ≡ set.insert (first_of n es) name
  first_with =
      set.same_set nat_list_cmp_total only_equal_tie (first_of more new) (set.insert (first_of n es) name) (λ q.
      set.contains-from_list nat_list_cmp_total (take more (keys_of new)) q
      ∙ any_first (eq_by_cmp (slice_cmp nat_cmp) q)
      ∙ ap (λ b. eq_by_cmp (slice_cmp nat_cmp) q name || b) (sym (set.contains-from_list nat_list_cmp_total (take n ks) q))
      ∙ sym (set.contains-insert nat_list_cmp_total (first_of n es) name q))

  -- it is one of them then, and nothing else changes
  pub stored_recent : (bs : Kept) → stored new (record bs { first = more }) ≡ record (stored es bs) { recent = set.insert (first_of n es) name }
  stored_recent bs = stored_moved es new bs more apart moves ∙ ap (λ (names : Names). let t : Stored = record (stored es bs) { recent = names } in t) first_with

  pub parted_recent : (live : ℕ) → IsParted es live → live ≤ n → IsParted new live
  parted_recent live parted less = subst (λ entries. IsParted entries live) (sym is_swapped) (⊎_elim
      (λ (c : (i < n) × (place ≡ i) × (more ≡ n)). subst (λ entries. IsParted entries live) (sym (ap (swap es i) c.1 ∙ swap-same es i)) parted)
      (λ (c : (n ≤ i) × (place ≡ n) × (more ≡ n + 1)). parted_swapped es live parted i place (omega (arith, inside, long)) place_inside (omega (arith, less, c.0)) (omega (arith, less, c.1)))
      placed)

  pub recent_at : IsRecentAt name new more place
  recent_at = record { place = found_new; among = place_within; distinct = apart_new }
