-- Names in order, each once.
use Rattle.std.proofs.Common.{◌≡◌, ℕ, suc, ◌<◌, ◌≤◌, true, false, ◌&&◌, List, [], ◌∷◌, length, get_or, map, refl, sym, ap, subst, ◌∙◌, arith, is_some, filter}
use Rattle.std.specs.Prelude.{Option, None, Some, T}
use Rattle.std.specs.Cmp.Lexicographic.{slice_cmp, nat_list_cmp_total, nat_list_eq_equiv}
use Rattle.std.specs.FinMap as finite
use Rattle.std.specs.FinMap.Entries.{find, is_sorted, below_all, is_some-find, same_entries}
use Rattle.std.specs.List.{list_any, IsDistinct, AllByRecursion}
use Rattle.std.specs.List.Sorted.{IsPermutation, IsSorted}
use Rattle.std.specs.Borrow.{Bor}
use Rattle.std.specs.Map.{keys_of}
use Rattle.std.specs.Ordering.{nat_cmp, eq_by_cmp, is_eq, is_lt, ordering_reverse}
use Rattle.std.specs.declared.cmp.Ordering.{Ordering}
use Rattle.std.specs.declared.cmp.Ordering.TheVariants.{Less, Equal, Greater}
use Rattle.std.specs.Str.{bytes_eq}
use Rattle.std.proofs.lemmas.Bool.{false≢true, true≢false, and_from}
use Rattle.std.proofs.lemmas.List.{get_or-map, length-map}
use Rattle.std.proofs.lemmas.List.Sorted.{list_any-IsPermutation, ranks_by, sorted_far}
use Rattle.std.proofs.lemmas.Map.Keys.{IsDistinct-head, IsDistinct-tail, IsDistinct-IsPermutation}
use Rattle.std.proofs.lemmas.Map.Made.{is_some-lookup, IsDistinct-keys_filter}
use Rattle.std.proofs.lemmas.Map.Text.{is_eq-slice_cmp}
use Rattle.trac_rules.proofs.NamedForms.{only_equal_tie}
use Rattle.trac_rules.specs.Listing.{names_of}
use Rattle.trac_forms.specs.Table.{full_keys, forms_of}
use Rattle.trac_forms.proofs.Tables.{Entries, list_any_alike, lookup_swept}

-- no name is below an earlier one
abbrev pub NeverFall : List (List ℕ) → Type 0
NeverFall ns = (i j : ℕ) (d : List ℕ) → i ≤ j → j < length ns → is_lt (slice_cmp nat_cmp (get_or ns j d) (get_or ns i d)) ≡ false

-- each name with nothing beside it
abbrev alone : List (List ℕ) → List (List ℕ × Unit {0})
alone ns = map (λ n. (n, tt)) ns

keys-alone : (ns : List (List ℕ)) → keys_of (alone ns) ≡ ns
keys-alone [] = refl
keys-alone (n ∷ ns) = ap (λ r. n ∷ r) (keys-alone ns)

-- of two names that differ, the one that is not above is below
below : (x y : List ℕ) (o : Ordering) → slice_cmp nat_cmp x y ≡ o → is_lt (slice_cmp nat_cmp y x) ≡ false → bytes_eq x y ≡ false → is_lt o ≡ true
below x y Less e up apart = refl
below x y Equal e up apart = absurd (false≢true (sym apart ∙ sym (is_eq-slice_cmp x y) ∙ ap is_eq e))
below x y Greater e up apart = absurd (false≢true (sym up ∙ ap is_lt (nat_list_cmp_total.antisymm y x ∙ ap ordering_reverse e)))

below_rest : (x : List ℕ) (ns : List (List ℕ)) → ((j : ℕ) (d : List ℕ) → j < length ns → is_lt (slice_cmp nat_cmp (get_or ns j d) x) ≡ false) → AllByRecursion (λ y. bytes_eq x y ≡ false) ns →
    below_all (slice_cmp nat_cmp) x (alone ns) ≡ true
below_rest x [] up apart = refl
below_rest x (n ∷ ns) up apart =
    and_from (is_lt (slice_cmp nat_cmp x n)) (below_all (slice_cmp nat_cmp) x (alone ns)) (below x n (slice_cmp nat_cmp x n) refl (up 0 [] (omega arith)) apart.0)
    (below_rest x ns (λ j d l. up (suc j) d (omega arith)) apart.1)

-- names that never fall and differ rise
rises : (ns : List (List ℕ)) → NeverFall ns → IsDistinct bytes_eq ns → is_sorted (slice_cmp nat_cmp) (alone ns) ≡ true
rises [] up apart = refl
rises (n ∷ ns) up apart =
    and_from (below_all (slice_cmp nat_cmp) n (alone ns)) (is_sorted (slice_cmp nat_cmp) (alone ns))
    (below_rest n ns (λ j d l. up 0 (suc j) d (omega arith) (omega arith)) (IsDistinct-head bytes_eq n ns apart))
    (rises ns (λ i j d l m. up (suc i) (suc j) d (omega arith) (omega arith)) (IsDistinct-tail bytes_eq n ns apart))

-- the order of entries is that of their keys
below_all-alone : {X : Type 0} (x : List ℕ) (es : List (List ℕ × X)) → below_all (slice_cmp nat_cmp) x (alone (keys_of es)) ≡ below_all (slice_cmp nat_cmp) x es
below_all-alone x [] = refl
below_all-alone x (e ∷ es) = ap (λ b. is_lt (slice_cmp nat_cmp x e.0) && b) (below_all-alone x es)

is_sorted-alone : {X : Type 0} (es : List (List ℕ × X)) → is_sorted (slice_cmp nat_cmp) (alone (keys_of es)) ≡ is_sorted (slice_cmp nat_cmp) es
is_sorted-alone [] = refl
is_sorted-alone (e ∷ es) = ap (λ b. b && is_sorted (slice_cmp nat_cmp) (alone (keys_of es))) (below_all-alone e.0 es) ∙ ap (λ b. below_all (slice_cmp nat_cmp) e.0 es && b) (is_sorted-alone es)

-- where both or neither finds something, both find the same nothing
same_found : (x y : Option (Unit {0})) → is_some x ≡ is_some y → x ≡ y
same_found None None e = refl
same_found (Some u) (Some v) e = refl
same_found None (Some v) e = absurd (false≢true e)
same_found (Some u) None e = absurd (true≢false e)

-- two lists of names that rise and have the same members are one
same_names : (ms ns : List (List ℕ)) → T (is_sorted (slice_cmp nat_cmp) (alone ms)) → T (is_sorted (slice_cmp nat_cmp) (alone ns)) →
    ((q : List ℕ) → list_any (eq_by_cmp (slice_cmp nat_cmp) q) ms ≡ list_any (eq_by_cmp (slice_cmp nat_cmp) q) ns) → ms ≡ ns
same_names ms ns g h same =
    sym (keys-alone ms)
    ∙ ap keys_of (same_entries (slice_cmp nat_cmp) nat_list_cmp_total only_equal_tie (alone ms) (alone ns) g h (λ q.
    same_found (find (slice_cmp nat_cmp) q (alone ms)) (find (slice_cmp nat_cmp) q (alone ns))
    (is_some-find (slice_cmp nat_cmp) q (alone ms)
    ∙ ap (list_any (eq_by_cmp (slice_cmp nat_cmp) q)) (keys-alone ms)
    ∙ same q
    ∙ ap (list_any (eq_by_cmp (slice_cmp nat_cmp) q)) (sym (keys-alone ns))
    ∙ sym (is_some-find (slice_cmp nat_cmp) q (alone ns)))))
    ∙ keys-alone ns

-- the names of the entries with a form, once they never fall, are the names of the forms
pub names_sorted : (es : Entries) (ms : List (List ℕ)) → IsDistinct bytes_eq (keys_of es) → IsPermutation (full_keys es) ms → NeverFall ms → ms ≡ names_of (forms_of es)
names_sorted es ms apart moved up =
    same_names ms (names_of (forms_of es))
    (subst T (sym (rises ms up (IsDistinct-IsPermutation bytes_eq nat_list_eq_equiv.symm (full_keys es) ms moved (IsDistinct-keys_filter bytes_eq (λ e. is_some e.1) es apart)))) tt)
    (subst T (sym (is_sorted-alone (finite.entries (forms_of es)))) (finite.entries_sorted (forms_of es)))
    (λ q.
    sym (list_any-IsPermutation (eq_by_cmp (slice_cmp nat_cmp) q) (full_keys es) ms moved)
    ∙ list_any_alike (eq_by_cmp (slice_cmp nat_cmp) q) (bytes_eq q) (is_eq-slice_cmp q) (full_keys es)
    ∙ sym (is_some-lookup (bytes_eq q) (filter (λ e. is_some e.1) es))
    ∙ lookup_swept es q apart
    ∙ finite.contains_key-keys (forms_of es) q)

-- what a sort of borrowed names gives
pub never_fall_sorted : (bs : List (Bor (List ℕ))) → IsSorted (λ x y. slice_cmp nat_cmp x.now y.now) bs → NeverFall (map (λ n. n.now) bs)
never_fall_sorted bs up = λ i j d l m.
    let b : Bor (List ℕ) = record { ref_ptr = (0, 0); now = d } in
    let within : j < length bs = omega (arith, m, length-map bs (λ (n : Bor (List ℕ)). n.now)) in
    ap (λ t. is_lt (slice_cmp nat_cmp t (get_or (map (λ (n : Bor (List ℕ)). n.now) bs) i d))) (get_or-map (λ (n : Bor (List ℕ)). n.now) bs j b d within)
    ∙ ap (λ t. is_lt (slice_cmp nat_cmp (get_or bs j b).now t)) (get_or-map (λ (n : Bor (List ℕ)). n.now) bs i b d (omega arith))
    ∙ sorted_far (λ (x y : Bor (List ℕ)). is_lt (slice_cmp nat_cmp x.now y.now)) (ranks_by nat_list_cmp_total (λ (n : Bor (List ℕ)). n.now)) bs up i j b l within
