-- Entries of a table, and the forms and names that they stand for.
use Rattle.std.proofs.Common.{◌≡◌, ℕ, zero, suc, ◌+◌, ◌-◌, ◌<◌, ◌≤◌, get_or, take, Bool, true, false, cond, ◌||◌, List, [], ◌∷◌, ◌++◌, length, map, position, refl, sym, ap, subst, ◌∙◌, arith, ⊎_elim, is_some, filter, IsSome}
use Rattle.std.specs.Prelude.{Option, None, Some, option_map, slice_get}
use Rattle.std.specs.Cmp.Lexicographic.{slice_cmp, nat_list_cmp_total, nat_list_eq_equiv}
use Rattle.std.specs.FinMap as finite
use Rattle.std.specs.FinSet as set
use Rattle.std.specs.List.{list_any, IsDistinct, AllByRecursion}
use Rattle.std.specs.List.Sorted.{IsPermutation}
use Rattle.std.specs.Map.Calls.{RetainsPairs}
use Rattle.std.specs.Map.{keys_of, lookup, set_value, values_of}
use Rattle.std.specs.Option.{option_flatten}
use Rattle.std.specs.Ordering.{nat_cmp, eq_by_cmp}
use Rattle.std.specs.Str.{bytes_eq}
use Rattle.std.proofs.lemmas.Bool.{cases_Bool, cond-true, cond-false}
use Rattle.std.proofs.lemmas.List.Sorted.{IsPermutation-refl, IsPermutation-sym}
use Rattle.std.proofs.lemmas.Map.{lookup-set_value, keys-set_value}
use Rattle.std.proofs.lemmas.Map.Entries.{lookup-filter-values, option_filter}
use Rattle.std.proofs.lemmas.Map.Keys.{IsDistinct-head, IsDistinct-tail}
use Rattle.std.proofs.lemmas.Map.Made.{is_some-lookup}
use Rattle.std.proofs.lemmas.Map.Text.{is_eq-slice_cmp}
use Rattle.std.proofs.lemmas.Slice.Eq.{bytes_eq-Decides}
use Rattle.indexmap.specs.IndexMap.{set_value_at}
use Rattle.indexmap.specs.Layout.{length-set_value_at}
use Rattle.indexmap.proofs.MapLemmas.{distinct-take, lookup_permutation, some_index}
use Rattle.trac_rules.specs.Form.{Form}
use Rattle.trac_rules.proofs.NamedForms.{only_equal_tie, ties_itself}
use Rattle.trac_rules.specs.Listing.{names_of}
use Rattle.trac_rules.specs.State.{Forms}
use Rattle.trac_forms.specs.Stored.{KnowsAll, Names, Stored, changed_at, changing, swept, swept_aged}
use Rattle.trac_forms.specs.Table.{IsInOrder, IsParted, Kept, with_entry, first_of, forms_of, known_of, stored}
use Rattle.trac_forms.proofs.Parted.{parted_front, parted_full, parted_kept, written_first}
use Rattle.std.proofs.lemmas.List.{map_push, take-append-le, take-map}
use Rattle.std.proofs.lemmas.List.Sorted.{list_any-IsPermutation}
use Rattle.std.proofs.lemmas.Map.Entries.{length-keys_of}
use Rattle.trac_forms.proofs.Entries.{take-take-le}

-- entries of a table of forms
abbrev pub Entries : Type 0
Entries = List (List ℕ × Option Form)

-- ---- look-ups

-- what is not there is none
pub none_of_false : {X : Type 0} (o : Option X) → is_some o ≡ false → o ≡ None
none_of_false None h = refl
none_of_false (Some x) h = absurd (cc)

-- tests that answer alike pass alike
pub list_any_alike : {K : Type 0} (p q : K → Bool) → ((k : K) → p k ≡ q k) → (ks : List K) → list_any p ks ≡ list_any q ks
list_any_alike p q same [] = refl
list_any_alike p q same (k ∷ ks) = ap (λ b. b || list_any p ks) (same k) ∙ ap (λ b. q k || b) (list_any_alike p q same ks)

-- ---- forms and names of entries

flatten_cond : {X : Type 0} (b : Bool) (x y : Option (Option X)) → option_flatten (cond b x y) ≡ cond b (option_flatten x) (option_flatten y)
flatten_cond true x y = refl
flatten_cond false x y = refl

get-with_entry : (name q : List ℕ) (form : Option Form) (forms : Forms) → finite.get (with_entry name form forms) q ≡ cond (bytes_eq q name) form (finite.get forms q)
get-with_entry name q None forms =
    finite.get-remove nat_list_cmp_total forms name q ∙ ap (λ b. cond b None (finite.get forms q)) (is_eq-slice_cmp q name)
get-with_entry name q (Some form) forms =
    finite.get-insert nat_list_cmp_total forms name form q ∙ ap (λ b. cond b (Some form) (finite.get forms q)) (is_eq-slice_cmp q name)

-- the form of a name is that of its first entry
get-forms_of : (es : Entries) (q : List ℕ) → finite.get (forms_of es) q ≡ option_flatten (lookup (bytes_eq q) es)
get-forms_of [] q = finite.get-empty (slice_cmp nat_cmp) q
get-forms_of (e ∷ es) q =
    get-with_entry e.0 q e.1 (forms_of es)
    ∙ ap (cond (bytes_eq q e.0) e.1) (get-forms_of es q)
    ∙ sym (flatten_cond (bytes_eq q e.0) (Some e.1) (lookup (bytes_eq q) es))

-- a name is known where it has an entry
pub contains-known_of : (es : Entries) (q : List ℕ) → set.contains (known_of es) q ≡ is_some (lookup (bytes_eq q) es)
contains-known_of es q =
    set.contains-from_list nat_list_cmp_total (keys_of es) q
    ∙ list_any_alike (eq_by_cmp (slice_cmp nat_cmp) q) (bytes_eq q) (is_eq-slice_cmp q) (keys_of es)
    ∙ sym (is_some-lookup (bytes_eq q) es)

-- the name of each form is known
pub form_known : (es : Entries) (bs : Kept) (s : Stored) → stored es bs ≡ s → KnowsAll s.known s.forms
form_known es bs s view q there =
    let here : is_some (finite.get (forms_of es) q) ≡ true = subst (λ t. is_some (finite.get t.forms q) ≡ true) (sym view) there in
    subst (λ t. set.contains t.known q ≡ true) view
    (contains-known_of es q ∙ some_inside (lookup (bytes_eq q) es) (ap is_some (sym (get-forms_of es q)) ∙ here))
  where
    some_inside : (o : Option (Option Form)) → is_some (option_flatten o) ≡ true → is_some o ≡ true
    some_inside None h = h
    some_inside (Some x) h = refl

-- two tables in which each name has the same form
forms_alike : (es fs : Entries) → ((q : List ℕ) → option_flatten (lookup (bytes_eq q) es) ≡ option_flatten (lookup (bytes_eq q) fs)) → forms_of es ≡ forms_of fs
forms_alike es fs same = finite.same_map nat_list_cmp_total only_equal_tie (forms_of es) (forms_of fs) (λ q. get-forms_of es q ∙ same q ∙ sym (get-forms_of fs q))

-- two tables in which the same names have entries
known_alike : (es fs : Entries) → ((q : List ℕ) → is_some (lookup (bytes_eq q) es) ≡ is_some (lookup (bytes_eq q) fs)) → known_of es ≡ known_of fs
known_alike es fs same = set.same_set nat_list_cmp_total only_equal_tie (known_of es) (known_of fs) (λ q. contains-known_of es q ∙ same q ∙ sym (contains-known_of fs q))

-- the first names, where they are the same in some order, or where the keys are the same
pub first_moved : (n : ℕ) (es fs : Entries) → IsPermutation (take n (keys_of es)) (take n (keys_of fs)) → first_of n fs ≡ first_of n es
first_moved n es fs moves =
    set.same_set nat_list_cmp_total only_equal_tie (first_of n fs) (first_of n es) (λ q.
    set.contains-from_list nat_list_cmp_total (take n (keys_of fs)) q
    ∙ sym (list_any-IsPermutation (eq_by_cmp (slice_cmp nat_cmp) q) (take n (keys_of es)) (take n (keys_of fs)) moves)
    ∙ sym (set.contains-from_list nat_list_cmp_total (take n (keys_of es)) q))

pub first_same : (n : ℕ) (es fs : Entries) → keys_of fs ≡ keys_of es → first_of n fs ≡ first_of n es
first_same n es fs same = ap (λ (ks : List (List ℕ)). let s : Names = set.from_list (take n ks) in s) same

-- the order of the entries is of no account, but for the first names
pub stored_moved : (es fs : Entries) (bs : Kept) (n : ℕ) → IsDistinct bytes_eq (keys_of es) → IsPermutation es fs →
    stored fs (record bs { first = n }) ≡ record (stored es bs) { recent = first_of n fs }
stored_moved es fs bs n apart moves =
    let same = λ (q : List ℕ). lookup_permutation nat_list_eq_equiv fs es (IsPermutation-sym es fs moves) apart (bytes_eq q) (nat_list_eq_equiv.congr q) in
    ap (λ (f : Forms). let t : Stored = record { forms = f; blocks = bs.blocks; spare = bs.spare; known = known_of fs; recent = first_of n fs } in t) (forms_alike fs es (λ q. ap option_flatten (sym (same q))))
    ∙ ap (λ (k : Names). let t : Stored = record { forms = forms_of es; blocks = bs.blocks; spare = bs.spare; known = k; recent = first_of n fs } in t) (known_alike fs es (λ q. ap is_some (sym (same q))))

-- ---- what the calls do

-- what is written at a name that has an entry
pub lookup_written : (es : Entries) (name q : List ℕ) (w : Option Form) → IsSome (lookup (bytes_eq name) es) →
    lookup (bytes_eq q) (set_value (bytes_eq name) es w) ≡ cond (bytes_eq q name) (Some w) (lookup (bytes_eq q) es)
lookup_written es name q w some =
    lookup-set_value nat_list_eq_equiv (bytes_eq name) (λ x y t. nat_list_eq_equiv.congr name x y t) q w es some
    ∙ ap (λ b. cond b (Some w) (lookup (bytes_eq q) es)) (nat_list_eq_equiv.symm name q)

-- an entry's form is put, or taken
pub forms_written : (es : Entries) (name : List ℕ) (w : Option Form) → IsSome (lookup (bytes_eq name) es) → forms_of (set_value (bytes_eq name) es w) ≡ with_entry name w (forms_of es)
forms_written es name w some =
    finite.same_map nat_list_cmp_total only_equal_tie (forms_of (set_value (bytes_eq name) es w)) (with_entry name w (forms_of es)) (λ q.
    get-forms_of (set_value (bytes_eq name) es w) q
    ∙ ap option_flatten (lookup_written es name q w some)
    ∙ flatten_cond (bytes_eq q name) (Some w) (lookup (bytes_eq q) es)
    ∙ ap (cond (bytes_eq q name) w) (sym (get-forms_of es q))
    ∙ sym (get-with_entry name q w (forms_of es)))

-- and the names stay
pub known_written : (es : Entries) (name : List ℕ) (w : Option Form) → known_of (set_value (bytes_eq name) es w) ≡ known_of es
known_written es name w = ap (λ (ks : List (List ℕ)). let s : Names = set.from_list ks in s) (keys-set_value (bytes_eq name) es w)

-- a name without a form has none to be taken
pub nothing_taken : (forms : Forms) (name : List ℕ) → finite.get forms name ≡ None → finite.remove forms name ≡ forms
nothing_taken forms name none =
    finite.same_map nat_list_cmp_total only_equal_tie (finite.remove forms name) forms (λ q.
    get-with_entry name q None forms
    ∙ ⊎_elim
    (λ (t : bytes_eq q name ≡ true).
    let same : q ≡ name = (bytes_eq-Decides q name).0 t in
    cond-true (bytes_eq q name) None (finite.get forms q) t ∙ sym (ap (finite.get forms) same ∙ none))
    (λ (t : bytes_eq q name ≡ false). cond-false (bytes_eq q name) None (finite.get forms q) t)
    (cases_Bool (bytes_eq q name)))

-- a form changed in its entry is changed under its name
with_changed : (name : List ℕ) (change : Form → Form) (forms : Forms) → with_entry name (option_map change (finite.get forms name)) forms ≡ changed_at name change forms
with_changed name change forms = found (finite.get forms name) refl
  where
    found : (form : Option Form) → finite.get forms name ≡ form → with_entry name (option_map change form) forms ≡ changing name change form forms
    found None none = nothing_taken forms name none
    found (Some form) e = refl

-- a change of an entry's form, if it has one, leaves the entries with forms first
kept_parted : (es : Entries) (live : ℕ) → IsParted es live → (i : ℕ) (change : Form → Form) (new : Entries) → i < length es →
    new ≡ set_value_at es i (option_map change (option_flatten (slice_get (values_of es) i))) → IsParted new live
kept_parted es live parted i change new within written_there =
    subst (λ entries. IsParted entries live) (sym written_there) (parted_kept es live parted i (option_map change (option_flatten (slice_get (values_of es) i))) within (full_still (values_of es) i))
  where
    as_full : (found : Option Form) → is_some (option_map change found) ≡ is_some found
    as_full None = refl
    as_full (Some form) = refl

    full_still : (vs : List (Option Form)) (k : ℕ) → is_some (option_map change (option_flatten (slice_get vs k))) ≡ is_some (get_or vs k None)
    full_still [] k = refl
    full_still (v ∷ vs) zero = as_full v
    full_still (v ∷ vs) (suc k) = full_still vs k

pub kept_order : (es : Entries) (live recent : ℕ) → IsInOrder es live recent → (i : ℕ) (change : Form → Form) (new : Entries) → i < length es →
    new ≡ set_value_at es i (option_map change (option_flatten (slice_get (values_of es) i))) → IsInOrder new live recent
kept_order es live recent order i change new within written_there = record {
  parted = kept_parted es live order.parted i change new within written_there;
  forms_recent = order.forms_recent;
  within = omega (arith, order.within, ap length written_there, length-set_value_at es i (option_map change (option_flatten (slice_get (values_of es) i))));
}

-- a new name without a form leaves the forms
flatten-new : (es : Entries) (name q : List ℕ) → option_flatten (lookup (bytes_eq q) (es ++ (name, None) ∷ [])) ≡ option_flatten (lookup (bytes_eq q) es)
flatten-new [] name q = elim (bytes_eq q name) as (λ b. option_flatten {T = Form} (cond b (Some None) None) ≡ None) [ true ↦ refl | false ↦ refl ]
flatten-new (e ∷ es) name q =
    flatten_cond (bytes_eq q e.0) (Some e.1) (lookup (bytes_eq q) (es ++ (name, None) ∷ []))
    ∙ ap (cond (bytes_eq q e.0) e.1) (flatten-new es name q)
    ∙ sym (flatten_cond (bytes_eq q e.0) (Some e.1) (lookup (bytes_eq q) es))

pub forms_known : (es : Entries) (name : List ℕ) → forms_of (es ++ (name, None) ∷ []) ≡ forms_of es
forms_known es name = forms_alike (es ++ (name, None) ∷ []) es (flatten-new es name)

-- and is known from then on
pub known_more : (es : Entries) (name : List ℕ) → known_of (es ++ (name, None) ∷ []) ≡ set.insert (known_of es) name
known_more es name =
    ap (λ (ks : List (List ℕ)). let s : Names = set.from_list ks in s) (map_push (λ e. e.0) es (name, None))
    ∙ set.from_list_push nat_list_cmp_total only_equal_tie (keys_of es) name

-- a name that is known already
pub known_again : (s : Names) (name : List ℕ) → set.contains s name ≡ true → set.insert s name ≡ s
known_again s name there =
    set.same_set nat_list_cmp_total only_equal_tie (set.insert s name) s (λ q.
    set.contains-insert nat_list_cmp_total s name q
    ∙ ⊎_elim
    (λ (t : eq_by_cmp (slice_cmp nat_cmp) q name ≡ true).
    let same : q ≡ name = (bytes_eq-Decides q name).0 (sym (is_eq-slice_cmp q name) ∙ t) in
    ap (λ b. b || set.contains s q) t ∙ sym (ap (set.contains s) same ∙ there))
    (λ (t : eq_by_cmp (slice_cmp nat_cmp) q name ≡ false). ap (λ b. b || set.contains s q) t)
    (cases_Bool (eq_by_cmp (slice_cmp nat_cmp) q name)))

-- a new name, which has no form, after as many as are recent or more
pub added_known : (es : Entries) (bs : Kept) (q : List ℕ) → bs.first ≤ length es → stored (es ++ (q, None) ∷ []) bs ≡ record (stored es bs) { known = set.insert (known_of es) q }
added_known es bs q within =
    ap (λ (f : Forms). let t : Stored = record { forms = f; blocks = bs.blocks; spare = bs.spare; known = known_of (es ++ (q, None) ∷ []); recent = first_of bs.first (es ++ (q, None) ∷ []) } in t) (forms_known es q)
    ∙ ap (λ (n : Names). let t : Stored = record { forms = forms_of es; blocks = bs.blocks; spare = bs.spare; known = n; recent = first_of bs.first (es ++ (q, None) ∷ []) } in t) (known_more es q)
    ∙ ap (λ (ks : List (List ℕ)). let t : Stored = record { forms = forms_of es; blocks = bs.blocks; spare = bs.spare; known = set.insert (known_of es) q; recent = set.from_list ks } in t)
    (ap (take bs.first) (map_push (λ e. e.0) es (q, None)) ∙ take-append-le bs.first (keys_of es) (q ∷ []) (omega (arith, within, length-keys_of es)))

-- ---- names with forms

flatten_filter : {X : Type 0} (x : Option (Option X)) → option_flatten (option_filter is_some x) ≡ option_flatten x
flatten_filter None = refl
flatten_filter (Some None) = refl
flatten_filter (Some (Some x)) = refl

some_filter : {X : Type 0} (x : Option (Option X)) → is_some (option_filter is_some x) ≡ is_some (option_flatten x)
some_filter None = refl
some_filter (Some None) = refl
some_filter (Some (Some x)) = refl

-- entries without a form are of no use to the forms
pub forms_swept : (es : Entries) → IsDistinct bytes_eq (keys_of es) → forms_of (filter (λ e. is_some e.1) es) ≡ forms_of es
forms_swept es apart =
    forms_alike (filter (λ e. is_some e.1) es) es
    (λ q. ap option_flatten (lookup-filter-values nat_list_eq_equiv is_some q es apart) ∙ flatten_filter (lookup (bytes_eq q) es))

-- a name has an entry with a form where it names one
pub lookup_swept : (es : Entries) (q : List ℕ) → IsDistinct bytes_eq (keys_of es) →
    is_some (lookup (bytes_eq q) (filter (λ e. is_some e.1) es)) ≡ is_some (finite.get (forms_of es) q)
lookup_swept es q apart =
    ap is_some (lookup-filter-values nat_list_eq_equiv is_some q es apart)
    ∙ some_filter (lookup (bytes_eq q) es)
    ∙ ap is_some (sym (get-forms_of es q))

-- then the names of the forms alone are known
pub known_swept : (es : Entries) → IsDistinct bytes_eq (keys_of es) → known_of (filter (λ e. is_some e.1) es) ≡ set.from_list (names_of (forms_of es))
known_swept es apart =
    set.same_set nat_list_cmp_total only_equal_tie (known_of (filter (λ e. is_some e.1) es)) (set.from_list (names_of (forms_of es))) (λ q.
    contains-known_of (filter (λ e. is_some e.1) es) q
    ∙ lookup_swept es q apart
    ∙ finite.contains_key-keys (forms_of es) q
    ∙ sym (set.contains-from_list nat_list_cmp_total (names_of (forms_of es)) q))

-- the first entries with all forms among them
module _ (es : Entries) (live n : ℕ) (parted : IsParted es live) (less : live ≤ n) (apart : IsDistinct bytes_eq (keys_of es)) where
  first_full : filter (λ e. is_some e.1) (take n es) ≡ filter (λ e. is_some e.1) es
  first_full =
      parted_full (take n es) live (parted_front es live parted n less)
      ∙ take-take-le live n es less
      ∙ sym (parted_full es live parted)

  apart_first : IsDistinct bytes_eq (keys_of (take n es))
  apart_first = subst (λ (ks : List (List ℕ)). IsDistinct bytes_eq ks) (take-map (λ e. e.0) n es) (distinct-take nat_list_eq_equiv n (keys_of es) apart)

  -- they hold all forms
  forms_first : forms_of (take n es) ≡ forms_of es
  forms_first = sym (forms_swept (take n es) apart_first) ∙ ap forms_of first_full ∙ forms_swept es apart

  known_first : known_of (take n es) ≡ first_of n es
  known_first = ap (λ (ks : List (List ℕ)). let s : Names = set.from_list ks in s) (sym (take-map (λ e. e.0) n es))

  -- so the name of each form is one of the first
  pub form_recent : (bs : Kept) (s : Stored) → stored es (record bs { first = n }) ≡ s → KnowsAll s.recent s.forms
  form_recent bs s view =
      subst (λ (t : Stored). KnowsAll t.recent t.forms) view
      (subst (λ (names : Names). KnowsAll names (forms_of es)) known_first
      (subst (λ (forms : Forms). KnowsAll (known_of (take n es)) forms) forms_first (form_known (take n es) bs (stored (take n es) bs) refl)))

  -- the first that have a form are the names of all forms
  first_named : first_of live (take n es) ≡ set.from_list (names_of (forms_of es))
  first_named =
      ap (λ (ks : List (List ℕ)). let s : Names = set.from_list ks in s)
      (take-map (λ e. e.0) live (take n es) ∙ ap keys_of (take-take-le live n es less ∙ sym (parted_full es live parted)))
      ∙ known_swept es apart

  -- the first entries alone
  pub cut_to : (bs : Kept) (s : Stored) → stored es (record bs { first = n }) ≡ s → stored (take n es) (record bs { first = live }) ≡ swept_aged s
  cut_to bs s view =
      ap (λ (f : Forms). let t : Stored = record { forms = f; blocks = bs.blocks; spare = bs.spare; known = known_of (take n es); recent = first_of live (take n es) } in t) forms_first
      ∙ ap (λ (k : Names). let t : Stored = record { forms = forms_of es; blocks = bs.blocks; spare = bs.spare; known = k; recent = first_of live (take n es) } in t) known_first
      ∙ ap (λ (k : Names). let t : Stored = record { forms = forms_of es; blocks = bs.blocks; spare = bs.spare; known = first_of n es; recent = k } in t) first_named
      ∙ ap swept_aged view

-- those with a form alone
pub cut_to_forms : (es : Entries) (live : ℕ) → IsParted es live → IsDistinct bytes_eq (keys_of es) → (bs : Kept) (s : Stored) → stored es bs ≡ s → stored (take live es) (record bs { first = live }) ≡ swept s
cut_to_forms es live parted apart bs s view =
    let e : live ≤ live = omega arith in
    let named : first_of live es ≡ set.from_list (names_of (forms_of es)) =
    sym (known_first es live live parted e apart) ∙ ap known_of (sym (parted_full es live parted)) ∙ known_swept es apart in
    cut_to es live live parted e apart bs (stored es (record bs { first = live })) refl
    ∙ ap (λ (k : Names). let t : Stored = record (stored es bs) { known = k; recent = set.from_list (names_of (forms_of es)) } in t) named
    ∙ ap swept view

-- no entry where no key is equal
lookup_none : (q : List ℕ) (es : Entries) → AllByRecursion (λ y. bytes_eq q y ≡ false) (keys_of es) → lookup (bytes_eq q) es ≡ None
lookup_none q [] h = refl
lookup_none q (e ∷ es) h = cond-false (bytes_eq q e.0) (Some e.1) (lookup (bytes_eq q) es) h.0 ∙ lookup_none q es h.1

len-with_entry : (name : List ℕ) (form : Option Form) (forms : Forms) → finite.get forms name ≡ None → finite.len (with_entry name form forms) ≡ cond (is_some form) (finite.len forms + 1) (finite.len forms)
len-with_entry name None forms none =
    finite.len-remove nat_list_cmp_total forms name ∙ ap (λ (o : Option Form). cond (is_some o) (finite.len forms - 1) (finite.len forms)) none
len-with_entry name (Some form) forms none =
    finite.len-insert nat_list_cmp_total forms name form ∙ ap (λ (o : Option Form). cond (is_some o) (finite.len forms) (finite.len forms + 1)) none

-- there are as many forms as entries with a form
pub len-forms_of : (es : Entries) → IsDistinct bytes_eq (keys_of es) → finite.len (forms_of es) ≡ length (filter (λ e. is_some e.1) es)
len-forms_of [] apart = finite.len-empty (slice_cmp nat_cmp) Form
len-forms_of (e ∷ es) apart =
    let none : finite.get (forms_of es) e.0 ≡ None =
    get-forms_of es e.0 ∙ ap option_flatten (lookup_none e.0 es (IsDistinct-head bytes_eq e.0 (keys_of es) apart)) in
    let rest : finite.len (forms_of es) ≡ length (filter (λ x. is_some x.1) es) = len-forms_of es (IsDistinct-tail bytes_eq e.0 (keys_of es) apart) in
    len-with_entry e.0 e.1 (forms_of es) none
    ∙ elim (is_some e.1) as (λ b. cond b (finite.len (forms_of es) + 1) (finite.len (forms_of es)) ≡ length (cond b (e ∷ filter (λ x. is_some x.1) es) (filter (λ x. is_some x.1) es))) [
      | true ↦ omega (arith, rest)
      | false ↦ rest
    ]

-- what a map's `retain` leaves, where the closure keeps no state, takes each value away and keeps each entry
module _ {K X F : Type 0} (T : F → K → Option X → Bool → Option X → F → Type 0) (f : F)
    (says : (k : K) (v : Option X) (b : Bool) (w : Option X) (g : F) → T f k v b w g → (b ≡ true) × (w ≡ None) × (g ≡ f)) where
  pub taken-RetainsPairs : (es kept : List (K × Option X)) → RetainsPairs T f es kept → kept ≡ map (λ e. (e.0, None)) es
  taken-RetainsPairs [] kept h = h
  taken-RetainsPairs (e ∷ es) kept h =
      let s = says e.0 e.1 h.0 h.1 h.2 h.4 in
      let rest = taken-RetainsPairs es h.3 (subst (λ g. RetainsPairs T g es h.3) s.2 h.5) in
      h.6 ∙ (λ j. cond (s.0 j) ((e.0, s.1 j) ∷ rest j) (rest j))

-- entries whose forms are taken away
abbrev taken : Entries → Entries
taken es = map (λ e. (e.0, None)) es

-- give no form
no_forms : (es : Entries) → forms_of (taken es) ≡ finite.empty
no_forms es = forms_alike (taken es) [] (λ q. none_found q es)
  where
    none_found : (q : List ℕ) (xs : Entries) → option_flatten (lookup (bytes_eq q) (taken xs)) ≡ None
    none_found q [] = refl
    none_found q (x ∷ xs) =
        elim (bytes_eq q x.0) as (λ b. option_flatten {T = Form} (cond b (Some None) (lookup (bytes_eq q) (taken xs))) ≡ None) [
          | true ↦ refl
          | false ↦ none_found q xs
        ]

-- and have the same names
keys-taken : (es : Entries) → keys_of (taken es) ≡ keys_of es
keys-taken [] = refl
keys-taken (e ∷ es) = ap (λ r. e.0 ∷ r) (keys-taken es)

-- ---- a store, of which the table's entries are given

module _ (es : Entries) (bs : Kept) (s : Stored) (is : stored es bs ≡ s) where
  -- the form of a name
  pub form_found : (q : List ℕ) (r : Option (Option Form)) → r ≡ lookup (bytes_eq q) es → finite.get s.forms q ≡ option_flatten r
  form_found q r e = ap (λ (t : Stored). finite.get t.forms q) (sym is) ∙ get-forms_of es q ∙ ap option_flatten (sym e)

  -- whether a name is known
  pub name_found : (q : List ℕ) → set.contains s.known q ≡ is_some (lookup (bytes_eq q) es)
  name_found q = ap (λ (t : Stored). set.contains t.known q) (sym is) ∙ contains-known_of es q

  -- what is written at a name that has an entry
  written : (q : List ℕ) (w : Option Form) (new : Entries) → new ≡ set_value (bytes_eq q) es w → IsSome (lookup (bytes_eq q) es) →
      stored new bs ≡ record s { forms = with_entry q w s.forms }
  written q w new e some =
      ap (λ xs. stored xs bs) e
      ∙ ap (λ (f : Forms). let t : Stored = record { forms = f; blocks = bs.blocks; spare = bs.spare; known = known_of (set_value (bytes_eq q) es w); recent = first_of bs.first (set_value (bytes_eq q) es w) } in t) (forms_written es q w some)
      ∙ ap (λ (n : Names). let t : Stored = record { forms = with_entry q w (forms_of es); blocks = bs.blocks; spare = bs.spare; known = n; recent = first_of bs.first (set_value (bytes_eq q) es w) } in t) (known_written es q w)
      ∙ ap (λ (n : Names). let t : Stored = record { forms = with_entry q w (forms_of es); blocks = bs.blocks; spare = bs.spare; known = known_of es; recent = n } in t)
      (first_same bs.first es (set_value (bytes_eq q) es w) (keys-set_value (bytes_eq q) es w))
      ∙ ap (λ (t : Stored). let u : Stored = record t { forms = with_entry q w t.forms } in u) is

  -- what is written at a name's place, wherever the entries stand then, the same names first
  pub written_at : (q : List ℕ) (i : ℕ) (w : Option Form) (new : Entries) → position (bytes_eq q) (keys_of es) ≡ Some i →
      IsDistinct bytes_eq (keys_of es) → IsPermutation (set_value_at es i w) new → IsPermutation (take bs.first (keys_of es)) (take bs.first (keys_of new)) →
      stored new bs ≡ record s { forms = with_entry q w s.forms }
  written_at q i w new found apart moves first =
      let there : set_value_at es i w ≡ set_value (bytes_eq q) es w = written_first (bytes_eq q) es i w found in
      let keys : keys_of (set_value_at es i w) ≡ keys_of es = ap keys_of there ∙ keys-set_value (bytes_eq q) es w in
      let distinct : IsDistinct bytes_eq (keys_of (set_value_at es i w)) =
      subst (λ (ks : List (List ℕ)). IsDistinct bytes_eq ks) (sym keys) apart in
      stored_moved (set_value_at es i w) new bs bs.first distinct moves
      ∙ ap (λ (n : Names). let t : Stored = record (stored (set_value_at es i w) bs) { recent = n } in t) (first_moved bs.first es new first ∙ sym (first_same bs.first es (set_value_at es i w) keys))
      ∙ written q w (set_value_at es i w) there (sym (some_index (bytes_eq q) es) ∙ ap is_some found)

  -- where a name has no entry, it has no form, none is taken and none is changed
  module _ (q : List ℕ) (none : is_some (lookup (bytes_eq q) es) ≡ false) where
    pub no_form : finite.get s.forms q ≡ None
    no_form = form_found q None (sym (none_of_false (lookup (bytes_eq q) es) none))

    pub not_taken : s ≡ record s { forms = finite.remove s.forms q }
    not_taken = ap (λ (f : Forms). let t : Stored = record s { forms = f } in t) (sym (nothing_taken s.forms q no_form))

    pub none_changed : (change : Form → Form) → s ≡ record s { forms = changed_at q change s.forms }
    none_changed change = ap (λ (found : Option Form). let t : Stored = record s { forms = changing q change found s.forms } in t) (sym no_form)

  -- a form is changed in its entry
  pub changed_in_place : (q : List ℕ) (i : ℕ) (change : Form → Form) (r : Option (Option Form)) (new : Entries) →
      position (bytes_eq q) (keys_of es) ≡ Some i → IsDistinct bytes_eq (keys_of es) → r ≡ lookup (bytes_eq q) es →
      new ≡ set_value_at es i (option_map change (option_flatten r)) → stored new bs ≡ record s { forms = changed_at q change s.forms }
  changed_in_place q i change r new at apart found written_there =
      let w = option_map change (option_flatten r) in
      let keys : keys_of new ≡ keys_of es = ap keys_of (written_there ∙ written_first (bytes_eq q) es i w at) ∙ keys-set_value (bytes_eq q) es w in
      written_at q i w new at apart (subst (IsPermutation (set_value_at es i w)) (sym written_there) (IsPermutation-refl (set_value_at es i w)))
      (subst (λ (ks : List (List ℕ)). IsPermutation (take bs.first (keys_of es)) (take bs.first ks)) (sym keys) (IsPermutation-refl (take bs.first (keys_of es))))
      ∙ ap (λ (o : Option Form). let t : Stored = record s { forms = with_entry q (option_map change o) s.forms } in t) (sym (form_found q r found))
      ∙ ap (λ (forms : Forms). let t : Stored = record s { forms = forms } in t) (with_changed q change s.forms)

  -- all forms taken away
  pub cleared : (new : Entries) → new ≡ taken es → stored new bs ≡ record s { forms = finite.empty }
  cleared new e =
      ap (λ xs. stored xs bs) e
      ∙ ap (λ (f : Forms). let t : Stored = record { forms = f; blocks = bs.blocks; spare = bs.spare; known = known_of (taken es); recent = first_of bs.first (taken es) } in t) (no_forms es)
      ∙ ap (λ (ks : List (List ℕ)). let t : Stored = record { forms = finite.empty; blocks = bs.blocks; spare = bs.spare; known = set.from_list ks; recent = set.from_list (take bs.first ks) } in t) (keys-taken es)
      ∙ ap (λ (t : Stored). let u : Stored = record t { forms = finite.empty } in u) is

  -- how many forms there are
  pub counted : IsDistinct bytes_eq (keys_of es) → finite.len s.forms ≡ length (filter (λ e. is_some e.1) es)
  counted apart = ap (λ (t : Stored). finite.len t.forms) (sym is) ∙ len-forms_of es apart

-- ---- after the calls

-- a name that was made known is known
pub known_then : (s : Names) (name : List ℕ) → set.contains (set.insert s name) name ≡ true
known_then s name = set.contains-insert nat_list_cmp_total s name name ∙ ap (λ b. b || set.contains s name) (ties_itself name)
