-- Whether a state is proper is decided by a test.
use Rattle.std.proofs.Common.{◌≡◌, ℕ, ◌≤◌, Bool, true, false, cond, not, ◌&&◌, ◌||◌, T, List, [], ◌∷◌, length, map, All, Decides, refl, sym, ap, subst, ◌∙◌, ⊎_elim}
use Rattle.std.specs.Prelude.{None, Some, nat_le, bytes_eq}
use Rattle.std.specs.Cmp.Lexicographic.{slice_cmp}
use Rattle.std.specs.FinMap as finite
use Rattle.std.specs.FinMap.Entries.{find, below_all, is_sorted}
use Rattle.std.specs.List.{AllByRecursion, IsDistinct, list_all, list_any}
use Rattle.std.specs.Ordering.{nat_cmp, eq_by_cmp, is_eq, is_lt}
use Rattle.std.specs.declared.cmp.Ordering.{Ordering}
use Rattle.std.specs.declared.cmp.Ordering.TheVariants.{Less, Equal, Greater}
use Rattle.std.proofs.lemmas.Bool.{leb-true, le-leb, cases_Bool, cond-true, cond-false}
use Rattle.std.proofs.lemmas.Bool.Decides.{Decides-and, Decides-by_and, Decides-like}
use Rattle.std.proofs.lemmas.List.Elements.{All-nil, All-cons, All-head, All-tail, All-from_recursion, recursion_from_All}
use Rattle.trac_rules.specs.declared.limit.TheConstants.{BLOCK_LIMIT, FORM_COUNT_LIMIT}
use Rattle.trac_rules.specs.Form.{Form, IsWide, all_items, width_of}
use Rattle.trac_rules.specs.Limits.{form_fits, texts_fit}
use Rattle.trac_rules.specs.Proper.{AreProperForms, IsProper, IsProperBlock, IsProperForm, IsProperStorage, are_distinct, are_proper_forms, is_proper, is_proper_block, is_proper_form, is_proper_storage}
use Rattle.trac_rules.specs.State.{Block, Forms, State, Storage, storage_of}
use Rattle.trac_rules.proofs.NamedForms.{one_name, ties_itself}

-- ---- tests

itself : (b : Bool) → Decides b (b ≡ true)
itself b = (λ e. e, λ e. e)

no_greater : (a b : ℕ) → Decides (nat_le a b) (a ≤ b)
no_greater a b = (leb-true a b, le-leb a b)

each_of : {X : Type 0} (p : X → Bool) (P : X → Type 0) → ((x : X) → Decides (p x) (P x)) → (xs : List X) → Decides (list_all p xs) (All P xs)
each_of p P decides xs = Decides-by_and p P (list_all p) decides refl (λ _ _. refl) xs

form_decided : (name : List ℕ) (form : Form) → Decides (is_proper_form name form) (IsProperForm name form)
form_decided name form =
    Decides-like (is_proper_form name form) (λ h. record { fits = h.0; wide = h.1 }) (λ proper. (proper.fits, proper.wide))
    (Decides-and (form_fits name form) (list_all (λ item. nat_le 1 (width_of item)) (all_items form)) (itself (form_fits name form))
    (each_of (λ item. nat_le 1 (width_of item)) IsWide (λ item. no_greater 1 (width_of item)) (all_items form)))

-- ---- entries

pub not_below : (name : List ℕ) (es : List (List ℕ × Form)) → T (below_all (slice_cmp nat_cmp) name es) → find (slice_cmp nat_cmp) name es ≡ None
not_below name [] below = refl
not_below name (e ∷ es) below = go (slice_cmp nat_cmp name e.0) below (not_below name es)
  where
    go : (r : Ordering) → T (is_lt r && below_all (slice_cmp nat_cmp) name es) → (T (below_all (slice_cmp nat_cmp) name es) → find (slice_cmp nat_cmp) name es ≡ None) →
        cond (is_eq r) (Some e.1) (find (slice_cmp nat_cmp) name es) ≡ None
    go Less h rest = rest h
    go Equal h rest = absurd h
    go Greater h rest = absurd h

-- a form and its name, as an entry
abbrev IsProperEntry : List ℕ × Form → Type 0
IsProperEntry e = IsProperForm e.0 e.1

of_entries : (es : List (List ℕ × Form)) (name : List ℕ) (form : Form) → All IsProperEntry es → find (slice_cmp nat_cmp) name es ≡ Some form → IsProperForm name form
of_entries [] name form all there = absurd (cc)
of_entries (e ∷ es) name form all there =
    ⊎_elim
    (λ (t : eq_by_cmp (slice_cmp nat_cmp) name e.0 ≡ true).
    let same : Some e.1 ≡ Some form = sym (cond-true (eq_by_cmp (slice_cmp nat_cmp) name e.0) (Some e.1) (find (slice_cmp nat_cmp) name es) t) ∙ there in
    let one : e.1 ≡ form = cc in
    subst (λ n. IsProperForm n form) (sym (one_name name e.0 t)) (subst (IsProperForm e.0) one (All-head IsProperEntry e es all)))
    (λ (t : eq_by_cmp (slice_cmp nat_cmp) name e.0 ≡ false).
    of_entries es name form (All-tail IsProperEntry e es all)
    (sym (cond-false (eq_by_cmp (slice_cmp nat_cmp) name e.0) (Some e.1) (find (slice_cmp nat_cmp) name es) t) ∙ there))
    (cases_Bool (eq_by_cmp (slice_cmp nat_cmp) name e.0))

pub both_true : (a b : Bool) → T (a && b) → T a × T b
both_true true b h = (tt, h)
both_true false b h = absurd h

-- what holds of all that is found holds of each entry, since each is found under its own name
pub all_entries : (P : List ℕ → Form → Type 0) (es : List (List ℕ × Form)) → T (is_sorted (slice_cmp nat_cmp) es) →
    ((name : List ℕ) (form : Form) → find (slice_cmp nat_cmp) name es ≡ Some form → P name form) → All (λ e. P e.0 e.1) es
all_entries P [] sorted found = All-nil (λ e. P e.0 e.1)
all_entries P (e ∷ es) sorted found =
    All-cons (λ e. P e.0 e.1) e es
    (found e.0 e.1 (cond-true (eq_by_cmp (slice_cmp nat_cmp) e.0 e.0) (Some e.1) (find (slice_cmp nat_cmp) e.0 es) (ties_itself e.0)))
    (all_entries P es parts.1 (λ name form there. found name form (later name form there)))
  where
    parts : T (below_all (slice_cmp nat_cmp) e.0 es) × T (is_sorted (slice_cmp nat_cmp) es)
    parts = both_true (below_all (slice_cmp nat_cmp) e.0 es) (is_sorted (slice_cmp nat_cmp) es) sorted

    later : (name : List ℕ) (form : Form) → find (slice_cmp nat_cmp) name es ≡ Some form → find (slice_cmp nat_cmp) name (e ∷ es) ≡ Some form
    later name form there =
        ⊎_elim
        (λ (t : eq_by_cmp (slice_cmp nat_cmp) name e.0 ≡ true).
        absurd (let none : None ≡ Some form = sym (ap (λ n. find (slice_cmp nat_cmp) n es) (one_name name e.0 t) ∙ not_below e.0 es parts.0) ∙ there in cc))
        (λ (t : eq_by_cmp (slice_cmp nat_cmp) name e.0 ≡ false).
        cond-false (eq_by_cmp (slice_cmp nat_cmp) name e.0) (Some e.1) (find (slice_cmp nat_cmp) name es) t ∙ there)
        (cases_Bool (eq_by_cmp (slice_cmp nat_cmp) name e.0))

entries_decided : (es : List (List ℕ × Form)) → Decides (list_all (λ e. is_proper_form e.0 e.1) es) (All IsProperEntry es)
entries_decided es = each_of (λ e. is_proper_form e.0 e.1) IsProperEntry (λ e. form_decided e.0 e.1) es

forms_decided : (forms : Forms) → Decides (are_proper_forms forms) (AreProperForms forms)
forms_decided forms =
    Decides-like (are_proper_forms forms)
    (λ h. record { count = h.0; each = λ name form there. of_entries (finite.entries forms) name form h.1 (sym (finite.get-entries forms name) ∙ there) })
    (λ proper. (
      proper.count,
      all_entries IsProperForm (finite.entries forms) (finite.entries_sorted forms)
          (λ name form there. proper.each name form (finite.get-entries forms name ∙ there)),
    ))
    (Decides-and (nat_le (finite.len forms) FORM_COUNT_LIMIT) (list_all (λ e. is_proper_form e.0 e.1) (finite.entries forms))
    (no_greater (finite.len forms) FORM_COUNT_LIMIT) (entries_decided (finite.entries forms)))

-- ---- names of a block

none_is : (name : List ℕ) (names : List (List ℕ)) → Decides (not (list_any (bytes_eq name) names)) (AllByRecursion (λ n. bytes_eq name n ≡ false) names)
none_is name names =
    Decides-like (not (list_any (bytes_eq name) names)) (recursion_from_All (λ n. bytes_eq name n ≡ false) names)
    (All-from_recursion (λ n. bytes_eq name n ≡ false) names)
    (Decides-by_and (λ n. not (bytes_eq name n)) (λ n. bytes_eq name n ≡ false) (λ ns. not (list_any (bytes_eq name) ns)) (λ n. turned (bytes_eq name n)) refl
    (λ n ns. neither (bytes_eq name n) (list_any (bytes_eq name) ns)) names)
  where
    turned : (b : Bool) → Decides (not b) (b ≡ false)
    turned true = (λ e. absurd (cc), λ e. absurd (cc))
    turned false = (λ _. refl, λ _. refl)

    neither : (a b : Bool) → not (a || b) ≡ (not a && not b)
    neither true b = refl
    neither false b = refl

distinct_decided : (names : List (List ℕ)) → Decides (are_distinct names) (IsDistinct bytes_eq names)
unfolding IsDistinct
distinct_decided [] = (λ _. tt, λ _. refl)
distinct_decided (name ∷ names) =
    Decides-and (not (list_any (bytes_eq name) names)) (are_distinct names) (none_is name names) (distinct_decided names)

block_decided : (block : Block) → Decides (is_proper_block block) (IsProperBlock block)
block_decided None = (λ _. tt, λ _. refl)
block_decided (Some held) =
    let names = map (λ e. e.0) held in
    let few = nat_le (length held) FORM_COUNT_LIMIT in
    let each = list_all (λ e. is_proper_form e.0 e.1) held in
    Decides-like (is_proper_block (Some held)) (λ h. record { count = h.0.0; each = h.0.1; distinct = h.1 })
    (λ proper. ((proper.count, proper.each), proper.distinct))
    (Decides-and (few && each) (are_distinct names)
    (Decides-and few each (no_greater (length held) FORM_COUNT_LIMIT) (entries_decided held)) (distinct_decided names))

storage_decided : (storage : Storage) → Decides (is_proper_storage storage) (IsProperStorage storage)
storage_decided storage =
    let few = nat_le (length storage.blocks) BLOCK_LIMIT in
    Decides-like (is_proper_storage storage)
    (λ h. record { forms = h.0.0; block_count = h.0.1; blocks = h.1 })
    (λ proper. ((proper.forms, proper.block_count), proper.blocks))
    (Decides-and (are_proper_forms storage.forms && few) (list_all is_proper_block storage.blocks)
    (Decides-and (are_proper_forms storage.forms) few (forms_decided storage.forms) (no_greater (length storage.blocks) BLOCK_LIMIT))
    (each_of is_proper_block IsProperBlock block_decided storage.blocks))

pub proper_decided : (s : State) → Decides (is_proper s) (IsProper s)
unfolding is_proper
proper_decided s =
    Decides-like (is_proper s) (λ h. record { texts = h.0; storage = h.1 }) (λ proper. (proper.texts, proper.storage))
    (Decides-and (texts_fit s) (is_proper_storage (storage_of s)) (itself (texts_fit s)) (storage_decided (storage_of s)))
