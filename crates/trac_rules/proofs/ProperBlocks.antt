-- Blocks of proper forms are proper.
use Rattle.std.proofs.Common.{◌≡◌, ℕ, zero, suc, ◌≤◌, true, false, List, [], ◌∷◌, ◌++◌, length, map, All, refl, sym, ap, subst, ◌∙◌, ⊎_elim}
use Rattle.std.specs.Prelude.{Option, None, Some, bytes_eq, slice_set}
use Rattle.std.specs.Cmp.Lexicographic.{slice_cmp, nat_list_cmp_total}
use Rattle.std.specs.FinMap as finite
use Rattle.std.specs.List.{AllByRecursion, IsDistinct}
use Rattle.std.specs.Ordering.{nat_cmp, eq_by_cmp}
use Rattle.std.proofs.lemmas.Bool.{cases_Bool, cond-true}
use Rattle.std.proofs.lemmas.List.Elements.{All-nil, All-cons, All-head, All-tail, All-weaker}
use Rattle.std.proofs.lemmas.Map.Keys.{IsDistinct-cons}
use Rattle.std.proofs.lemmas.Slice.Eq.{bytes_eq-Decides}
use Rattle.trac_rules.specs.declared.limit.TheConstants.{FORM_COUNT_LIMIT}
use Rattle.trac_rules.specs.Blocks.{block_at, forms_in, moved_out, with_all, with_name}
use Rattle.trac_rules.specs.Form.{Form}
use Rattle.trac_rules.specs.Proper.{AreHeld, AreProperForms, IsProperBlock, IsProperForm}
use Rattle.trac_rules.specs.State.{Block, Forms, Held}
use Rattle.trac_rules.proofs.NamedForms.{found_of_put, found_of_taken, ties_itself}

-- a form and its name, as an entry
abbrev pub IsProperEntry : List ℕ × Form → Type 0
IsProperEntry entry = IsProperForm entry.0 entry.1

-- ---- forms that are moved out

-- a form with its name was among these
abbrev pub WasAmong : Forms → List ℕ × Form → Type 0
WasAmong forms entry = finite.get forms entry.0 ≡ Some entry.1

-- before others, what was found under a name
first_among : (forms : Forms) (name : List ℕ) (found : Option Form) (rest : Held) → finite.get forms name ≡ found → All (WasAmong forms) rest →
    All (WasAmong forms) (with_name name found ++ rest)
first_among forms name None rest there all = all
first_among forms name (Some form) rest there all = All-cons (WasAmong forms) (name, form) rest there all

pub moved_out_among : (names : List (List ℕ)) (forms : Forms) → All (WasAmong forms) (moved_out names forms)
moved_out_among [] forms = All-nil (WasAmong forms)
moved_out_among (name ∷ names) forms =
    first_among forms name (finite.get forms name) (moved_out names (finite.remove forms name)) refl
    (All-weaker (WasAmong (finite.remove forms name)) (WasAmong forms) (λ entry there. found_of_taken forms name entry.0 entry.1 there)
    (moved_out names (finite.remove forms name)) (moved_out_among names (finite.remove forms name)))

-- under a name that was taken nothing is found
pub get_taken : (forms : Forms) (name : List ℕ) → finite.get (finite.remove forms name) name ≡ None
get_taken forms name =
    finite.get-remove nat_list_cmp_total forms name name
    ∙ cond-true (eq_by_cmp (slice_cmp nat_cmp) name name) None (finite.get forms name) (ties_itself name)

-- so a name that was taken is none of those that are found after it
others : (forms : Forms) (name : List ℕ) (held : Held) → All (WasAmong (finite.remove forms name)) held →
    AllByRecursion (λ n. bytes_eq name n ≡ false) (map (λ entry. entry.0) held)
others forms name [] all = tt
others forms name (entry ∷ held) all =
    (other, others forms name held (All-tail (WasAmong (finite.remove forms name)) entry held all))
  where
    other : bytes_eq name entry.0 ≡ false
    other =
        ⊎_elim
        (λ (t : bytes_eq name entry.0 ≡ true).
        absurd (let both : None ≡ Some entry.1 =
        sym (get_taken forms name) ∙ ap (λ n. finite.get (finite.remove forms name) n) ((bytes_eq-Decides name entry.0).0 t)
        ∙ All-head (WasAmong (finite.remove forms name)) entry held all in cc))
        (λ (t : bytes_eq name entry.0 ≡ false). t)
        (cases_Bool (bytes_eq name entry.0))

first_distinct : (forms : Forms) (name : List ℕ) (found : Option Form) (held : Held) → All (WasAmong (finite.remove forms name)) held →
    IsDistinct bytes_eq (map (λ entry. entry.0) held) → IsDistinct bytes_eq (map (λ entry. entry.0) (with_name name found ++ held))
first_distinct forms name None held all apart = apart
first_distinct forms name (Some form) held all apart =
    IsDistinct-cons bytes_eq name (map (λ entry. entry.0) held) (others forms name held all) apart

-- no name is moved out twice
pub moved_out_distinct : (names : List (List ℕ)) (forms : Forms) → IsDistinct bytes_eq (map (λ entry. entry.0) (moved_out names forms))
unfolding IsDistinct
moved_out_distinct [] forms = tt
moved_out_distinct (name ∷ names) forms =
    first_distinct forms name (finite.get forms name) (moved_out names (finite.remove forms name)) (moved_out_among names (finite.remove forms name))
    (moved_out_distinct names (finite.remove forms name))

-- so they can be held by a block
pub moved_out_held : (names : List (List ℕ)) (forms : Forms) → AreProperForms forms → length (moved_out names forms) ≤ FORM_COUNT_LIMIT →
    AreHeld (moved_out names forms)
moved_out_held names forms proper few = record {
  count = few;
  each = All-weaker (WasAmong forms) IsProperEntry (λ entry there. proper.each entry.0 entry.1 there) (moved_out names forms) (moved_out_among names forms);
  distinct = moved_out_distinct names forms;
}

-- ---- forms that are put

-- each form is proper, however many there are
abbrev pub EachProper : Forms → Type 0
EachProper forms = (name : List ℕ) → (form : Form) → finite.get forms name ≡ Some form → IsProperForm name form

pub each_put : (forms : Forms) (name : List ℕ) (form : Form) → EachProper forms → IsProperForm name form → EachProper (finite.insert forms name form)
each_put forms name form each one = λ q found there.
    ⊎_elim
    (λ (same : (q ≡ name) × (found ≡ form)). subst (λ n. IsProperForm n found) (sym same.0) (subst (IsProperForm name) (sym same.1) one))
    (λ (before : finite.get forms q ≡ Some found). each q found before)
    (found_of_put forms name q form found there)

pub each_with_all : (held : Held) (forms : Forms) → All IsProperEntry held → EachProper forms → EachProper (with_all held forms)
each_with_all [] forms all each = each
each_with_all (entry ∷ held) forms all each =
    each_with_all held (finite.insert forms entry.0 entry.1) (All-tail IsProperEntry entry held all)
    (each_put forms entry.0 entry.1 each (All-head IsProperEntry entry held all))

-- ---- blocks

pub All-append_right : {X : Type 0} (P : X → Type 0) (xs ys : List X) → All P (xs ++ ys) → All P ys
All-append_right P [] ys all = all
All-append_right P (x ∷ xs) ys all = All-append_right P xs ys (All-tail P x (xs ++ ys) all)

pub block_at_proper : (blocks : List Block) (number : ℕ) → All IsProperBlock blocks → IsProperBlock (block_at number blocks)
block_at_proper [] number all = tt
block_at_proper (block ∷ blocks) zero all = All-head IsProperBlock block blocks all
block_at_proper (block ∷ blocks) (suc number) all = block_at_proper blocks number (All-tail IsProperBlock block blocks all)

pub in_proper : (block : Block) → IsProperBlock block → All IsProperEntry (forms_in block)
in_proper None proper = All-nil IsProperEntry
in_proper (Some held) proper = proper.each

pub forms_at_proper : (blocks : List Block) (number : ℕ) → All IsProperBlock blocks → All IsProperEntry (forms_in (block_at number blocks))
forms_at_proper blocks number all = in_proper (block_at number blocks) (block_at_proper blocks number all)

pub erased_blocks : (blocks : List Block) (number : ℕ) → All IsProperBlock blocks → All IsProperBlock (slice_set blocks number None)
erased_blocks [] number all = All-nil IsProperBlock
erased_blocks (block ∷ blocks) zero all = All-cons IsProperBlock None blocks tt (All-tail IsProperBlock block blocks all)
erased_blocks (block ∷ blocks) (suc number) all =
    All-cons IsProperBlock block (slice_set blocks number None) (All-head IsProperBlock block blocks all)
    (erased_blocks blocks number (All-tail IsProperBlock block blocks all))
