-- All forms leave by their names, in the order of their names.
use Rattle.std.proofs.Common.{◌≡◌, ℕ, true, false, T, List, [], ◌∷◌, ◌++◌, refl, sym, ap, ◌∙◌, ⊎_elim}
use Rattle.std.specs.Prelude.{None, Some}
use Rattle.std.specs.Cmp.Lexicographic.{slice_cmp, nat_list_cmp_total}
use Rattle.std.specs.FinMap as finite
use Rattle.std.specs.FinMap.Entries.{find, below_all, is_sorted}
use Rattle.std.specs.Ordering.{nat_cmp, eq_by_cmp}
use Rattle.std.proofs.lemmas.Bool.{cases_Bool, cond-true, cond-false}
use Rattle.trac_rules.specs.Blocks.{moved_out, with_name}
use Rattle.trac_rules.specs.Form.{Form}
use Rattle.trac_rules.specs.Handling.{without}
use Rattle.trac_rules.specs.Listing.{names_of}
use Rattle.trac_rules.specs.State.{Forms, Held}
use Rattle.trac_rules.specs.Undone.{names_in}
use Rattle.trac_rules.proofs.NamedForms.{one_name, only_equal_tie, ties_itself}
use Rattle.trac_rules.proofs.ProperDecided.{both_true, not_below}

-- these entries rise, and are what is found among the forms
record AreAll (es : Held) (forms : Forms) : Type 0 where
  sorted : T (is_sorted (slice_cmp nat_cmp) es)
  found : (q : List ℕ) → find (slice_cmp nat_cmp) q es ≡ finite.get forms q

-- so the entries after the first are what is found when its form is taken
all_after : (e : List ℕ × Form) (es : Held) (forms : Forms) → AreAll (e ∷ es) forms → AreAll es (finite.remove forms e.0)
all_after e es forms all = record { sorted = parts.1; found = λ q. ⊎_elim (at q) (aside q) (cases_Bool (eq_by_cmp (slice_cmp nat_cmp) q e.0)) }
  where
    parts : T (below_all (slice_cmp nat_cmp) e.0 es) × T (is_sorted (slice_cmp nat_cmp) es)
    parts = both_true (below_all (slice_cmp nat_cmp) e.0 es) (is_sorted (slice_cmp nat_cmp) es) all.sorted

    at : (q : List ℕ) → eq_by_cmp (slice_cmp nat_cmp) q e.0 ≡ true → find (slice_cmp nat_cmp) q es ≡ finite.get (finite.remove forms e.0) q
    at q t =
        ap (λ n. find (slice_cmp nat_cmp) n es) (one_name q e.0 t) ∙ not_below e.0 es parts.0
        ∙ sym (finite.get-remove nat_list_cmp_total forms e.0 q ∙ cond-true (eq_by_cmp (slice_cmp nat_cmp) q e.0) None (finite.get forms q) t)

    aside : (q : List ℕ) → eq_by_cmp (slice_cmp nat_cmp) q e.0 ≡ false → find (slice_cmp nat_cmp) q es ≡ finite.get (finite.remove forms e.0) q
    aside q t =
        sym (cond-false (eq_by_cmp (slice_cmp nat_cmp) q e.0) (Some e.1) (find (slice_cmp nat_cmp) q es) t) ∙ all.found q
        ∙ sym (finite.get-remove nat_list_cmp_total forms e.0 q ∙ cond-false (eq_by_cmp (slice_cmp nat_cmp) q e.0) None (finite.get forms q) t)

all_moved : (es : Held) (forms : Forms) → AreAll es forms → moved_out (names_in es) forms ≡ es
all_moved [] forms all = refl
all_moved (e ∷ es) forms all =
    let first = sym (all.found e.0) ∙ cond-true (eq_by_cmp (slice_cmp nat_cmp) e.0 e.0) (Some e.1) (find (slice_cmp nat_cmp) e.0 es) (ties_itself e.0) in
    ap (λ o. with_name e.0 o ++ moved_out (names_in es) (finite.remove forms e.0)) first
    ∙ ap (λ (rest : Held). e ∷ rest) (all_moved es (finite.remove forms e.0) (all_after e es forms all))

none_left : (es : Held) (forms : Forms) → AreAll es forms → without (names_in es) forms ≡ finite.empty
none_left [] forms all =
    finite.same_map nat_list_cmp_total only_equal_tie forms finite.empty (λ q. sym (all.found q) ∙ sym (finite.get-empty (slice_cmp nat_cmp) q))
none_left (e ∷ es) forms all = none_left es (finite.remove forms e.0) (all_after e es forms all)

all_entries_of : (forms : Forms) → AreAll (finite.entries forms) forms
all_entries_of forms = record { sorted = finite.entries_sorted forms; found = λ q. sym (finite.get-entries forms q) }

-- the forms of all names are all forms
pub all_leave : (forms : Forms) → moved_out (names_of forms) forms ≡ finite.entries forms
all_leave forms = all_moved (finite.entries forms) forms (all_entries_of forms)

-- and none is left
pub none_stays : (forms : Forms) → without (names_of forms) forms ≡ finite.empty
none_stays forms = none_left (finite.entries forms) forms (all_entries_of forms)
