-- Forms by their names, put, taken and looked up.
use Rattle.std.proofs.Common.{◌≡◌, ◌+◌, ◌-◌, ◌≤◌, Bool, true, false, cond, ℕ, List, sym, ap, ◌∙◌, arith, inl, inr, ⊎_elim, is_some}
use Rattle.std.specs.Prelude.{Option, None, Some, ◌⊎◌}
use Rattle.std.specs.Cmp.Lexicographic.{slice_cmp, nat_list_cmp_total, nat_list_eq_equiv}
use Rattle.std.specs.FinMap as finite
use Rattle.std.specs.Ordering.{nat_cmp, eq_by_cmp}
use Rattle.std.proofs.lemmas.Bool.{cases_Bool, cond-true, cond-false}
use Rattle.std.proofs.lemmas.Map.Text.{is_eq-slice_cmp}
use Rattle.std.proofs.lemmas.Slice.Eq.{bytes_eq-Decides}
use Rattle.trac_rules.specs.Form.{Form}
use Rattle.trac_rules.specs.State.{Forms}

-- ---- names

pub one_name : (q name : List ℕ) → eq_by_cmp (slice_cmp nat_cmp) q name ≡ true → q ≡ name
one_name q name t = (bytes_eq-Decides q name).0 (sym (is_eq-slice_cmp q name) ∙ t)

pub ties_itself : (name : List ℕ) → eq_by_cmp (slice_cmp nat_cmp) name name ≡ true
ties_itself name = is_eq-slice_cmp name name ∙ nat_list_eq_equiv.refl name

-- only equal names tie
abbrev pub only_equal_tie : finite.IsAntisymmetric (slice_cmp nat_cmp)
only_equal_tie = finite.slice_cmp-IsAntisymmetric finite.nat_cmp-IsAntisymmetric

-- ---- forms put and taken

pub get-put : (forms : Forms) (name : List ℕ) (form : Form) → finite.get (finite.insert forms name form) name ≡ Some form
get-put forms name form =
    finite.get-insert nat_list_cmp_total forms name form name
    ∙ cond-true (eq_by_cmp (slice_cmp nat_cmp) name name) (Some form) (finite.get forms name) (ties_itself name)

-- what is found then is that form under its name, or was there before
pub found_of_put : (forms : Forms) (name q : List ℕ) (form found : Form) → finite.get (finite.insert forms name form) q ≡ Some found →
    (((q ≡ name) × (found ≡ form)) ⊎ (finite.get forms q ≡ Some found))
found_of_put forms name q form found there =
    let is : cond (eq_by_cmp (slice_cmp nat_cmp) q name) (Some form) (finite.get forms q) ≡ Some found =
    sym (finite.get-insert nat_list_cmp_total forms name form q) ∙ there in
    ⊎_elim
    (λ (t : eq_by_cmp (slice_cmp nat_cmp) q name ≡ true).
    let same : Some form ≡ Some found = sym (cond-true (eq_by_cmp (slice_cmp nat_cmp) q name) (Some form) (finite.get forms q) t) ∙ is in
    inl (one_name q name t, cc))
    (λ (t : eq_by_cmp (slice_cmp nat_cmp) q name ≡ false).
    inr (sym (cond-false (eq_by_cmp (slice_cmp nat_cmp) q name) (Some form) (finite.get forms q) t) ∙ is))
    (cases_Bool (eq_by_cmp (slice_cmp nat_cmp) q name))

pub found_of_taken : (forms : Forms) (name q : List ℕ) (found : Form) → finite.get (finite.remove forms name) q ≡ Some found → finite.get forms q ≡ Some found
found_of_taken forms name q found there =
    let is : cond (eq_by_cmp (slice_cmp nat_cmp) q name) None (finite.get forms q) ≡ Some found = sym (finite.get-remove nat_list_cmp_total forms name q) ∙ there in
    ⊎_elim
    (λ (t : eq_by_cmp (slice_cmp nat_cmp) q name ≡ true).
    absurd (let none : None ≡ Some found = sym (cond-true (eq_by_cmp (slice_cmp nat_cmp) q name) None (finite.get forms q) t) ∙ is in cc))
    (λ (t : eq_by_cmp (slice_cmp nat_cmp) q name ≡ false).
    sym (cond-false (eq_by_cmp (slice_cmp nat_cmp) q name) None (finite.get forms q) t) ∙ is)
    (cases_Bool (eq_by_cmp (slice_cmp nat_cmp) q name))

pub len-put_again : (forms : Forms) (name : List ℕ) (old new : Form) → finite.get forms name ≡ Some old → finite.len (finite.insert forms name new) ≡ finite.len forms
len-put_again forms name old new there =
    finite.len-insert nat_list_cmp_total forms name new ∙ ap (λ (o : Option Form). cond (is_some o) (finite.len forms) (finite.len forms + 1)) there

pub len-taken : (forms : Forms) (name : List ℕ) → finite.len (finite.remove forms name) ≤ finite.len forms
len-taken forms name = go (finite.contains_key forms name) (finite.len-remove nat_list_cmp_total forms name)
  where
    go : (there : Bool) → finite.len (finite.remove forms name) ≡ cond there (finite.len forms - 1) (finite.len forms) →
        finite.len (finite.remove forms name) ≤ finite.len forms
    go true e = omega (arith, e)
    go false e = omega (arith, e)
