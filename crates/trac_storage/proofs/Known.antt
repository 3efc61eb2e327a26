-- Names that are known.
use Rattle.std.proofs.Common.{◌≡◌, ℕ, List, [], ◌∷◌, refl, sym, ap, subst, ◌∙◌, IsTrue}
use Rattle.std.specs.Prelude.{Option, None, Some, Result, Ok, Err, OnErr, OnOk}
use Rattle.std.proofs.lemmas.Bool.{or_right}
use Rattle.std.specs.Cmp.Lexicographic.{slice_cmp, nat_list_cmp_total}
use Rattle.std.specs.FinSet as set
use Rattle.std.specs.Ordering.{nat_cmp, eq_by_cmp}
use Rattle.trac_forms.specs.Stored.{Names}
use Rattle.trac_forms.proofs.Tables.{known_then}
use Rattle.trac_rules.specs.Form.{Form}
use Rattle.trac_rules.specs.State.{Held}
use Rattle.trac_rules.specs.Undone.{names_in}
use Rattle.trac_storage.specs.Changing.{AreAmong, KnowsNamed, KnowsSome, knowing}
use Rattle.trac_storage.specs.Returning.{recent_back}

-- one more name
pub among_more : (known more : Names) (name : List ℕ) → more ≡ set.insert known name → AreAmong known more
among_more known more name is = λ q h.
    ap (λ (names : Names). set.contains names q) is ∙ set.contains-insert nat_list_cmp_total known name q ∙ or_right (eq_by_cmp (slice_cmp nat_cmp) q name) (set.contains known q) h

-- and several
pub stay_known : (names : List (List ℕ)) (known : Names) → AreAmong known (knowing names known)
stay_known [] known = λ q h. h
stay_known (name ∷ names) known = λ q h. stay_known names (set.insert known name) q (among_more known (set.insert known name) name refl q h)

-- the names of forms are known then
pub are_known : (held : Held) (known : Names) → KnowsNamed held (knowing (names_in held) known)
are_known [] known = tt
are_known (entry ∷ held) known =
    (stay_known (names_in held) (set.insert known entry.0) entry.0 (known_then known entry.0), are_known held (set.insert known entry.0))

-- no name became known
pub knows_same : (names : List (List ℕ)) (known same : Names) → same ≡ known → KnowsSome names known same
knows_same names known same is = (
  λ q h. subst (λ (ns : Names). IsTrue (set.contains ns q)) (sym is) h,
  λ q h. stay_known names known q (subst (λ (ns : Names). IsTrue (set.contains ns q)) is h),
)

-- nor was one lost
pub among_same : (names same : Names) → same ≡ names → AreAmong names same
among_same names same is = λ q h. subst (λ (ns : Names). IsTrue (set.contains ns q)) (sym is) h

-- a form is put back, or none
pub among_back : (name : List ℕ) (old : Option Form) (recent : Names) → AreAmong recent (recent_back name old recent)
among_back name None recent = λ q h. h
among_back name (Some form) recent = among_more recent (set.insert recent name) name refl

-- whether the call was refused or not
pub same_names : {X E : Type 0} (result : Result X E) {known same : Names} → same ≡ known → OnOk result (same ≡ known) × OnErr result (KnowsSome [] known same)
same_names (Ok x) is = (is, tt)
same_names (Err e) {known} {same} is = (tt, knows_same [] known same is)

-- no name is forgotten, whether all became known or some
pub none_forgotten : {X E : Type 0} (result : Result X E) (names : List (List ℕ)) (known new : Names) → OnOk result (new ≡ knowing names known) → OnErr result (KnowsSome names known new) → AreAmong known new
none_forgotten (Ok x) names known new all some = λ q h. subst (λ (ns : Names). IsTrue (set.contains ns q)) (sym all) (stay_known names known q h)
none_forgotten (Err e) names known new all some = some.0
