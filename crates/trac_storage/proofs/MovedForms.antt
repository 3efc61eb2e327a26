-- Forms that are moved into a block one after another.
use Rattle.std.proofs.Common.{◌≡◌, ℕ, Bool, true, false, cond, ◌||◌, List, [], ◌∷◌, ◌++◌, refl, sym, ap, ◌∙◌, ⊎_elim}
use Rattle.std.specs.Prelude.{None, Some, bytes_eq}
use Rattle.std.specs.FinMap as finite
use Rattle.std.specs.List.{list_any}
use Rattle.std.proofs.lemmas.Bool.{cases_Bool}
use Rattle.std.proofs.lemmas.List.{append_assoc}
use Rattle.std.proofs.lemmas.List.Folds.{list_any-append}
use Rattle.trac_forms.specs.Stored.{Names}
use Rattle.trac_rules.specs.Blocks.{moved_out, with_name}
use Rattle.trac_rules.specs.Form.{Form}
use Rattle.trac_rules.specs.State.{Forms, Held}
use Rattle.trac_rules.proofs.Found.{taken_get}
use Rattle.trac_storage.specs.Changing.{AreAmong, KnowsNamed}

-- ---- forms that leave

-- a form of this name is held
abbrev pub holds : List ℕ → Held → Bool
holds name held = list_any (λ entry. bytes_eq name entry.0) held

-- no name of a form that is held has a form
abbrev pub HaveLeft : Held → Forms → Type 0
HaveLeft held forms = (q : List ℕ) → holds q held ≡ true → finite.get forms q ≡ None

-- nothing held comes back where a form is taken
pub still_left : (held : Held) (forms : Forms) (name : List ℕ) → HaveLeft held forms → HaveLeft held (finite.remove forms name)
still_left held forms name left q t = taken_get forms name q ∙ either (bytes_eq q name)
  where
    either : (b : Bool) → cond b None (finite.get forms q) ≡ None
    either true = refl
    either false = left q t

-- one of two is so, and it is not the second
first_of_two : (a b : Bool) → (a || (b || false)) ≡ true → b ≡ false → a ≡ true
first_of_two true b e unset = refl
first_of_two false false e unset = e
first_of_two false true e unset = sym unset

-- and the form that is taken may be held
pub left_too : (held : Held) (forms : Forms) (name : List ℕ) (form : Form) → HaveLeft held forms → HaveLeft (held ++ (name, form) ∷ []) (finite.remove forms name)
left_too held forms name form left q t =
    taken_get forms name q
    ∙ ⊎_elim
    (λ (same : bytes_eq q name ≡ true). rw same refl)
    (λ (other : bytes_eq q name ≡ false).
    let either : (holds q held || (bytes_eq q name || false)) ≡ true = sym (list_any-append (λ (entry : List ℕ × Form). bytes_eq q entry.0) held ((name, form) ∷ [])) ∙ t in
    rw other (left q (first_of_two (holds q held) (bytes_eq q name) either other)))
    (cases_Bool (bytes_eq q name))

-- a form that is taken is the next one that moves
pub moves_next : (held : Held) (forms : Forms) (name : List ℕ) (form : Form) (names : List (List ℕ)) (all : Held) → Some form ≡ finite.get forms name →
    held ++ moved_out (name ∷ names) forms ≡ all → (held ++ (name, form) ∷ []) ++ moved_out names (finite.remove forms name) ≡ all
moves_next held forms name form names all there so_far =
    append_assoc held ((name, form) ∷ []) (moved_out names (finite.remove forms name))
    ∙ ap (λ found. held ++ (with_name name found ++ moved_out names (finite.remove forms name))) there
    ∙ so_far

-- a name without a form moves nothing
pub moves_none : (held : Held) (forms : Forms) (name : List ℕ) (names : List (List ℕ)) (all : Held) → None ≡ finite.get forms name →
    held ++ moved_out (name ∷ names) forms ≡ all → held ++ moved_out names (finite.remove forms name) ≡ all
moves_none held forms name names all missing so_far =
    ap (λ found. held ++ (with_name name found ++ moved_out names (finite.remove forms name))) missing ∙ so_far

-- names that are known stay so
pub knows_still : (held : Held) (known more : Names) → AreAmong known more → KnowsNamed held known → KnowsNamed held more
knows_still [] known more among knows = tt
knows_still (entry ∷ held) known more among knows = (among entry.0 knows.0, knows_still held known more among knows.1)
