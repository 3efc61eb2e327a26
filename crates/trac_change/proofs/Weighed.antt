-- Forms with their names, one after another, and what they weigh.
use Rattle.std.proofs.Common.{◌≡◌, ℕ, ◌+◌, ◌<◌, List, ◌∷◌, [], length, drop, get_or, zero, suc, ap, sym, ◌∙◌, arith, Vec}
use Rattle.std.proofs.lemmas.List.{at_drop_more}
use Rattle.std.specs.Prelude.{Some, slice_get}
use Rattle.trac_rules.specs.Form.{Form, all_items}
use Rattle.trac_rules.specs.State.{Held}
use Rattle.trac_rules.specs.Weights.{held_weight}
use Rattle.trac_change.specs.Changed.{named_forms}

-- what stands at a place, and what stands after it
pub next_held : (held : Held) (i : ℕ) (entry : List ℕ × Form) → slice_get held i ≡ Some entry → drop i held ≡ entry ∷ drop (i + 1) held
next_held [] i entry is = absurd (cc)
next_held (first ∷ held) zero entry is = ap (λ (e : List ℕ × Form). e ∷ held) (let same : first ≡ entry = cc in same)
next_held (first ∷ held) (suc i) entry is =
    let e : suc (i + 1) ≡ suc i + 1 = omega arith in
    next_held held i entry is ∙ ap (λ k. entry ∷ drop k (first ∷ held)) e

-- the next form of a block
pub held_next : (held : Held) (i : ℕ) {entry : List ℕ × Form} → slice_get held i ≡ Some entry →
    held_weight (drop i held) ≡ length (all_items entry.1) + length entry.0 + 1 + held_weight (drop (i + 1) held)
held_next held i {entry} is = ap held_weight (next_held held i entry is)

-- the next of forms of the code
pub forms_next : {A : Type 0} (forms : List (Vec ℕ A × Form)) (i : ℕ) {entry : Vec ℕ A × Form} → i < length forms → entry ≡ get_or forms i entry →
    held_weight (named_forms (drop i forms)) ≡ length (all_items entry.1) + length entry.0.items + 1 + held_weight (named_forms (drop (i + 1) forms))
forms_next forms i {entry} within is =
    at_drop_more (λ es. held_weight (named_forms es)) forms i entry within
    ∙ ap (λ e. length (all_items e.1) + length e.0.items + 1 + held_weight (named_forms (drop (i + 1) forms))) (sym is)
