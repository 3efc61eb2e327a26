-- What is kept of begun functions weighs as much as its first part and the rest.
use Rattle.std.proofs.Common.{◌≡◌, ◌+◌, ◌-◌, ◌<◌, List, [], ◌∷◌, length, drop, get_or, suc, ℕ, add-one, drop-cons, sym, ap, ◌∙◌, arith}
use Rattle.std.proofs.lemmas.List.{length-append}
use Rattle.trac_rules.specs.declared.kind.Kind.{Kind}
use Rattle.trac_rules.specs.Limits.{total_length}
use Rattle.trac_rules.specs.Weights.{frames_weight}
use Rattle.trac_rules.proofs.Bounded.{total_length-append}
use Rattle.trac_text.specs.Pieces.{Arguments, all_texts, frames_in}

-- the next begun function
pub functions_next : (functions : List (Kind × Arguments)) (i : ℕ) {kind : Kind} {a : Arguments} → i < length functions → (kind, a) ≡ get_or functions i (kind, a) →
    frames_weight (frames_in (drop i functions)) ≡ total_length (all_texts a) + (length (all_texts a) - 1) + 1 + frames_weight (frames_in (drop (i + 1) functions))
functions_next functions i {kind} {a} within is =
    let cut : drop i functions ≡ (kind, a) ∷ drop (i + 1) functions = rw add-one (drop-cons functions i (kind, a) within ∙ ap (λ (f : Kind × Arguments). f ∷ drop (suc i) functions) (sym is)) in
    ap (λ (fs : List (Kind × Arguments)). frames_weight (frames_in fs)) cut ∙ omega (arith, total_length-append a.finished a.gathered, length-append a.finished (a.gathered ∷ []))
