-- Texts that go on from what they held, item by item.
use Rattle.std.proofs.Common.{◌≡◌, ℕ, List, ◌++◌, ap, ◌∙◌}
use Rattle.std.specs.Prelude.{Result, Ok, Err, OnErr}
use Rattle.std.proofs.lemmas.List.{append_assoc}
use Rattle.trac_rules.specs.Fronts.{IsFrontOf}

-- what holds, holds on an error
pub on_err : {T E P : Type 0} (r : Result T E) → P → OnErr r P
on_err (Ok x) p = tt
on_err (Err e) p = p

-- what goes on from a text that went on
pub goes_on : (old xs middle new : List ℕ) → middle ≡ old ++ xs → IsFrontOf middle new → IsFrontOf old new
goes_on old xs middle new e h = (xs ++ h.0, h.1 ∙ ap (λ m. m ++ h.0) e ∙ append_assoc old xs h.0)
