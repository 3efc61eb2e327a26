use Rattle.std.proofs.Common.{◌≡◌, ℕ, zero, suc, ◌-◌, List, [], get_or, refl, ap, arith}
use Rattle.trac_rules.specs.Filling.{text_numbered}

-- texts are numbered from 1 on
numbered : (n : ℕ) (texts : List (List ℕ)) → (n ≡ 0 → ⊥) → get_or texts (n - 1) [] ≡ text_numbered n texts
numbered zero texts some = absurd (some refl)
numbered (suc k) texts some = ap (λ (j : ℕ). get_or texts j []) (omega arith)
