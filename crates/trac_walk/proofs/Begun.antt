-- Walks that begin anew.
use Rattle.std.proofs.Common.{◌≡◌, ℕ, Bool, List, subst}
use Rattle.trac_rules.specs.declared.width.Width.{Width}
use Rattle.trac_moves.specs.declared.walker.Walker.{Walker}
use Rattle.trac_moves.specs.Walkers.{Stands}

-- a walker at the start of these bytes is one at the start of those that are the same, and whose end is told alike
pub at_same : {A : Type 0} (bytes given : List ℕ) (is ended : Bool) (width : Width) (w : Walker A) → bytes ≡ given → is ≡ ended →
    Stands (record { bytes = bytes; ended = is }) width 0 w → Stands (record { bytes = given; ended = ended }) width 0 w
at_same bytes given is ended width w same alike s =
    subst (λ (all : List ℕ). Stands (record { bytes = all; ended = ended }) width 0 w) same
    (subst (λ (end : Bool). Stands (record { bytes = bytes; ended = end }) width 0 w) alike s)
