-- What a text begins with.
use Rattle.std.specs.Prelude.{◌≡◌, ℕ, List, ◌++◌}

-- a text that another one begins with
abbrev pub IsFrontOf : List ℕ → List ℕ → Type 0
IsFrontOf front text = (rest : List ℕ) × (text ≡ front ++ rest)
