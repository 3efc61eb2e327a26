-- Listing the names of forms. Their order is this project's profile.
use Rattle.std.specs.Prelude.{ℕ, List, ◌++◌}
use Rattle.std.specs.List.{flat_map}
use Rattle.std.specs.FinMap as map
use Rattle.trac_rules.specs.State.{Forms}

-- the names of the forms, rising by their bytes
abbrev pub names_of : Forms → List (List ℕ)
names_of forms = map.keys forms

-- the names, each with a text before it
abbrev pub listed : List ℕ → Forms → List ℕ
listed text forms = flat_map (λ name. text ++ name) (names_of forms)
