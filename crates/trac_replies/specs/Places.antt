-- Steps to go back to, the latest last.
use Rattle.std.specs.Prelude.{◌≡◌, ◌≢◌, ◌<◌, ◌≤◌, ◌+◌, ◌++◌, ◌==◌, ◌⊎◌, ℕ, List, [], ◌∷◌, Option, None, Some, length}
use Rattle.std.specs.Prelude.{take, slice_index, if◌then◌else◌}

-- the places with a further one, unless the walk stands there
abbrev pub with_place : ℕ → ℕ → List ℕ → List ℕ
with_place place step places = if place == step then places else places ++ place ∷ []

-- from this number on all places are the step at which the walk stands, or steps before the first one that is kept
abbrev pub ArePassed : ℕ → ℕ → List ℕ → ℕ → Type 0
ArePassed step first places n =
    (k : ℕ) → n ≤ k → k < length places → (slice_index places k ≡ step) ⊎ (slice_index places k < first)

-- the latest place that is another step than this, and is kept, is the one of this number
abbrev pub IsLatest : ℕ → ℕ → List ℕ → ℕ → Type 0
IsLatest step first places n = (n < length places) × (slice_index places n ≢ step) × (first ≤ slice_index places n)
    × ArePassed step first places (n + 1)

-- the latest such place is taken, and those before it are left; without one none is left
abbrev pub IsTaken : ℕ → ℕ → List ℕ → Option ℕ → List ℕ → Type 0
IsTaken step first old None new = (new ≡ []) × ArePassed step first old 0
IsTaken step first old (Some place) new =
    IsLatest step first old (length new) × (place ≡ slice_index old (length new)) × (new ≡ take (length new) old)
