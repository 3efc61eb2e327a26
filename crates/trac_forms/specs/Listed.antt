-- Names in a list, each with a text before it, and the byte of a number in that.
use Rattle.std.specs.Prelude.{◌≡◌, ℕ, ◌+◌, ◌<◌, List, [], ◌∷◌, length, take, Some, slice_get}

-- how long names are together, each with a text of this length before it
abbrev pub listed_len : ℕ → List (List ℕ) → ℕ
listed_len text [] = 0
listed_len text (name ∷ names) = text + length name + listed_len text names

-- the byte of number `i` is the one that has so many bytes of a name's text and name before it
pub record IsListed (names : List (List ℕ)) (text i byte : ℕ) : Type 0 where
  pub number : ℕ
  pub name : List ℕ
  pub there : slice_get names number ≡ Some name
  pub place : listed_len text (take number names) + byte ≡ i
  pub within : byte < text + length name
