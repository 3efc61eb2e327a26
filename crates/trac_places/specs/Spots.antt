-- Places in files: a line and a column, both counted from 1.
use Rattle.std.specs.Prelude.{◌≡◌, ◌⊎◌, ◌+◌, ℕ, ◌==◌, List, [], ◌++◌, length}
use Rattle.std.specs.List.{filter}
use Rattle.trac_rules.specs.declared.byte.TheConstants.{LINE_FEED}
use Rattle.trac_streams.specs.Escapes.{feed}
use Rattle.trac_places.specs.declared.sources.Spot.{Spot}

-- how many line feeds a text has
abbrev pub feeds_in : List ℕ → ℕ
feeds_in text = length (filter (λ b. b == LINE_FEED) text)

-- where the byte stands before which a file has these: they are whole lines, and so many bytes of its own line
pub record IsSpot (before : List ℕ) (line column : ℕ) : Type 0 where
  pub lines : List ℕ
  pub own : List ℕ
  pub both : before ≡ lines ++ own
  pub whole : (lines ≡ []) ⊎ ((text : List ℕ) × (lines ≡ text ++ feed))
  pub unbroken : feeds_in own ≡ 0
  pub line_number : line ≡ 1 + feeds_in lines
  pub column_number : column ≡ 1 + length own

-- such a place, in a file of this name
abbrev pub IsSpotIn : List ℕ → List ℕ → Spot → Type 0
IsSpotIn name before spot = (spot.name.now ≡ name) × IsSpot before spot.line spot.column
