-- The rows of the way of a byte.
use Rattle.std.specs.Prelude.{◌≡◌, ◌≢◌, ℕ, ◌+◌, ◌-◌, ◌^◌, min, List, [], ◌++◌, length, codes, decimal}
use Rattle.std.specs.List.{flat_map}
use Rattle.trac_origins.specs.Places.{Place, InActive, InBase, InArgument, InForm, InHeld, InOutput}
use Rattle.trac_follow.specs.declared.tracing.End.{End}
use Rattle.trac_follow.specs.declared.tracing.End.TheVariants.{Nothing, Earlier, Read, Made, Untold}
use Rattle.trac_follow.specs.Passing.{Passing}
use Rattle.trac_streams.specs.Escapes.{feed}
use Rattle.trac_web_requests.specs.declared.rows.Rows.{Rows}

-- a space, and a number in decimal
abbrev pub field : ℕ → List ℕ
field n = codes " " ++ decimal n

-- a word, and a number
abbrev pub word_field : List ℕ → ℕ → List ℕ
word_field word n = word ++ field n

-- the name of a form comes last, after how long it is: so it may have any bytes
abbrev pub name_field : List ℕ → List ℕ
name_field name = field (length name) ++ (codes " " ++ name)

-- a place, when so many bytes of the output are released. Those of the output are counted from the start of the
-- program, as far as 64 bits count
abbrev pub place_field : ℕ → Place → List ℕ
place_field released (InActive i) = word_field (codes " active") i
place_field released (InBase i) = word_field (codes " base") i
place_field released (InArgument function argument byte) =
    word_field (codes " argument") function ++ (field argument ++ field byte)
place_field released (InForm name i) = word_field (codes " form") i ++ name_field name
place_field released (InHeld number name i) = word_field (codes " held") number ++ (field i ++ name_field name)
place_field released (InOutput i) = word_field (codes " output") (min (released + i) (2 ^ 64 - 1))

-- what a call did with a byte that is here after it
abbrev pub deed_field : Place → List ℕ
deed_field (InOutput i) = codes " prints"
deed_field (InForm name i) = codes " sets"
deed_field (InHeld number name i) = codes " sets"
deed_field place = codes " gives"

-- the row of a call that passed a byte on: the number of its step, what it did, and the place from
-- which the byte is followed to it
abbrev pub row : ℕ → ℕ → Passing → List ℕ
row step released call =
    decimal (step - call.steps) ++ (deed_field call.from ++ (place_field released call.from ++ feed))

-- the rows of these calls
abbrev pub rows_of : ℕ → ℕ → List Passing → List ℕ
rows_of step released calls = flat_map (row step released) calls

-- the rows so far are those of these calls
pub record HasRows {A : Type 0} (step released : ℕ) (calls : List Passing) (rows : Rows A) : Type 0 where
  pub begins : rows.step ≡ step
  pub after : rows.released ≡ released
  pub text : rows.text.items ≡ rows_of step released calls

-- after one call more there is its row, after those before
pub record AddsRow {A : Type 0} (old : Rows A) (call : Passing) (new : Rows A) : Type 0 where
  pub begins : new.step ≡ old.step
  pub after : new.released ≡ old.released
  pub text : new.text.items ≡ old.text.items ++ row old.step old.released call

-- so it is after a trace, unless memory was refused for a row
abbrev pub AreRows : {A : Type 0} → ℕ → ℕ → List Passing → End → Rows A → Type 0
AreRows step released calls end rows = end ≢ Untold → HasRows step released calls rows
