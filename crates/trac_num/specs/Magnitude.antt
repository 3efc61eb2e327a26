-- The digits of a number without its sign, as two numbers are compared by them.
use Rattle.std.specs.Prelude.{◌≡◌, ◌≢◌, ◌<◌, ℕ, List, length, slice_index, true}
use Rattle.std.specs.Str.{all_ascii_digits, byte}
use Rattle.std.specs.Str.Parse.{digits_value, without_leading_sign}

-- digits alone, of which the first is not `0`
pub record IsMagnitude (digits : List ℕ) : Type 0 where
  pub all_digits : all_ascii_digits digits ≡ true
  pub no_zero : 0 < length digits → slice_index digits 0 ≢ byte "0"

-- such digits that write the same number as those of the numeral
pub record IsMagnitudeOf (numeral digits : List ℕ) : Type 0 where
  pub form : IsMagnitude digits
  pub value : digits_value 10 digits ≡ digits_value 10 (without_leading_sign numeral)
