-- The first line of a text.
use Rattle.std.specs.Prelude.{ℕ, ◌+◌, ◌==◌, Bool, List, length, position, unwrap_or}
use Rattle.std.specs.Option.{option_map}

-- whether a byte is a line feed
abbrev pub is_line_feed : ℕ → Bool
is_line_feed x = x == 10

-- how many bytes the first line has, with its line feed; without one all bytes are one line
abbrev pub first_line_len : List ℕ → ℕ
first_line_len xs = unwrap_or (option_map (λ at. at + 1) (position is_line_feed xs)) (length xs)
