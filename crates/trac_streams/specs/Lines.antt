-- The lines of a text of commands.
use Rattle.std.specs.Prelude.{ℕ, ◌-◌, ◌==◌, List, [], ◌∷◌, length, map, take, if◌then◌else◌, nat_eq, nat_le, Bool}
use Rattle.std.specs.List.{ends_with, onto_first}
use Rattle.trac_rules.specs.declared.byte.TheConstants.{CARRIAGE_RETURN, LINE_FEED}
use Rattle.trac_rules.specs.Bytes.{count_of}
use Rattle.trac_streams.specs.declared.lines.TheConstants.{LINE_LIMIT}

-- what stands between line feeds. A line feed ends a line, and so does the end of the text; a line feed at the very end
-- begins no line. `onto_first` puts a byte before the first line, and makes a line of it if there is none
abbrev pub between_feeds : List ℕ → List (List ℕ)
between_feeds [] = []
between_feeds (b ∷ rest) = if b == LINE_FEED then [] ∷ between_feeds rest else onto_first b (between_feeds rest)

-- a line without the one carriage return at its end, if there is one
abbrev pub without_return : List ℕ → List ℕ
without_return line = if ends_with nat_eq line (CARRIAGE_RETURN ∷ []) then take (length line - 1) line else line

-- the lines of a text
abbrev pub lines_of : List ℕ → List (List ℕ)
lines_of text = map without_return (between_feeds text)

-- how many line feeds a text has
abbrev pub feed_count : List ℕ → ℕ
feed_count text = count_of LINE_FEED text

-- whether a line has no more bytes than a line may have
abbrev pub is_within : List ℕ → Bool
is_within line = nat_le (length line) LINE_LIMIT
