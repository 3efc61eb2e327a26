-- Positions in a text.
use Rattle.std.specs.Prelude.{ℕ, zero, suc, ◌+◌, ◌-◌, ◌^◌, ◌==◌, ◌&&◌, ◌||◌, not, ltb, min, List, [], ◌∷◌}
use Rattle.std.specs.Prelude.{length, take, drop, get_or, sum_by, if◌then◌else◌, Bool}
use Rattle.trac_rules.specs.declared.byte.TheConstants.{CARRIAGE_RETURN, LINE_FEED}
use Rattle.trac_documents.specs.declared.positions.Encoding.{Encoding}
use Rattle.trac_documents.specs.declared.positions.Encoding.TheVariants.{Utf8, Utf16}
use Rattle.trac_documents.specs.declared.positions.Position.{Position}

-- ---- lines

-- whether a line ends with a byte that these bytes follow: a line feed, or a carriage return that none follows
abbrev pub ends_before : ℕ → List ℕ → Bool
ends_before b rest = (b == LINE_FEED) || ((b == CARRIAGE_RETURN) && not (get_or rest 0 0 == LINE_FEED))

-- whether a line ends with the byte at this place
abbrev pub ends_line : List ℕ → ℕ → Bool
ends_line text place = ends_before (get_or text place 0) (drop (place + 1) text)

-- how many bytes stand before the line of this number; all, if there are fewer lines
abbrev pub before_line : ℕ → List ℕ → ℕ
before_line zero text = 0
before_line (suc n) [] = 0
before_line (suc n) (b ∷ rest) = suc (before_line (if ends_before b rest then n else suc n) rest)

-- how many lines end in the first bytes
abbrev pub lines_before : ℕ → List ℕ → ℕ
lines_before zero text = 0
lines_before (suc k) [] = 0
lines_before (suc k) (b ∷ rest) = (if ends_before b rest then 1 else 0) + lines_before k rest

-- ---- characters

-- whether a byte belongs to a line's end
abbrev pub is_line_end : ℕ → Bool
is_line_end b = (b == LINE_FEED) || (b == CARRIAGE_RETURN)

-- how many units a character has of which this is the first byte; none, if it is a later one
abbrev pub units : Encoding → ℕ → ℕ
units Utf8 b =
    if ltb b 128 then 1 else (if ltb b 192 then 0 else (if ltb b 224 then 2 else (if ltb b 240 then 3 else 4)))
units Utf16 b = if ltb b 128 then 1 else (if ltb b 192 then 0 else (if ltb b 240 then 1 else 2))

-- how many units bytes make
abbrev pub units_of : Encoding → List ℕ → ℕ
units_of encoding bytes = sum_by (units encoding) bytes

-- how many bytes of the first line make so many units at most, in whole characters
abbrev pub bytes_within : Encoding → ℕ → List ℕ → ℕ
bytes_within encoding most [] = 0
bytes_within encoding most (b ∷ rest) =
    if is_line_end b || ltb most (units encoding b) then 0
    else suc (bytes_within encoding (most - units encoding b) rest)

-- ---- both

-- how many bytes stand before a position
abbrev pub offset_of : List ℕ → Encoding → Position → ℕ
offset_of text encoding position =
    before_line position.line text
    + bytes_within encoding position.character (drop (before_line position.line text) text)

-- the place in this line before which so many bytes stand. Its number has 64 bits
abbrev pub position_at : List ℕ → Encoding → ℕ → ℕ → Position
position_at text encoding offset line = record {
  line = line;
  character = min (units_of encoding (drop (before_line line text) (take offset text))) (2 ^ 64 - 1);
}

-- the position before which so many bytes stand
abbrev pub position_of : List ℕ → Encoding → ℕ → Position
position_of text encoding offset =
    position_at text encoding (min offset (length text)) (lines_before (min offset (length text)) text)
