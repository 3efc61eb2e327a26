-- What the header of a frame says.
use Rattle.std.specs.Prelude.{ℕ, ◌+◌, ◌<◌, ◌≤◌, ◌==◌, ◌&&◌, nat_le, List, [], ◌∷◌, length, take, drop, if◌then◌else◌}
use Rattle.std.specs.Prelude.{Bool}
use Rattle.std.specs.Prelude.{Option, None, Some, codes}
use Rattle.std.specs.List.{slice_split}
use Rattle.std.specs.Str.{all_ascii_digits, str_eq_ignore_ascii_case}
use Rattle.std.specs.Str.Parse.{digits_value}
use Rattle.trac_rules.specs.declared.byte.TheConstants.{CARRIAGE_RETURN, LINE_FEED}
use Rattle.trac_rules.specs.Segmenting.{leftmost}
use Rattle.trac_streams.specs.Lines.{without_return}
use Rattle.trac_messages.specs.declared.header.TheConstants.{DIGIT_LIMIT, HEADER_LIMIT}
use Rattle.trac_messages.specs.declared.header.Heading.{Heading}
use Rattle.trac_messages.specs.declared.header.Heading.TheVariants.{Open, Silent, Announces}

-- what ends a header: the end of its last line, and an empty line
abbrev pub header_end : List ℕ
header_end = CARRIAGE_RETURN ∷ LINE_FEED ∷ CARRIAGE_RETURN ∷ LINE_FEED ∷ []

-- what the line begins with that announces a length
abbrev pub length_field : List ℕ
length_field = codes "Content-Length: "

-- whether a line begins so, in either case of letters
abbrev pub is_length_field : List ℕ → Bool
is_length_field line = str_eq_ignore_ascii_case (take (length length_field) line) length_field

-- the number that 1 to 15 digits write
abbrev pub number_of : List ℕ → Option ℕ
number_of digits =
    if nat_le 1 (length digits) && nat_le (length digits) DIGIT_LIMIT && all_ascii_digits digits
    then Some (digits_value 10 digits)
    else None

-- the length that a line announces
abbrev pub length_in : List ℕ → Option ℕ
length_in line =
    if is_length_field line then number_of (without_return (drop (length length_field) line)) else None

-- the first of those that some lines announce
abbrev pub first_length : List (List ℕ) → Option ℕ
first_length [] = None
first_length (line ∷ lines) = or_later (length_in line) (first_length lines)
  where
    or_later : Option ℕ → Option ℕ → Option ℕ
    or_later None later = later
    or_later (Some len) later = Some len

-- the length that a header announces, the empty line after it left out
abbrev pub announced : List ℕ → Option ℕ
announced header = first_length (slice_split (λ b. b == LINE_FEED) header)

-- a header of this size, which announces this
abbrev pub heading_by : ℕ → Option ℕ → Heading
heading_by size None = Silent size
heading_by size (Some len) = Announces size len

-- what these bytes say, if the header ends at this place of them
abbrev pub heading_at : Option ℕ → List ℕ → Heading
heading_at None front = if nat_le HEADER_LIMIT (length front) then Silent HEADER_LIMIT else Open
heading_at (Some place) front = heading_by (place + length header_end) (announced (take place front))

-- the same of bytes among which a header ends
abbrev pub heading_in : List ℕ → Heading
heading_in front = heading_at (leftmost header_end front) front

-- what the header says with which bytes begin
unfoldable pub heading_of : List ℕ → Heading
heading_of bytes = heading_in (take HEADER_LIMIT bytes)

-- of so many bytes the header has no more, and no more than a header may have
abbrev pub IsWithin : ℕ → Heading → Type 0
IsWithin n Open = n < HEADER_LIMIT
IsWithin n (Silent size) = (0 < size) × (size ≤ n)
IsWithin n (Announces size len) = (0 < size) × (size ≤ n) × (size ≤ HEADER_LIMIT)
