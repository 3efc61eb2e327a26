-- How bytes, texts and numbers are shown.
use Rattle.std.specs.Prelude.{ℕ, ◌/◌, ◌%◌, ◌==◌, ◌&&◌, ◌||◌, not, nat_le, List, [], ◌∷◌, ◌++◌, if◌then◌else◌, Bool}
use Rattle.std.specs.Prelude.{codes, decimal}
use Rattle.std.specs.Char.{digit_char}
use Rattle.std.specs.List.{flat_map}
use Rattle.trac_rules.specs.declared.byte.TheConstants.{LINE_FEED}

-- whether a byte is shown as itself: 32 to 126, but for `[`, `\` and `]`
abbrev pub is_shown : ℕ → Bool
is_shown b = nat_le 32 b && nat_le b 126 && not ((b == 91) || (b == 92) || (b == 93))

-- a byte as itself, or as `\x` and two hexadecimal digits, in lower case
abbrev pub escaped_byte : ℕ → List ℕ
escaped_byte b = if is_shown b then b ∷ [] else codes "\\x" ++ (digit_char (b / 16) ∷ digit_char (b % 16) ∷ [])

-- a text byte by byte
abbrev pub escaped : List ℕ → List ℕ
escaped text = flat_map escaped_byte text

-- a text in brackets
abbrev pub bracketed : List ℕ → List ℕ
bracketed text = codes "[" ++ (escaped text ++ codes "]")

-- ---- lines

-- what ends each line
abbrev pub feed : List ℕ
feed = LINE_FEED ∷ []

-- a word, and a text in brackets
abbrev pub text_line : List ℕ → List ℕ → List ℕ
text_line word text = word ++ (codes " " ++ (bracketed text ++ feed))

-- a word, and a number
abbrev pub number_line : List ℕ → ℕ → List ℕ
number_line word n = word ++ (codes " " ++ (decimal n ++ feed))
