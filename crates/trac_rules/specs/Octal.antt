-- Octal strings: texts of the digits `0` to `7`, which stand for lists of bits. Which one a text has is this project's
-- profile.
use Rattle.std.specs.Prelude.{ℕ, suc, ◌+◌, ◌-◌, ◌/◌, ◌%◌, ◌==◌, ◌&&◌, ◌||◌, not, nat_le, min, max, ℤ, pos, negsuc, Bool}
use Rattle.std.specs.Prelude.{false, List, [], ◌∷◌, ◌++◌, length, take, drop, replicate, map, zip, flat_map, IsTrue}
use Rattle.std.specs.Prelude.{if◌then◌else◌}
use Rattle.std.specs.List.{list_all}
use Rattle.trac_rules.specs.Bytes.{longest_tail}
use Rattle.trac_rules.specs.declared.octals.TheConstants.{ZERO, SEVEN}

-- ---- texts

abbrev pub is_octal_digit : ℕ → Bool
is_octal_digit b = nat_le ZERO b && nat_le b SEVEN

-- every byte of the text is an octal digit
abbrev pub is_octal : List ℕ → Bool
is_octal text = list_all is_octal_digit text

abbrev pub IsOctal : List ℕ → Type 0
IsOctal text = IsTrue (is_octal text)

-- the octal string of a text: its longest tail of octal digits
abbrev pub octal_tail : List ℕ → List ℕ
octal_tail text = longest_tail is_octal text

-- ---- bits

abbrev pub is_odd : ℕ → Bool
is_odd n = n % 2 == 1

-- the three bits of a digit, the greatest first
abbrev pub digit_bits : ℕ → List Bool
digit_bits b = let value = b - ZERO in is_odd (value / 4) ∷ is_odd (value / 2) ∷ is_odd value ∷ []

-- the bits of a text, three a digit
abbrev pub bits_of : List ℕ → List Bool
bits_of text = flat_map digit_bits text

-- the digit of three bits
abbrev pub digit_of : Bool → Bool → Bool → ℕ
digit_of four two one = ZERO + (if four then 4 else 0) + (if two then 2 else 0) + (if one then 1 else 0)

-- the text of a list of bits, a digit for each three; bits left over at the end have none
abbrev pub text_of : List Bool → List ℕ
text_of (four ∷ two ∷ one ∷ bits) = digit_of four two one ∷ text_of bits
text_of bits = []

-- ---- operations on lists of bits

-- with zeros before it up to n bits; as it is if it has as many or more
abbrev pub widened : ℕ → List Bool → List Bool
widened n bits = replicate (n - length bits) false ++ bits

-- the last n bits, or all if there are fewer
abbrev pub last_bits : ℕ → List Bool → List Bool
last_bits n bits = drop (length bits - n) bits

-- bitwise or, lined up at the right: the shorter gets zeros at its left
abbrev pub union : List Bool → List Bool → List Bool
union a b = let n = max (length a) (length b) in map (λ p. p.0 || p.1) (zip (widened n a) (widened n b))

-- bitwise and, lined up at the right: the longer loses bits at its left
abbrev pub meet : List Bool → List Bool → List Bool
meet a b = let n = min (length a) (length b) in map (λ p. p.0 && p.1) (zip (last_bits n a) (last_bits n b))

-- each bit turned over
abbrev pub complement : List Bool → List Bool
complement bits = map not bits

-- n places to the left; zeros come in at the right, and the length stays
abbrev pub shifted_left : ℕ → List Bool → List Bool
shifted_left n bits = drop n bits ++ replicate (min n (length bits)) false

-- n places to the right; zeros come in at the left, and the length stays
abbrev pub shifted_right : ℕ → List Bool → List Bool
shifted_right n bits = replicate (min n (length bits)) false ++ take (length bits - n) bits

-- moved by so many places, to the left if positive: `negsuc n` is -(n + 1)
abbrev pub shift : ℤ → List Bool → List Bool
shift (pos n) bits = shifted_left n bits
shift (negsuc n) bits = shifted_right (suc n) bits

-- n places to the left, a multiple of the length making no difference; what leaves at the left comes in at the right
abbrev pub rotated_left : ℕ → List Bool → List Bool
rotated_left n bits = let k = n % length bits in drop k bits ++ take k bits

-- n places to the right, a multiple of the length making no difference; what leaves at the right comes in at the left
abbrev pub rotated_right : ℕ → List Bool → List Bool
rotated_right n bits = let k = length bits - n % length bits in drop k bits ++ take k bits

-- rotated by so many places, to the left if positive
abbrev pub rotate : ℤ → List Bool → List Bool
rotate (pos n) bits = rotated_left n bits
rotate (negsuc n) bits = rotated_right (suc n) bits
