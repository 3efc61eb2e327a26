-- Numbers: the numeral at the end of a text, the whole number that it writes, and arithmetic within the range of
-- numbers. This range, how quotients are cut, and that numbers of any size are compared is this project's profile.
use Rattle.std.specs.Prelude.{◌≡◌, ◌⊎◌, ◌<◌, ◌≤◌, ℕ, ◌-◌, ◌^◌, ℤ, pos, neg_ℤ, ◌+ℤ◌, ◌-ℤ◌, ◌*ℤ◌, int_lt, int_le, int_div}
use Rattle.std.specs.Prelude.{unsigned_abs, List, [], ◌++◌, length, take, nat_lt, if◌then◌else◌, Bool, true, ◌&&◌}
use Rattle.std.specs.Prelude.{Option, None, Some}
use Rattle.std.specs.Fmt.{signed_decimal}
use Rattle.std.specs.Ordering.{int_eq}
use Rattle.std.specs.Str.{all_ascii_digits}
use Rattle.std.specs.Str.Parse.{signed_digits_value, without_leading_sign}
use Rattle.trac_rules.specs.declared.width.Width.{Width}
use Rattle.trac_rules.specs.declared.width.Width.TheVariants.{W64, W128}
use Rattle.trac_rules.specs.Bytes.{longest_tail}

-- ---- numerals

-- an optional `+` or `-`, and then at least one digit
abbrev pub is_numeral : List ℕ → Bool
is_numeral text = nat_lt 0 (length (without_leading_sign text)) && all_ascii_digits (without_leading_sign text)

-- the numeral of a text is its longest tail of this form
unfoldable pub numeral_of : List ℕ → List ℕ
numeral_of text = longest_tail is_numeral text

-- what a numeral of a text can be: one of this form, or empty
abbrev pub IsNumeralOrNull : List ℕ → Type 0
IsNumeralOrNull numeral = (numeral ≡ []) ⊎ (is_numeral numeral ≡ true)

-- what stands before the numeral
unfoldable pub prefix_of : List ℕ → List ℕ
prefix_of text = take (length text - length (numeral_of text)) text

-- the whole number that a numeral, or empty in place of one, writes; empty writes 0
unfoldable pub whole_number : List ℕ → ℤ
whole_number numeral = signed_digits_value 10 numeral

-- ---- the range

-- the numbers of a width lie from minus this bound to one below it; no other definition knows how wide a number is
abbrev pub number_bound : Width → ℕ
number_bound W64 = 2 ^ 63
number_bound W128 = 2 ^ 127

abbrev pub fits : Width → ℤ → Bool
fits width n = int_le (neg_ℤ (pos (number_bound width))) n && int_lt n (pos (number_bound width))

-- a number of the range, and none in place of any other
abbrev pub if_fits : Width → ℤ → Option ℤ
if_fits width n = if fits width n then Some n else None

-- the number that a numeral, or empty in place of one, writes, if it fits
unfoldable pub number_of : Width → List ℕ → Option ℤ
number_of width numeral = if_fits width (whole_number numeral)

-- ---- arithmetic: a result, if it fits

unfoldable pub sum_of : Width → ℤ → ℤ → Option ℤ
sum_of width a b = if_fits width (a +ℤ b)

unfoldable pub difference_of : Width → ℤ → ℤ → Option ℤ
difference_of width a b = if_fits width (a -ℤ b)

unfoldable pub product_of : Width → ℤ → ℤ → Option ℤ
product_of width a b = if_fits width (a *ℤ b)

-- cut toward zero; none for a divisor of 0
unfoldable pub quotient_of : Width → ℤ → ℤ → Option ℤ
quotient_of width a b = if int_eq b (pos 0) then None else if_fits width (int_div a b)

-- q is a by b, cut toward zero, as a law says it of `quotient_of`: what remains of a is smaller in size than b, and q
-- times b goes no further from zero than a
pub record IsCutQuotient (a b q : ℤ) : Type 0 where
  pub remainder : ℤ
  pub whole : a ≡ q *ℤ b +ℤ remainder
  pub smaller : unsigned_abs remainder < unsigned_abs b
  pub within : unsigned_abs (q *ℤ b) ≤ unsigned_abs a

-- the number of the first numeral is the greater one, whether they fit or not
unfoldable pub is_greater : List ℕ → List ℕ → Bool
is_greater a b = int_lt (whole_number b) (whole_number a)

-- ---- texts

-- a number in decimal: `-` if it is negative, no `+` and no leading zeros
abbrev pub number_text : ℤ → List ℕ
number_text n = signed_decimal n

-- an operation on two numbers; none if one of them is missing
abbrev pub on_both : (ℤ → ℤ → Option ℤ) → Option ℤ → Option ℤ → Option ℤ
on_both operation None b = None
on_both operation (Some a) None = None
on_both operation (Some a) (Some b) = operation a b

-- a result after a prefix; none if there is no result
abbrev pub after_prefix : List ℕ → Option ℤ → Option (List ℕ)
after_prefix prefix (Some n) = Some (prefix ++ number_text n)
after_prefix prefix None = None

-- the prefix of the first text, and then the result of an operation on the numbers of both, all three of one width.
-- None if a number does not fit, or there is no result
unfoldable pub calculated : (Width → ℤ → ℤ → Option ℤ) → Width → List ℕ → List ℕ → Option (List ℕ)
calculated operation width first second = after_prefix (prefix_of first)
    (on_both (operation width) (number_of width (numeral_of first)) (number_of width (numeral_of second)))
