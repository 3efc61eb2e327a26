-- The lines of a header, and the length that they announce.
use Rattle.std.proofs.Common.{◌≡◌, ℕ, suc, ◌+◌, ◌-◌, ◌*◌, ◌^◌, ◌<◌, ◌≤◌, ◌&&◌, Bool, true, false, List, [], ◌∷◌, length, take, drop, get_or, map, refl, sym, ap, ◌∙◌, arith, inl, inr, ⊎_elim}
use Rattle.std.specs.Prelude.{◌⊎◌, None, Option, Some, ltb, nat_le, ◌==◌}
use Rattle.std.specs.Char.{digit_value, is_ascii_digit, to_ascii_lowercase}
use Rattle.std.specs.List.{slice_split}
use Rattle.std.specs.Str.{all_ascii_digits}
use Rattle.std.specs.Str.Parse.{digits_value, digits_value_after}
use Rattle.std.proofs.lemmas.Bool.{and_from, and_left, and_right, cases_lt, cond-false, cond-true, false_from_ne_true, false≢true, le-leb, le-ltb, lt-ltb}
use Rattle.std.proofs.lemmas.List.{drop_more, length-map, length-take}
use Rattle.std.proofs.lemmas.Slice.Eq.{bytes_eq-Decides}
use Rattle.std.proofs.Math.Nat.{pow-le-pow_right, pow-suc}
use Rattle.trac_rules.specs.declared.byte.TheConstants.{LINE_FEED}
use Rattle.trac_streams.specs.Reading.{IsPlace}
use Rattle.trac_streams.proofs.Splitting.{split_at, split_none}
use Rattle.trac_messages.specs.declared.header.TheConstants.{DIGIT_LIMIT}
use Rattle.trac_messages.specs.Headers.{announced, first_length, is_length_field, length_field, length_in, number_of}

-- ---- lines

-- a line before others
pub first_line : (rest : List ℕ) (place : ℕ) → IsPlace LINE_FEED rest (Some place) →
    announced rest ≡ first_length (take place rest ∷ slice_split (λ b. b == LINE_FEED) (drop (place + 1) rest))
first_line rest place found =
    ap announced found.2 ∙ ap first_length (split_at (λ b. b == LINE_FEED) (take place rest) LINE_FEED (drop (place + 1) rest) found.1 refl)

pub line_announces : (rest : List ℕ) (place len : ℕ) → IsPlace LINE_FEED rest (Some place) → length_in (take place rest) ≡ Some len → announced rest ≡ Some len
line_announces rest place len found is =
    first_line rest place found ∙ by_line (length_in (take place rest)) is
  where
    later : Option ℕ
    later = announced (drop (place + 1) rest)

    by_line : (first : Option ℕ) → first ≡ Some len → first_length (take place rest ∷ slice_split (λ b. b == LINE_FEED) (drop (place + 1) rest)) ≡ Some len
    by_line first e = rw is refl

pub line_announces_nothing : (rest : List ℕ) (place : ℕ) → IsPlace LINE_FEED rest (Some place) → length_in (take place rest) ≡ None → announced rest ≡ announced (drop (place + 1) rest)
line_announces_nothing rest place found is = first_line rest place found ∙ rw is refl

pub last_line : (rest : List ℕ) → IsPlace LINE_FEED rest None → announced rest ≡ length_in rest
last_line rest none = ap first_length (split_none (λ b. b == LINE_FEED) rest none) ∙ alone (length_in rest) refl
  where
    alone : (len : Option ℕ) → length_in rest ≡ len → first_length (rest ∷ []) ≡ length_in rest
    alone None is = rw is refl
    alone (Some n) is = rw is refl

-- ---- digits

-- what a digit is worth
worth : (b : ℕ) → 48 ≤ b → b ≤ 57 → digit_value b ≡ b - 48
worth b low high =
    let not_below : ltb b 48 ≡ false = le-ltb b 48 low in
    let below : ltb b 58 ≡ true = lt-ltb b 58 (omega arith) in
    rw (not_below, below) refl

-- a digit more
pub value_more : (word : List ℕ) (i number digit n : ℕ) → i < length word → 48 ≤ get_or word i 0 → get_or word i 0 ≤ 57 → digit ≡ get_or word i 0 - 48 →
    digits_value_after 10 number (drop i word) ≡ n → digits_value_after 10 (10 * number + digit) (drop (i + 1) word) ≡ n
value_more word i number digit n l low high is value =
    let sum : 10 * number + digit ≡ number * 10 + digit_value (get_or word i 0) = omega (arith, is, worth (get_or word i 0) low high) in
    ap (λ m. digits_value_after 10 m (drop (i + 1) word)) sum ∙ sym (ap (digits_value_after 10 number) (drop_more word i 0 l)) ∙ value

-- a word of no byte, or of too many, or with another byte, writes no number
pub no_number : (word : List ℕ) → (nat_le 1 (length word) ≡ false) ⊎ ((nat_le (length word) DIGIT_LIMIT ≡ false) ⊎ (all_ascii_digits word ≡ false)) → None ≡ number_of word
no_number word why =
    sym (cond-false (nat_le 1 (length word) && nat_le (length word) DIGIT_LIMIT && all_ascii_digits word) (Some (digits_value 10 word)) None (fails why))
  where
    fails : (nat_le 1 (length word) ≡ false) ⊎ ((nat_le (length word) DIGIT_LIMIT ≡ false) ⊎ (all_ascii_digits word ≡ false)) →
        (nat_le 1 (length word) && nat_le (length word) DIGIT_LIMIT && all_ascii_digits word) ≡ false
    fails (inl e) = and_left (nat_le 1 (length word) && nat_le (length word) DIGIT_LIMIT) (all_ascii_digits word) (and_left (nat_le 1 (length word)) (nat_le (length word) DIGIT_LIMIT) e)
    fails (inr (inl e)) = and_left (nat_le 1 (length word) && nat_le (length word) DIGIT_LIMIT) (all_ascii_digits word) (and_right (nat_le 1 (length word)) (nat_le (length word) DIGIT_LIMIT) e)
    fails (inr (inr e)) = and_right (nat_le 1 (length word) && nat_le (length word) DIGIT_LIMIT) (all_ascii_digits word) e

pub some_number : (word : List ℕ) (number : ℕ) → 1 ≤ length word → length word ≤ DIGIT_LIMIT → all_ascii_digits word ≡ true → number ≡ digits_value 10 word → Some number ≡ number_of word
some_number word number some few all is =
    ap Some is
    ∙ sym (cond-true (nat_le 1 (length word) && nat_le (length word) DIGIT_LIMIT && all_ascii_digits word) (Some (digits_value 10 word)) None
    (and_from (nat_le 1 (length word) && nat_le (length word) DIGIT_LIMIT) (all_ascii_digits word)
    (and_from (nat_le 1 (length word)) (nat_le (length word) DIGIT_LIMIT) (le-leb 1 (length word) some) (le-leb (length word) DIGIT_LIMIT few)) all))

-- a number of few digits fits, with one digit more
pub fits_more : (i number digit : ℕ) → i < DIGIT_LIMIT → number < 10 ^ i → digit ≤ 9 → 10 * number + digit < 2 ^ 64
fits_more i number digit few small low =
    let within : i ≤ 14 = omega arith in
    let most : 10 ^ i ≤ 10 ^ 14 = pow-le-pow_right {n = 10} (omega arith) within in
    omega (arith, most)

-- it stays small
pub small_more : (i number digit : ℕ) → digit ≤ 9 → number < 10 ^ i → 10 * number + digit < 10 ^ (i + 1)
small_more i number digit few small =
    let next : i + 1 ≡ suc i = omega arith in
    let grows : 10 ^ (i + 1) ≡ 10 ^ i * 10 = ap (λ n. 10 ^ n) next ∙ pow-suc 10 i in
    omega arith

-- ---- the field

-- a line that is too short does not begin so
pub short_line : (line : List ℕ) → length line < length length_field → is_length_field line ≡ false
short_line line short = false_from_ne_true (is_length_field line) (λ e.
    let same = (bytes_eq-Decides (map to_ascii_lowercase (take (length length_field) line)) (map to_ascii_lowercase length_field)).0 e in
    omega (arith, ap length same, length-map (take (length length_field) line) to_ascii_lowercase, length-map length_field to_ascii_lowercase, length-take (length length_field) line))

pub long_line : (line : List ℕ) → is_length_field line ≡ true → length length_field ≤ length line
long_line line is = ⊎_elim
    (λ (short : length line < length length_field). absurd (false≢true (sym (short_line line short) ∙ is)))
    (λ (long : length length_field ≤ length line). long)
    (cases_lt (length line) (length length_field))
