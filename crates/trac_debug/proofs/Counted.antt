-- Digits, one more at a time.
use Rattle.std.proofs.Common.{◌≡◌, ℕ, zero, suc, ◌+◌, ◌-◌, ◌*◌, ◌^◌, ◌<◌, ◌≤◌, ◌&&◌, Bool, true, false, List, [], ◌∷◌, ◌++◌, length, take, get_or, refl, sym, ap, ◌∙◌, arith}
use Rattle.std.specs.Bool.{◌==◌}
use Rattle.std.specs.Prelude.{None, Some, nat_le, ltb}
use Rattle.std.specs.Char.{digit_value, is_ascii_digit}
use Rattle.std.specs.Str.{all_ascii_digits}
use Rattle.std.specs.Str.Parse.{digits_value}
use Rattle.std.proofs.Math.Nat.{pow-suc}
use Rattle.std.proofs.lemmas.Bool.{cond-false, cond-true, le-leb, lt-ltb, le-ltb}
use Rattle.std.proofs.lemmas.Int.Digits.{digits_value_more}
use Rattle.std.proofs.lemmas.List.{take_all, take_more}
use Rattle.trac_debug.specs.declared.command.TheConstants.{DIGIT_LIMIT}
use Rattle.trac_debug.specs.Commands.{count_of}

-- nothing is true beside what is false
with_false : (b : Bool) → (b && false) ≡ false
with_false true = refl
with_false false = refl

-- where one byte is no digit, not all are
not_all : (word : List ℕ) (i : ℕ) → i < length word → is_ascii_digit (get_or word i 0) ≡ false → all_ascii_digits word ≡ false
not_all [] i l not_one = absurd (omega arith)
not_all (b ∷ bs) zero l not_one = ap (λ t. t && all_ascii_digits bs) not_one
not_all (b ∷ bs) (suc i) l not_one = ap (λ t. is_ascii_digit b && t) (not_all bs i (omega arith) not_one) ∙ with_false (is_ascii_digit b)

all_append : (bs : List ℕ) (b : ℕ) → all_ascii_digits bs ≡ true → is_ascii_digit b ≡ true → all_ascii_digits (bs ++ b ∷ []) ≡ true
all_append [] b all one = ap (λ t. t && true) one
all_append (x ∷ xs) b all one =
    let parts = both (is_ascii_digit x) (all_ascii_digits xs) all in
    ap (λ t. t && all_ascii_digits (xs ++ b ∷ [])) parts.0 ∙ all_append xs b parts.1 one
  where
    both : (p q : Bool) → (p && q) ≡ true → (p ≡ true) × (q ≡ true)
    both true q h = (refl, h)
    both false q h = absurd (cc)

-- one digit more
pub all_more : (word : List ℕ) (i : ℕ) → i < length word → all_ascii_digits (take i word) ≡ true → is_ascii_digit (get_or word i 0) ≡ true → all_ascii_digits (take (i + 1) word) ≡ true
all_more word i l all one = ap all_ascii_digits (take_more word i 0 l) ∙ all_append (take i word) (get_or word i 0) all one

-- a word with another byte in it writes no number
pub no_count : (word : List ℕ) (i : ℕ) → i < length word → is_ascii_digit (get_or word i 0) ≡ false → count_of word ≡ None
no_count word i l not_one =
    cond-false (nat_le 1 (length word) && nat_le (length word) DIGIT_LIMIT && all_ascii_digits word) (Some (digits_value 10 word)) None
    (ap (λ t. nat_le 1 (length word) && nat_le (length word) DIGIT_LIMIT && t) (not_all word i l not_one) ∙ with_false (nat_le 1 (length word) && nat_le (length word) DIGIT_LIMIT))

-- what a digit is worth
worth : (b : ℕ) → 48 ≤ b → b ≤ 57 → digit_value b ≡ b - 48
worth b low high =
    let not_below : ltb b 48 ≡ false = le-ltb b 48 low in
    let below : ltb b 58 ≡ true = lt-ltb b 58 (omega arith) in
    rw (not_below, below) refl

-- the number with one digit more
pub value_more : (word : List ℕ) (i number digit : ℕ) → i < length word → 48 ≤ get_or word i 0 → get_or word i 0 ≤ 57 → number ≡ digits_value 10 (take i word) → digit ≡ get_or word i 0 - 48 →
    10 * number + digit ≡ digits_value 10 (take (i + 1) word)
value_more word i number digit l low high is one = omega (arith, digits_value_more 10 word i l, worth (get_or word i 0) low high)

-- it stays small
pub small_more : (i number digit : ℕ) → digit ≤ 9 → number < 10 ^ i → 10 * number + digit < 10 ^ (i + 1)
small_more i number digit few small =
    let next : i + 1 ≡ suc i = omega arith in
    let grows : 10 ^ (i + 1) ≡ 10 ^ i * 10 = ap (λ n. 10 ^ n) next ∙ pow-suc 10 i in
    omega arith

some_bytes : (word : List ℕ) → (length word == 0) ≡ false → 1 ≤ length word
some_bytes [] filled = absurd (cc)
some_bytes (b ∷ bs) filled = omega arith

-- the number that a word of few digits writes
pub counted : (word : List ℕ) (i number : ℕ) → (length word == 0) ≡ false → length word ≤ DIGIT_LIMIT → length word ≤ i → number ≡ digits_value 10 (take i word) → all_ascii_digits (take i word) ≡ true →
    Some number ≡ count_of word
counted word i number filled few end value digits =
    let whole : take i word ≡ word = take_all i word end in
    let all : all_ascii_digits word ≡ true = ap all_ascii_digits (sym whole) ∙ digits in
    let fits : (nat_le 1 (length word) && nat_le (length word) DIGIT_LIMIT && all_ascii_digits word) ≡ true
    = ap (λ t. t && nat_le (length word) DIGIT_LIMIT && all_ascii_digits word) (le-leb 1 (length word) (some_bytes word filled))
    ∙ (ap (λ t. t && all_ascii_digits word) (le-leb (length word) DIGIT_LIMIT few) ∙ all) in
    ap Some (value ∙ ap (digits_value 10) whole)
    ∙ sym (cond-true (nat_le 1 (length word) && nat_le (length word) DIGIT_LIMIT && all_ascii_digits word) (Some (digits_value 10 word)) None fits)
