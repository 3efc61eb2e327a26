-- The bits of what is made digit by digit.
use Rattle.std.proofs.Common.{◌≡◌, ℕ, ◌+◌, ◌-◌, ◌*◌, ◌≤◌, Bool, true, false, List, [], ◌∷◌, ◌++◌, length, take, drop, replicate, map, refl, sym, ap, ◌∙◌, arith}
use Rattle.std.specs.Prelude.{◌&&◌, ◌||◌, not, min, max, bit_and, bit_or, bit_xor}
use Rattle.std.proofs.Math.Bool.{or_comm}
use Rattle.std.proofs.lemmas.Bool.{and_parts, and_from}
use Rattle.std.proofs.lemmas.List.{length-append, length-replicate, length-drop, take-append-drop}
use Rattle.trac_rules.specs.Octal.{IsOctal, bits_of, complement, digit_bits, is_octal, is_octal_digit, last_bits, meet, union}
use Rattle.trac_num.proofs.Pairs.{pairwise, pairwise-append, pairwise_all, pairwise_comm, or_zeros}
use Rattle.trac_num.proofs.OctalDigits.{four, two, one, digit_bits-digit_of, digit_of_is_octal, or_of_digits, and_of_digits, not_of_digit}
use Rattle.trac_num.proofs.Bits.{bits_of-append, bits_of-drop, length-bits_of, octal-append, octal-drop, octal_parts}

-- ---- digits of two texts of one length

-- a function of digits that does to their bits what another does
record IsBitwise (f : ℕ → ℕ → ℕ) (g : Bool → Bool → Bool) : Type 0 where
  digit : (x y : ℕ) → is_octal_digit x ≡ true → is_octal_digit y ≡ true → is_octal_digit (f x y) ≡ true
  bits : (x y : ℕ) → is_octal_digit x ≡ true → is_octal_digit y ≡ true → digit_bits (f x y) ≡ g (four x) (four y) ∷ g (two x) (two y) ∷ g (one x) (one y) ∷ []

or_is_bitwise : IsBitwise bit_or ◌||◌
or_is_bitwise = record {
  digit = λ x y hx hy. ap is_octal_digit (or_of_digits x y hx hy) ∙ digit_of_is_octal (four x || four y) (two x || two y) (one x || one y);
  bits = λ x y hx hy. ap digit_bits (or_of_digits x y hx hy) ∙ digit_bits-digit_of (four x || four y) (two x || two y) (one x || one y);
}

and_is_bitwise : IsBitwise bit_and ◌&&◌
and_is_bitwise = record {
  digit = λ x y hx hy. ap is_octal_digit (and_of_digits x y hx hy) ∙ digit_of_is_octal (four x && four y) (two x && two y) (one x && one y);
  bits = λ x y hx hy. ap digit_bits (and_of_digits x y hx hy) ∙ digit_bits-digit_of (four x && four y) (two x && two y) (one x && one y);
}

bits_of-pairwise : (f : ℕ → ℕ → ℕ) (g : Bool → Bool → Bool) → IsBitwise f g → (xs ys : List ℕ) → IsOctal xs → IsOctal ys → length xs ≡ length ys → bits_of (pairwise f xs ys) ≡ pairwise g (bits_of xs) (bits_of ys)
bits_of-pairwise f g b [] [] hx hy e = refl
bits_of-pairwise f g b [] (y ∷ ys) hx hy e = absurd (omega arith)
bits_of-pairwise f g b (x ∷ xs) [] hx hy e = absurd (omega arith)
bits_of-pairwise f g b (x ∷ xs) (y ∷ ys) hx hy e =
    let px = and_parts (is_octal_digit x) (is_octal xs) hx in
    let py = and_parts (is_octal_digit y) (is_octal ys) hy in
    ap (λ t. t ++ bits_of (pairwise f xs ys)) (b.bits x y px.0 py.0)
    ∙ ap (λ t. g (four x) (four y) ∷ g (two x) (two y) ∷ g (one x) (one y) ∷ t) (bits_of-pairwise f g b xs ys px.1 py.1 (omega arith))

octal-pairwise : (f : ℕ → ℕ → ℕ) (g : Bool → Bool → Bool) → IsBitwise f g → (xs ys : List ℕ) → IsOctal xs → IsOctal ys → IsOctal (pairwise f xs ys)
octal-pairwise f g b [] ys hx hy = refl
octal-pairwise f g b (x ∷ xs) [] hx hy = refl
octal-pairwise f g b (x ∷ xs) (y ∷ ys) hx hy =
    let px = and_parts (is_octal_digit x) (is_octal xs) hx in
    let py = and_parts (is_octal_digit y) (is_octal ys) hy in
    and_from (is_octal_digit (f x y)) (is_octal (pairwise f xs ys)) (b.digit x y px.0 py.0) (octal-pairwise f g b xs ys px.1 py.1)

-- ---- or

-- the texts may change places
pub union_comm : (a b : List Bool) → union a b ≡ union b a
union_comm a b =
    let same : max (length a) (length b) ≡ max (length b) (length a) = omega arith in
    rw same (pairwise_comm ◌||◌ or_comm _ _)

-- with one that is shorter by n bits
union_of_wider : (a b : List Bool) (n : ℕ) → length b + n ≡ length a → union a b ≡ pairwise ◌||◌ a (replicate n false ++ b)
union_of_wider a b n e =
    let widest : max (length a) (length b) ≡ length a = omega (arith, e) in
    let none : length a - length a ≡ 0 = omega arith in
    let gap : length a - length b ≡ n = omega (arith, e) in
    rw (widest, none, gap) refl

-- the left part of the longer stays, and the rest is joined with the shorter
pub bits_of-union : (left right short : List ℕ) → length right ≡ length short → IsOctal (left ++ right) → IsOctal short → bits_of (left ++ pairwise bit_or right short) ≡ union (bits_of (left ++ right)) (bits_of short)
bits_of-union left right short e hl hs =
    let parts = octal_parts left right hl in
    let zeros : List Bool = replicate (length (bits_of left)) false in
    let lengths : length (bits_of short) + length (bits_of left) ≡ length (bits_of (left ++ right)) =
    omega (arith, e, length-bits_of short, length-bits_of left, length-bits_of (left ++ right), length-append left right) in
    bits_of-append left (pairwise bit_or right short)
    ∙ ap (λ t. bits_of left ++ t) (bits_of-pairwise bit_or ◌||◌ or_is_bitwise right short parts.1 hs e)
    ∙ ap (λ t. t ++ pairwise ◌||◌ (bits_of right) (bits_of short)) (sym (or_zeros (bits_of left)))
    ∙ sym (pairwise-append ◌||◌ (bits_of left) (bits_of right) zeros (bits_of short) (sym (length-replicate (length (bits_of left)) false)))
    ∙ ap (λ t. pairwise ◌||◌ t (zeros ++ bits_of short)) (sym (bits_of-append left right))
    ∙ sym (union_of_wider (bits_of (left ++ right)) (bits_of short) (length (bits_of left)) lengths)

pub octal-union : (left right short : List ℕ) → IsOctal (left ++ right) → IsOctal short → IsOctal (left ++ pairwise bit_or right short)
octal-union left right short hl hs =
    let parts = octal_parts left right hl in
    octal-append left (pairwise bit_or right short) parts.0 (octal-pairwise bit_or ◌||◌ or_is_bitwise right short parts.1 hs)

-- ---- and

last_digits : (a : List ℕ) (n m : ℕ) → m ≡ 3 * n → n ≤ length a → bits_of (drop (length a - n) a) ≡ last_bits m (bits_of a)
last_digits a n m e l =
    let cut : 3 * (length a - n) ≡ length (bits_of a) - m = omega (arith, e, l, length-bits_of a) in
    bits_of-drop (length a - n) a ∙ ap (λ k. drop k (bits_of a)) cut

-- the last digits of the longer meet the shorter
pub bits_of-meet : (a b : List ℕ) (n : ℕ) → n ≡ min (length a) (length b) → IsOctal a → IsOctal b → bits_of (pairwise bit_and (drop (length a - n) a) (drop (length b - n) b)) ≡ meet (bits_of a) (bits_of b)
bits_of-meet a b n e ha hb =
    let common : min (length (bits_of a)) (length (bits_of b)) ≡ 3 * n = omega (arith, e, length-bits_of a, length-bits_of b) in
    let la : n ≤ length a = omega (arith, e) in
    let lb : n ≤ length b = omega (arith, e) in
    let same : length (drop (length a - n) a) ≡ length (drop (length b - n) b) = omega (arith, la, lb, length-drop (length a - n) a, length-drop (length b - n) b) in
    bits_of-pairwise bit_and ◌&&◌ and_is_bitwise (drop (length a - n) a) (drop (length b - n) b) (octal-drop (length a - n) a ha) (octal-drop (length b - n) b hb) same
    ∙ ap (λ t. pairwise ◌&&◌ t (bits_of (drop (length b - n) b))) (last_digits a n (min (length (bits_of a)) (length (bits_of b))) common la)
    ∙ ap (λ t. pairwise ◌&&◌ (last_bits (min (length (bits_of a)) (length (bits_of b))) (bits_of a)) t) (last_digits b n (min (length (bits_of a)) (length (bits_of b))) common lb)

pub octal-met : (a b : List ℕ) (n : ℕ) → IsOctal a → IsOctal b → IsOctal (pairwise bit_and (drop (length a - n) a) (drop (length b - n) b))
octal-met a b n ha hb =
    octal-pairwise bit_and ◌&&◌ and_is_bitwise (drop (length a - n) a) (drop (length b - n) b) (octal-drop (length a - n) a ha) (octal-drop (length b - n) b hb)

-- ---- not

-- a digit with its bits turned over
abbrev pub flipped : ℕ → ℕ
flipped x = bit_xor x 7

pub bits_of-complement : (xs : List ℕ) → IsOctal xs → bits_of (map flipped xs) ≡ complement (bits_of xs)
bits_of-complement [] h = refl
bits_of-complement (x ∷ xs) h =
    let parts = and_parts (is_octal_digit x) (is_octal xs) h in
    ap (λ t. t ++ bits_of (map flipped xs)) (ap digit_bits (not_of_digit x parts.0) ∙ digit_bits-digit_of (not (four x)) (not (two x)) (not (one x)))
    ∙ ap (λ t. not (four x) ∷ not (two x) ∷ not (one x) ∷ t) (bits_of-complement xs parts.1)

pub octal-complement : (xs : List ℕ) → IsOctal xs → IsOctal (map flipped xs)
octal-complement [] h = refl
octal-complement (x ∷ xs) h =
    let parts = and_parts (is_octal_digit x) (is_octal xs) h in
    let digit : is_octal_digit (flipped x) ≡ true = ap is_octal_digit (not_of_digit x parts.0) ∙ digit_of_is_octal (not (four x)) (not (two x)) (not (one x)) in
    and_from (is_octal_digit (flipped x)) (is_octal (map flipped xs)) digit (octal-complement xs parts.1)

-- ---- what the loops have made

-- the last digits of two texts, as many as the shorter has, are as many
pub same_length : (a b first second : List ℕ) (n : ℕ) → n ≡ min (length a) (length b) → first ≡ drop (length a - n) a → second ≡ drop (length b - n) b → length first ≡ length second
same_length a b first second n e f s =
    omega (arith, e, ap length f, ap length s, length-drop (length a - n) a, length-drop (length b - n) b)

-- all digits are met
pub met : (a b items first second : List ℕ) (n i : ℕ) → n ≡ min (length a) (length b) → first ≡ drop (length a - n) a → second ≡ drop (length b - n) b → length first ≤ i →
    items ≡ pairwise bit_and (take i first) (take i second) → items ≡ pairwise bit_and (drop (length a - n) a) (drop (length b - n) b)
met a b items first second n i e f s l h =
    h ∙ pairwise_all bit_and first second i (same_length a b first second n e f s) l ∙ rw (f, s) refl

-- all digits are joined
pub joined : (long short items right : List ℕ) (n i : ℕ) → n + length short ≡ length long → right ≡ drop n long → length short ≤ i →
    items ≡ take n long ++ pairwise bit_or (take i right) (take i short) → items ≡ take n long ++ pairwise bit_or (drop n long) short
joined long short items right n i e r l h =
    let same : length right ≡ length short = omega (arith, e, ap length r, length-drop n long) in
    h ∙ ap (λ t. take n long ++ t) (pairwise_all bit_or right short i same (omega (arith, same, l)) ∙ ap (λ t. pairwise bit_or t short) r)

-- which is the union
pub bits_of-joined : (long short : List ℕ) (n : ℕ) → n + length short ≡ length long → IsOctal long → IsOctal short → bits_of (take n long ++ pairwise bit_or (drop n long) short) ≡ union (bits_of long) (bits_of short)
bits_of-joined long short n e hl hs =
    bits_of-union (take n long) (drop n long) short (omega (arith, e, length-drop n long)) (ap is_octal (take-append-drop n long) ∙ hl) hs
    ∙ ap (λ t. union (bits_of t) (bits_of short)) (take-append-drop n long)

pub octal-joined : (long short : List ℕ) (n : ℕ) → IsOctal long → IsOctal short → IsOctal (take n long ++ pairwise bit_or (drop n long) short)
octal-joined long short n hl hs = octal-union (take n long) (drop n long) short (ap is_octal (take-append-drop n long) ∙ hl) hs
