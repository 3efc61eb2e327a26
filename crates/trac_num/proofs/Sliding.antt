-- Bits that are moved to the left by a few places, and what that makes of texts with zeros or with their own digits beside them.
use Rattle.std.proofs.Common.{◌≡◌, ℕ, zero, suc, ◌+◌, ◌-◌, ◌*◌, ◌/◌, ◌%◌, ◌<◌, ◌≤◌, ◌⊎◌, Bool, true, false, List, [], ◌∷◌, ◌++◌, length, take, drop, get_or, set, replicate, refl, sym, ap, ◌∙◌, arith, inl, inr, ⊎_elim}
use Rattle.std.specs.Prelude.{min}
use Rattle.std.proofs.lemmas.Bool.{and_parts, and_from, cases_lt}
use Rattle.std.proofs.lemmas.List.{ext_get_or, get_or-take, get_or-drop, get_or_append_left, get_or-append_right, get_or_past, get_or_read, length-set, length-append, length-take, length-take-le, length-drop, length-replicate, drop-drop, drop_more, drop-set-lt, take_all, take_more_set}
use Rattle.std.proofs.lemmas.Nat.{div-add-mod', mod_below, mod-mul-add}
use Rattle.trac_rules.specs.declared.octals.TheConstants.{ZERO}
use Rattle.trac_rules.specs.Octal.{IsOctal, bits_of, digit_bits, is_octal, is_octal_digit, shifted_left, shifted_right}
use Rattle.trac_num.proofs.Bits.{bits_of-append, bits_of-drop, bits_of-take, bits_of-zeros, length-bits_of}

-- ---- one digit at a time

pub octal-set : (xs : List ℕ) (k d : ℕ) → IsOctal xs → is_octal_digit d ≡ true → IsOctal (set xs k d)
octal-set [] k d h digit = h
octal-set (x ∷ xs) zero d h digit =
    and_from (is_octal_digit d) (is_octal xs) digit (and_parts (is_octal_digit x) (is_octal xs) h).1
octal-set (x ∷ xs) (suc k) d h digit =
    let parts = and_parts (is_octal_digit x) (is_octal xs) h in
    and_from (is_octal_digit x) (is_octal (set xs k d)) parts.0 (octal-set xs k d parts.1 digit)

take-add : {X : Type 0} (m n : ℕ) (xs : List X) → take (m + n) xs ≡ take m xs ++ take n (drop m xs)
take-add zero n xs = let e : zero + n ≡ n = omega arith in rw e refl
take-add (suc m) zero [] = let e : suc m + zero ≡ suc m = omega arith in rw e refl
take-add (suc m) (suc n) [] = let e : suc m + suc n ≡ suc (m + suc n) = omega arith in rw e refl
take-add (suc m) n (x ∷ xs) = let e : suc m + n ≡ suc (m + n) = omega arith in rw e (ap (λ t. x ∷ t) (take-add m n xs))

three_of_two : (x y r : ℕ) (rest : List Bool) → r ≤ 3 → take 3 (drop r (digit_bits x ++ (digit_bits y ++ rest))) ≡ take 3 (drop r (digit_bits x ++ digit_bits y))
three_of_two x y zero rest l = refl
three_of_two x y (suc zero) rest l = refl
three_of_two x y (suc (suc zero)) rest l = refl
three_of_two x y (suc (suc (suc zero))) rest l = refl
three_of_two x y (suc (suc (suc (suc r)))) rest l = absurd (omega arith)

-- the three bits of a place, after r skipped ones, are those of two digits
bits_at : (s : List ℕ) (k r : ℕ) → k + 1 < length s → r ≤ 3 → take 3 (drop (3 * k) (drop r (bits_of s))) ≡ take 3 (drop r (digit_bits (get_or s k 0) ++ digit_bits (get_or s (k + 1) 0)))
bits_at s k r l w =
    let turn : r + 3 * k ≡ 3 * k + r = omega arith in
    let two_more : drop k s ≡ get_or s k 0 ∷ get_or s (k + 1) 0 ∷ drop (k + 1 + 1) s =
    drop_more s k 0 (omega (arith, l)) ∙ ap (λ t. get_or s k 0 ∷ t) (drop_more s (k + 1) 0 l) in
    ap (take 3) (drop-drop (3 * k) r (bits_of s) ∙ ap (λ n. drop n (bits_of s)) turn ∙ sym (drop-drop r (3 * k) (bits_of s))
    ∙ ap (drop r) (sym (bits_of-drop k s) ∙ ap bits_of two_more))
    ∙ three_of_two (get_or s k 0) (get_or s (k + 1) 0) r (bits_of (drop (k + 1 + 1) s)) w

-- the first k digits of v have the moved bits of s, and its other digits are those of s
pub record IsSlid (s v : List ℕ) (k r : ℕ) : Type 0 where
  pub same : length v ≡ length s
  pub octal : IsOctal v
  pub moved : bits_of (take k v) ≡ take (3 * k) (drop r (bits_of s))
  pub rest : drop k v ≡ drop k s

rest_at : (s v : List ℕ) (k j : ℕ) → drop k v ≡ drop k s → get_or v (k + j) 0 ≡ get_or s (k + j) 0
rest_at s v k j e = sym (get_or-drop k v j 0) ∙ ap (λ t. get_or t j 0) e ∙ get_or-drop k s j 0

-- one digit more
pub slid_more : (s v : List ℕ) (k r d : ℕ) → IsSlid s v k r → k + 1 < length s → r ≤ 3 → is_octal_digit d ≡ true →
    digit_bits d ≡ take 3 (drop r (digit_bits (get_or v k 0) ++ digit_bits (get_or v (k + 1) 0))) → IsSlid s (set v k d) (k + 1) r
slid_more s v k r d h l w digit e =
    let within : k < length v = omega (arith, l, h.same) in
    let here : get_or v k 0 ≡ get_or s k 0 = let at : k + 0 ≡ k = omega arith in rw at at (rest_at s v k 0 h.rest) in
    let there : get_or v (k + 1) 0 ≡ get_or s (k + 1) 0 = rest_at s v k 1 h.rest in
    let bits : digit_bits d ≡ take 3 (drop (3 * k) (drop r (bits_of s))) =
    rw (here, there) at e ∙ sym (bits_at s k r l w) in
    let next : 3 * k + 3 ≡ 3 * (k + 1) = omega arith in
    record {
      same = length-set v k d ∙ h.same;
      octal = octal-set v k d h.octal digit;
      moved = ap bits_of (take_more_set v k d within) ∙ bits_of-append (take k v) (d ∷ [])
          ∙ ap (λ t. t ++ digit_bits d) h.moved
          ∙ ap (λ t. take (3 * k) (drop r (bits_of s)) ++ t) bits
          ∙ sym (take-add (3 * k) 3 (drop r (bits_of s)))
          ∙ ap (λ n. take n (drop r (bits_of s))) next;
      rest = drop-set-lt (k + 1) v k d (omega arith) ∙ sym (drop-drop 1 k v) ∙ ap (drop 1) h.rest ∙ drop-drop 1 k s;
    }

-- ---- zeros

zeros_at : (m i : ℕ) → get_or (replicate m false) i false ≡ false
zeros_at zero i = refl
zeros_at (suc m) zero = refl
zeros_at (suc m) (suc i) = zeros_at m i

before_zeros : (xs : List Bool) (m i : ℕ) → get_or (xs ++ replicate m false) i false ≡ get_or xs i false
before_zeros [] m i = zeros_at m i
before_zeros (x ∷ xs) m zero = refl
before_zeros (x ∷ xs) m (suc i) = before_zeros xs m i

-- ---- to the left

left_at : (xs : List Bool) (n i : ℕ) → get_or (shifted_left n xs) i false ≡ get_or xs (n + i) false
left_at xs n i = before_zeros (drop n xs) (min n (length xs)) i ∙ get_or-drop n xs i false

-- the bits after the first c, zeros after them, and then r more to the left
left_by_parts : (xs : List Bool) (n c r m : ℕ) → c ≤ length xs → c + r ≤ m → (c + r ≡ n) ⊎ ((c ≡ length xs) × (length xs ≤ n)) →
    take (length xs) (drop r (drop c xs ++ replicate m false)) ≡ shifted_left n xs
left_by_parts xs n c r m within room how =
    ext_get_or false _ _ lengths (λ i l. at i (omega (arith, l, long)) ∙ sym (left_at xs n i))
  where
    source : List Bool
    source = drop c xs ++ replicate m false

    whole : length source ≡ length xs - c + m
    whole = length-append (drop c xs) (replicate m false) ∙ omega (arith, length-drop c xs, length-replicate m false)

    long : length (take (length xs) (drop r source)) ≡ length xs
    long = length-take-le (length xs) (drop r source) (omega (arith, within, room, whole, length-drop r source))

    lengths : length (take (length xs) (drop r source)) ≡ length (shifted_left n xs)
    lengths =
        long ∙ omega (arith, length-append (drop n xs) (replicate (min n (length xs)) false), length-drop n xs, length-replicate (min n (length xs)) false)

    at : (i : ℕ) → i < length xs → get_or (take (length xs) (drop r source)) i false ≡ get_or xs (n + i) false
    at i l =
        get_or-take (length xs) (drop r source) i false l ∙ get_or-drop r source i false
        ∙ before_zeros (drop c xs) m (r + i) ∙ get_or-drop c xs (r + i) false
        ∙ ⊎_elim
        (λ (e : c + r ≡ n). let same : c + (r + i) ≡ n + i = omega (arith, e) in ap (λ k. get_or xs k false) same)
        (λ (e : (c ≡ length xs) × (length xs ≤ n)).
        get_or_past xs (c + (r + i)) false (omega (arith, e.0)) ∙ sym (get_or_past xs (n + i) false (omega (arith, e.1))))
        how

-- a text without its lost digits, and with zeros in their place
pub shifted_left_by_digits : (a s : List ℕ) (n lost : ℕ) → lost ≡ min (length a) (n / 3) → s ≡ drop lost a ++ replicate (lost + 1) ZERO →
    take (3 * (length s - 1)) (drop (n % 3) (bits_of s)) ≡ shifted_left n (bits_of a)
shifted_left_by_digits a s n lost e is =
    ap (λ k. take k (drop (n % 3) (bits_of s))) count ∙ ap (λ t. take (length (bits_of a)) (drop (n % 3) t)) bits
    ∙ left_by_parts (bits_of a) n (3 * lost) (n % 3) (3 * (lost + 1)) (omega (arith, e, length-bits_of a)) (omega (arith, mod_below n 3 (omega arith))) how
  where
    length_of_s : length s ≡ length a + 1
    length_of_s = ap length is ∙ omega (arith, e, length-append (drop lost a) (replicate (lost + 1) ZERO), length-drop lost a, length-replicate (lost + 1) ZERO)

    count : 3 * (length s - 1) ≡ length (bits_of a)
    count = omega (arith, length_of_s, length-bits_of a)

    bits : bits_of s ≡ drop (3 * lost) (bits_of a) ++ replicate (3 * (lost + 1)) false
    bits =
        ap bits_of is ∙ bits_of-append (drop lost a) (replicate (lost + 1) ZERO)
        ∙ ap (λ t. t ++ bits_of (replicate (lost + 1) ZERO)) (bits_of-drop lost a)
        ∙ ap (λ t. drop (3 * lost) (bits_of a) ++ t) (bits_of-zeros (lost + 1))

    how : (3 * lost + n % 3 ≡ n) ⊎ ((3 * lost ≡ length (bits_of a)) × (length (bits_of a) ≤ n))
    how =
        ⊎_elim
        (λ (l : n / 3 < length a). inl (omega (arith, e, l, div-add-mod' n 3)))
        (λ (l : length a ≤ n / 3). inr (omega (arith, e, l, length-bits_of a), omega (arith, l, length-bits_of a, div-add-mod' n 3)))
        (cases_lt (n / 3) (length a))

-- ---- to the right

-- zeros before the first c bits, and then r to the left
right_by_parts : (xs : List Bool) (n c r m : ℕ) → c ≤ length xs → length xs + r ≤ m + c → r ≤ m → (m ≡ n + r) ⊎ ((length xs + r ≤ m) × (length xs ≤ n)) →
    take (length xs) (drop r (replicate m false ++ take c xs)) ≡ shifted_right n xs
right_by_parts xs n c r m within room fits how =
    ext_get_or false _ _ lengths (λ i l. at i (omega (arith, l, long)))
  where
    source : List Bool
    source = replicate m false ++ take c xs

    whole : length source ≡ m + c
    whole = length-append (replicate m false) (take c xs) ∙ omega (arith, length-replicate m false, length-take-le c xs within)

    long : length (take (length xs) (drop r source)) ≡ length xs
    long = length-take-le (length xs) (drop r source) (omega (arith, room, whole, length-drop r source))

    zeros : length (replicate (min n (length xs)) false) ≡ min n (length xs)
    zeros = length-replicate (min n (length xs)) false

    lengths : length (take (length xs) (drop r source)) ≡ length (shifted_right n xs)
    lengths =
        long ∙ omega (arith, length-append (replicate (min n (length xs)) false) (take (length xs - n) xs), zeros, length-take (length xs - n) xs)

    -- where a zero came in
    zero_at : (i : ℕ) → i < length xs → i < n → r + i < m → get_or (take (length xs) (drop r source)) i false ≡ get_or (shifted_right n xs) i false
    zero_at i l below front =
        get_or-take (length xs) (drop r source) i false l ∙ get_or-drop r source i false
        ∙ get_or_append_left (replicate m false) (take c xs) false (r + i) (omega (arith, front, length-replicate m false)) ∙ zeros_at m (r + i)
        ∙ sym (get_or_append_left (replicate (min n (length xs)) false) (take (length xs - n) xs) false i (omega (arith, zeros, l, below))
        ∙ zeros_at (min n (length xs)) i)

    -- where a bit came from the left
    bit_at : (i : ℕ) → i < length xs → n ≤ i → m ≡ n + r → get_or (take (length xs) (drop r source)) i false ≡ get_or (shifted_right n xs) i false
    bit_at i l above e =
        let same : r + i - m ≡ i - n = omega (arith, e, above) in
        get_or-take (length xs) (drop r source) i false l ∙ get_or-drop r source i false
        ∙ get_or-append_right (replicate m false) (take c xs) m (r + i) false (length-replicate m false) (omega (arith, e, above))
        ∙ get_or-take c xs (r + i - m) false (omega (arith, e, above, room, l)) ∙ ap (λ k. get_or xs k false) same
        ∙ sym (get_or-append_right (replicate (min n (length xs)) false) (take (length xs - n) xs) n i false (zeros ∙ omega (arith, above, l)) above
        ∙ get_or-take (length xs - n) xs (i - n) false (omega (arith, above, l)))

    at : (i : ℕ) → i < length xs → get_or (take (length xs) (drop r source)) i false ≡ get_or (shifted_right n xs) i false
    at i l =
        ⊎_elim
        (λ (e : m ≡ n + r). ⊎_elim
        (λ (below : i < n). zero_at i l below (omega (arith, e, below)))
        (λ (above : n ≤ i). bit_at i l above e)
        (cases_lt i n))
        (λ (e : (length xs + r ≤ m) × (length xs ≤ n)). zero_at i l (omega (arith, l, e.1)) (omega (arith, l, e.0)))
        how

-- zeros, and a text without its lost digits
pub shifted_right_by_digits : (a s : List ℕ) (n lost : ℕ) → lost ≡ min (length a) (n / 3) → s ≡ replicate (lost + 1) ZERO ++ take (length a - lost) a →
    take (3 * (length s - 1)) (drop (3 - n % 3) (bits_of s)) ≡ shifted_right n (bits_of a)
shifted_right_by_digits a s n lost e is =
    ap (λ k. take k (drop (3 - n % 3) (bits_of s))) count ∙ ap (λ t. take (length (bits_of a)) (drop (3 - n % 3) t)) bits
    ∙ right_by_parts (bits_of a) n (3 * (length a - lost)) (3 - n % 3) (3 * (lost + 1))
    (omega (arith, length-bits_of a)) (omega (arith, e, length-bits_of a)) (omega arith) how
  where
    length_of_s : length s ≡ length a + 1
    length_of_s =
        ap length is ∙ omega (arith, e, length-append (replicate (lost + 1) ZERO) (take (length a - lost) a), length-take (length a - lost) a, length-replicate (lost + 1) ZERO)

    count : 3 * (length s - 1) ≡ length (bits_of a)
    count = omega (arith, length_of_s, length-bits_of a)

    bits : bits_of s ≡ replicate (3 * (lost + 1)) false ++ take (3 * (length a - lost)) (bits_of a)
    bits =
        ap bits_of is ∙ bits_of-append (replicate (lost + 1) ZERO) (take (length a - lost) a)
        ∙ ap (λ t. t ++ bits_of (take (length a - lost) a)) (bits_of-zeros (lost + 1))
        ∙ ap (λ t. replicate (3 * (lost + 1)) false ++ t) (bits_of-take (length a - lost) a)

    how : (3 * (lost + 1) ≡ n + (3 - n % 3)) ⊎ ((length (bits_of a) + (3 - n % 3) ≤ 3 * (lost + 1)) × (length (bits_of a) ≤ n))
    how =
        ⊎_elim
        (λ (l : n / 3 < length a). inl (omega (arith, e, l, div-add-mod' n 3, mod_below n 3 (omega arith))))
        (λ (l : length a ≤ n / 3). inr (omega (arith, e, l, length-bits_of a), omega (arith, l, length-bits_of a, div-add-mod' n 3)))
        (cases_lt (n / 3) (length a))

-- ---- around

-- the bits from c on and those before c + 3, and then r to the left
around_by_parts : (xs : List Bool) (c r : ℕ) → c + 3 ≤ length xs → r ≤ 3 →
    take (length xs) (drop r (drop c xs ++ take (c + 3) xs)) ≡ drop (c + r) xs ++ take (c + r) xs
around_by_parts xs c r within w =
    ext_get_or false _ _ lengths (λ i l. at i (omega (arith, l, long)))
  where
    source : List Bool
    source = drop c xs ++ take (c + 3) xs

    whole : length source ≡ length xs + 3
    whole = length-append (drop c xs) (take (c + 3) xs) ∙ omega (arith, within, length-drop c xs, length-take-le (c + 3) xs within)

    long : length (take (length xs) (drop r source)) ≡ length xs
    long = length-take-le (length xs) (drop r source) (omega (arith, w, whole, length-drop r source))

    lengths : length (take (length xs) (drop r source)) ≡ length (drop (c + r) xs ++ take (c + r) xs)
    lengths =
        long ∙ omega (arith, within, w, length-append (drop (c + r) xs) (take (c + r) xs), length-drop (c + r) xs, length-take-le (c + r) xs (omega (arith, within, w)))

    at : (i : ℕ) → i < length xs → get_or (take (length xs) (drop r source)) i false ≡ get_or (drop (c + r) xs ++ take (c + r) xs) i false
    at i l =
        get_or-take (length xs) (drop r source) i false l ∙ get_or-drop r source i false
        ∙ ⊎_elim
        (λ (before : i < length xs - (c + r)).
        let same : c + (r + i) ≡ c + r + i = omega arith in
        get_or_append_left (drop c xs) (take (c + 3) xs) false (r + i) (omega (arith, before, length-drop c xs))
        ∙ get_or-drop c xs (r + i) false ∙ ap (λ k. get_or xs k false) same
        ∙ sym (get_or_append_left (drop (c + r) xs) (take (c + r) xs) false i (omega (arith, before, length-drop (c + r) xs))
        ∙ get_or-drop (c + r) xs i false))
        (λ (after : length xs - (c + r) ≤ i).
        let same : r + i - (length xs - c) ≡ i - (length xs - (c + r)) = omega (arith, after, within, w) in
        get_or-append_right (drop c xs) (take (c + 3) xs) (length xs - c) (r + i) false (length-drop c xs) (omega (arith, after, within, w))
        ∙ get_or-take (c + 3) xs (r + i - (length xs - c)) false (omega (arith, l, within, w))
        ∙ ap (λ k. get_or xs k false) same
        ∙ sym (get_or-append_right (drop (c + r) xs) (take (c + r) xs) (length xs - (c + r)) i false (length-drop (c + r) xs) after
        ∙ get_or-take (c + r) xs (i - (length xs - (c + r))) false (omega (arith, l, within, w, after))))
        (cases_lt i (length xs - (c + r)))

-- the digits from a place on, and those up to it
pub turned_by_digits : (a s : List ℕ) (start r : ℕ) → start < length a → r ≤ 3 → s ≡ drop start a ++ take (start + 1) a →
    take (3 * (length s - 1)) (drop r (bits_of s)) ≡ drop (3 * start + r) (bits_of a) ++ take (3 * start + r) (bits_of a)
turned_by_digits a s start r l w is =
    ap (λ k. take k (drop r (bits_of s))) count ∙ ap (λ t. take (length (bits_of a)) (drop r t)) bits
    ∙ around_by_parts (bits_of a) (3 * start) r (omega (arith, l, length-bits_of a)) w
  where
    length_of_s : length s ≡ length a + 1
    length_of_s = ap length is ∙ omega (arith, l, length-append (drop start a) (take (start + 1) a), length-drop start a, length-take-le (start + 1) a (omega (arith, l)))

    count : 3 * (length s - 1) ≡ length (bits_of a)
    count = omega (arith, length_of_s, length-bits_of a)

    more : 3 * (start + 1) ≡ 3 * start + 3
    more = omega arith

    bits : bits_of s ≡ drop (3 * start) (bits_of a) ++ take (3 * start + 3) (bits_of a)
    bits =
        ap bits_of is ∙ bits_of-append (drop start a) (take (start + 1) a)
        ∙ ap (λ t. t ++ bits_of (take (start + 1) a)) (bits_of-drop start a)
        ∙ ap (λ t. drop (3 * start) (bits_of a) ++ t) (bits_of-take (start + 1) a ∙ ap (λ k. take k (bits_of a)) more)

pub places_around : (a : List ℕ) (n : ℕ) → 0 < length a → 3 * (n / 3 % length a) + n % 3 ≡ n % length (bits_of a)
places_around a n some =
    sym (ap (λ k. k % length (bits_of a)) whole ∙ mod-mul-add (n / 3 / length a) (length (bits_of a)) (3 * (n / 3 % length a) + n % 3) below)
  where
    below : 3 * (n / 3 % length a) + n % 3 < length (bits_of a)
    below = omega (arith, length-bits_of a, mod_below (n / 3) (length a) some, mod_below n 3 (omega arith))

    whole : n ≡ n / 3 / length a * length (bits_of a) + (3 * (n / 3 % length a) + n % 3)
    whole = rw (length-bits_of a) (omega (arith, div-add-mod' n 3, div-add-mod' (n / 3) (length a)))

-- a text without its lost digits, filled up to one digit more than the whole
pub filled : (a items : List ℕ) (lost size : ℕ) → lost ≤ length a → items ≡ drop lost a → size ≡ length items →
    take (length a + 1) items ++ replicate (length a + 1 - size) ZERO ≡ drop lost a ++ replicate (lost + 1) ZERO
filled a items lost size l e n =
    let long : length items ≤ length a + 1 = omega (arith, ap length e, length-drop lost a) in
    let gap : length a + 1 - size ≡ lost + 1 = omega (arith, l, n, ap length e, length-drop lost a) in
    rw (take_all (length a + 1) items long, gap, e) refl

-- one digit more, where the two neighbours are given by what was read
pub slid_step : (s v : List ℕ) (k r d x y : ℕ) → IsSlid s v k r → k + 1 < length s → r ≤ 3 → x ≡ get_or v k x → y ≡ get_or v (k + 1) y → is_octal_digit d ≡ true →
    digit_bits d ≡ take 3 (drop r (digit_bits x ++ digit_bits y)) → IsSlid s (set v k d) (k + 1) r
slid_step s v k r d x y h l w ex ey digit e =
    let first : x ≡ get_or v k 0 = get_or_read v k x (omega (arith, l, h.same)) ex 0 in
    let second : y ≡ get_or v (k + 1) 0 = get_or_read v (k + 1) y (omega (arith, l, h.same)) ey 0 in
    slid_more s v k r d h l w digit (rw (first, second) at e)
