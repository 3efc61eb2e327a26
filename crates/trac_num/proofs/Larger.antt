-- Two numbers compared by their digits.
use Rattle.std.proofs.Common.{◌≡◌, ℕ, zero, suc, ◌+◌, ◌-◌, ◌*◌, ◌^◌, ◌<◌, ◌≤◌, Bool, true, false, cond, ◌⊎◌, eqb, ltb, List, [], ◌∷◌, length, get_or, drop, refl, sym, ap, ◌∙◌, arith, ⊎_elim, Some, subst}
use Rattle.std.proofs.Math.Nat.{pow-le-pow_right}
use Rattle.std.proofs.lemmas.Bool.{and_parts, cases_order, cases_lt, eq-eqb, ne_eqb, lt-ltb, le-ltb}
use Rattle.std.proofs.lemmas.Bool.Decides.{nat_tests}
use Rattle.std.proofs.lemmas.Cmp.{same_from_slice_cmp_tested}
use Rattle.std.proofs.lemmas.List.{get_or-drop}
use Rattle.std.specs.Char.{digit_value, is_ascii_digit}
use Rattle.std.specs.Cmp.Lexicographic.{slice_partial_cmp}
use Rattle.std.specs.Ordering.{is_gt, is_some_and, nat_cmp}
use Rattle.std.specs.Str.{all_ascii_digits}
use Rattle.std.specs.Str.Parse.{digits_value}
use Rattle.trac_num.proofs.Digits.{digit_worth, digits_drop, value_first, value_below}
use Rattle.trac_num.specs.Magnitude.{IsMagnitude}

-- ---- leading zeros

-- digits from one on that is not `0`
magnitude_from : (digits : List ℕ) (k : ℕ) → all_ascii_digits digits ≡ true → (get_or digits k 0 ≡ 48 → ⊥) → IsMagnitude (drop k digits)
magnitude_from digits k t n = record {
  all_digits = digits_drop k digits t;
  no_zero = λ l e. n (sym (get_or-drop k digits 0 0 ∙ ap (λ i. get_or digits i 0) (omega arith)) ∙ e);
}

pub cut_is_magnitude : (digits tail : List ℕ) (k : ℕ) → all_ascii_digits digits ≡ true → (get_or digits k 0 ≡ 48 → ⊥) → tail ≡ drop k digits → IsMagnitude tail
cut_is_magnitude digits tail k t n e = rw e (magnitude_from digits k t n)

-- ---- digits of one length

-- the first list has the greater number where the two first differ
abbrev pub is_later : List ℕ → List ℕ → Bool
is_later [] ys = false
is_later (x ∷ xs) [] = true
is_later (x ∷ xs) (y ∷ ys) = cond (eqb x y) (is_later xs ys) (ltb y x)

pub later_is_gt : (xs ys : List ℕ) (r : Bool) → r ≡ is_some_and is_gt (slice_partial_cmp (λ x y. Some (nat_cmp x y)) xs ys) → r ≡ is_later xs ys
later_is_gt = same_from_slice_cmp_tested nat_cmp is_gt is_later refl (λ _ _. refl) (λ _ _. refl) (λ x y xs ys o h. grind (arith, nat_tests))

less_by_one : (a k p u v : ℕ) → u < p → a * p + u < (a + 1 + k) * p + v
less_by_one a k p u v l = omega arith

weighs_less : (a b p u v : ℕ) → a < b → u < p → a * p + u < b * p + v
weighs_less a b p u v l m =
    let e : a + 1 + (b - a - 1) ≡ b = omega arith in
    subst (λ n. a * p + u < n * p + v) e (less_by_one a (b - a - 1) p u v m)

pub same_added : (k m n : ℕ) → ltb (k + m) (k + n) ≡ ltb m n
same_added k m n =
    ⊎_elim
    (λ (l : m < n). lt-ltb (k + m) (k + n) (omega arith) ∙ sym (lt-ltb m n l))
    (λ (l : n ≤ m). le-ltb (k + m) (k + n) (omega arith) ∙ sym (le-ltb m n l))
    (cases_lt m n)

-- of two lists with the same length the later one writes the larger number
pub later_is_larger : (xs ys : List ℕ) → length xs ≡ length ys → all_ascii_digits xs ≡ true → all_ascii_digits ys ≡ true → is_later xs ys ≡ ltb (digits_value 10 ys) (digits_value 10 xs)
later_is_larger [] [] e s t = refl
later_is_larger [] (y ∷ ys) e s t = absurd (omega arith)
later_is_larger (x ∷ xs) [] e s t = absurd (omega arith)
later_is_larger (x ∷ xs) (y ∷ ys) e s t =
    let first = and_parts (is_ascii_digit x) (all_ascii_digits xs) s in
    let second = and_parts (is_ascii_digit y) (all_ascii_digits ys) t in
    let worth_x = digit_worth x first.0 in
    let worth_y = digit_worth y second.0 in
    let long : length xs ≡ length ys = omega arith in
    let below_x : digits_value 10 xs < 10 ^ length ys = subst (λ n. digits_value 10 xs < 10 ^ n) long (value_below xs first.1) in
    let below_y : digits_value 10 ys < 10 ^ length ys = value_below ys second.1 in
    let value_x : digits_value 10 (x ∷ xs) ≡ digit_value x * 10 ^ length ys + digits_value 10 xs =
    subst (λ n. digits_value 10 (x ∷ xs) ≡ digit_value x * 10 ^ n + digits_value 10 xs) long (value_first x xs) in
    let value_y : digits_value 10 (y ∷ ys) ≡ digit_value y * 10 ^ length ys + digits_value 10 ys = value_first y ys in
    by_heads x y xs ys (10 ^ length ys) worth_x.2 worth_y.2 below_x below_y value_x value_y (later_is_larger xs ys long first.1 second.1)
  where
    by_heads : (x y : ℕ) (xs ys : List ℕ) (p : ℕ) → digit_value x + 48 ≡ x → digit_value y + 48 ≡ y →
        digits_value 10 xs < p → digits_value 10 ys < p →
        digits_value 10 (x ∷ xs) ≡ digit_value x * p + digits_value 10 xs → digits_value 10 (y ∷ ys) ≡ digit_value y * p + digits_value 10 ys →
        is_later xs ys ≡ ltb (digits_value 10 ys) (digits_value 10 xs) →
        is_later (x ∷ xs) (y ∷ ys) ≡ ltb (digits_value 10 (y ∷ ys)) (digits_value 10 (x ∷ xs))
    by_heads x y xs ys p wx wy bx by vx vy ih =
        ⊎_elim
        (λ (e : x ≡ y).
        let head : is_later (x ∷ xs) (y ∷ ys) ≡ is_later xs ys = rw (eq-eqb x y e) refl in
        let worth : digit_value x ≡ digit_value y = ap digit_value e in
        head ∙ ih ∙ sym (ap (λ n. ltb n (digits_value 10 (x ∷ xs))) vy
        ∙ ap (λ n. ltb (digit_value y * p + digits_value 10 ys) n) (vx ∙ ap (λ w. w * p + digits_value 10 xs) worth)
        ∙ same_added (digit_value y * p) (digits_value 10 ys) (digits_value 10 xs)))
        (λ (d : (x < y) ⊎ (y < x)).
        ⊎_elim
        (λ (l : x < y).
        let head : is_later (x ∷ xs) (y ∷ ys) ≡ ltb y x = rw (ne_eqb x y (λ e. omega (arith, e, l))) refl in
        let less = weighs_less (digit_value x) (digit_value y) p (digits_value 10 xs) (digits_value 10 ys) (omega arith) bx in
        head ∙ le-ltb y x (omega arith) ∙ sym (le-ltb (digits_value 10 (y ∷ ys)) (digits_value 10 (x ∷ xs)) (omega (arith, vx, vy, less))))
        (λ (l : y < x).
        let head : is_later (x ∷ xs) (y ∷ ys) ≡ ltb y x = rw (ne_eqb x y (λ e. omega (arith, e, l))) refl in
        let less = weighs_less (digit_value y) (digit_value x) p (digits_value 10 ys) (digits_value 10 xs) (omega arith) by in
        head ∙ lt-ltb y x l ∙ sym (lt-ltb (digits_value 10 (y ∷ ys)) (digits_value 10 (x ∷ xs)) (omega (arith, vx, vy, less))))
        d)
        (cases_order x y)

-- ---- digits of two lengths

at_least : (a p u : ℕ) → 0 < a → p ≤ a * p + u
at_least (suc a) p u l = omega arith
at_least zero p u l = absurd (omega arith)

pub value_above : (d : ℕ) (ds : List ℕ) → IsMagnitude (d ∷ ds) → 10 ^ length ds ≤ digits_value 10 (d ∷ ds)
value_above d ds form =
    let parts = and_parts (is_ascii_digit d) (all_ascii_digits ds) form.all_digits in
    let worth = digit_worth d parts.0 in
    let some : 0 < digit_value d = omega (arith, worth.0, worth.2, form.no_zero (omega arith)) in
    omega (arith, value_first d ds, at_least (digit_value d) (10 ^ length ds) (digits_value 10 ds) some)

pub longer_is_larger : (xs ys : List ℕ) → IsMagnitude xs → IsMagnitude ys → length ys < length xs → digits_value 10 ys < digits_value 10 xs
longer_is_larger [] ys fx fy l = absurd (omega arith)
longer_is_larger (x ∷ xs) ys fx fy l =
    let power : 10 ^ length ys ≤ 10 ^ length xs = pow-le-pow_right (omega arith) (omega arith) in
    omega (arith, value_below ys fy.all_digits, value_above x xs fx, power)

pub larger_by_length : (xs ys : List ℕ) → IsMagnitude xs → IsMagnitude ys → (length xs ≡ length ys → ⊥) → ltb (length ys) (length xs) ≡ ltb (digits_value 10 ys) (digits_value 10 xs)
larger_by_length xs ys fx fy n =
    ⊎_elim
    (λ (l : length ys < length xs). lt-ltb (length ys) (length xs) l ∙ sym (lt-ltb (digits_value 10 ys) (digits_value 10 xs) (longer_is_larger xs ys fx fy l)))
    (λ (l : length xs ≤ length ys).
    let less : digits_value 10 xs < digits_value 10 ys = longer_is_larger ys xs fy fx (omega (arith, n)) in
    le-ltb (length ys) (length xs) l ∙ sym (le-ltb (digits_value 10 ys) (digits_value 10 xs) (omega arith)))
    (cases_lt (length ys) (length xs))
