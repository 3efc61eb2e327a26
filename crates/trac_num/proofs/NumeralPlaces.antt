-- Where the numeral of a text begins.
use Rattle.std.proofs.Common.{◌≡◌, ℕ, zero, suc, ◌+◌, ◌-◌, ◌<◌, ◌≤◌, true, false, ◌⊎◌, List, [], ◌∷◌, length, get_or, take, drop, refl, sym, ap, ◌∙◌, arith, inl, inr, ⊎_elim, length-drop}
use Rattle.std.proofs.lemmas.Bool.{cases_eq, false_from_ne_true, false≢true}
use Rattle.std.proofs.lemmas.List.{get_or-drop, drop-drop}
use Rattle.std.specs.Char.{is_ascii_digit}
use Rattle.std.specs.Str.{all_ascii_digits}
use Rattle.trac_num.proofs.Numerals.{without_plus, without_minus, numeral_of_sign, numeral_of_digits, digit_inside, digit_first, digit_last}
use Rattle.trac_rules.proofs.Numerals.{longest_tail_whole, longest_tail_rest, numeral_or_null}
use Rattle.trac_rules.specs.Bytes.{longest_tail}
use Rattle.trac_rules.specs.Number.{IsNumeralOrNull, is_numeral, numeral_of, prefix_of}

-- the first tail that is a numeral is the longest one; without one it is empty
pub first_numeral : (text : List ℕ) (n : ℕ) → ((is_numeral (drop n text) ≡ true) ⊎ (n ≡ length text)) → n ≤ length text → ((j : ℕ) → j < n → is_numeral (drop j text) ≡ false) → longest_tail is_numeral text ≡ drop n text
first_numeral [] zero found within before = refl
first_numeral [] (suc n) found within before = refl
first_numeral (b ∷ bs) zero (inl t) within before = longest_tail_whole is_numeral b bs t
first_numeral (b ∷ bs) zero (inr e) within before = absurd (omega arith)
first_numeral (b ∷ bs) (suc n) (inl t) within before =
    longest_tail_rest is_numeral b bs (before 0 (omega arith)) ∙ first_numeral bs n (inl t) (omega arith) (λ j l. before (suc j) (omega arith))
first_numeral (b ∷ bs) (suc n) (inr e) within before =
    longest_tail_rest is_numeral b bs (before 0 (omega arith)) ∙ first_numeral bs n (inr (omega arith)) (omega arith) (λ j l. before (suc j) (omega arith))

-- no numeral begins before a byte that is not a digit
not_across : (text : List ℕ) (k j : ℕ) → is_ascii_digit (get_or text k 0) ≡ false → j < k → k < length text → is_numeral (drop j text) ≡ false
not_across text k j other l within =
    false_from_ne_true (is_numeral (drop j text)) (λ t.
    let here : get_or (drop j text) (k - j) 0 ≡ get_or text k 0 = get_or-drop j text (k - j) 0 ∙ ap (λ i. get_or text i 0) (omega arith) in
    let digit = digit_inside (drop j text) (k - j) t (omega arith) (omega (arith, length-drop j text)) in
    false≢true (sym other ∙ rw here at digit))

not_at : (text : List ℕ) (k : ℕ) → is_ascii_digit (get_or text k 0) ≡ false → (get_or text k 0 ≡ 43 → ⊥) → (get_or text k 0 ≡ 45 → ⊥) → is_numeral (drop k text) ≡ false
not_at text k other p m =
    false_from_ne_true (is_numeral (drop k text)) (λ t.
    let here : get_or (drop k text) 0 0 ≡ get_or text k 0 = get_or-drop k text 0 0 ∙ ap (λ i. get_or text i 0) (omega arith) in
    let digit = digit_first (drop k text) t (λ e. p (sym here ∙ e)) (λ e. m (sym here ∙ e)) in
    false≢true (sym other ∙ rw here at digit))

not_last : (text : List ℕ) (k : ℕ) → is_ascii_digit (get_or text k 0) ≡ false → k + 1 ≡ length text → is_numeral (drop k text) ≡ false
not_last text k other last =
    false_from_ne_true (is_numeral (drop k text)) (λ t.
    let here : get_or (drop k text) 0 0 ≡ get_or text k 0 = get_or-drop k text 0 0 ∙ ap (λ i. get_or text i 0) (omega arith) in
    let digit = digit_last (drop k text) 0 t (omega (arith, length-drop k text)) in
    false≢true (sym other ∙ rw here at digit))

pub all_is_numeral : (text : List ℕ) → all_ascii_digits text ≡ true → drop 0 text ≡ numeral_of text
unfolding numeral_of
all_is_numeral [] t = refl
all_is_numeral (b ∷ bs) t = sym (first_numeral (b ∷ bs) 0 (inl (numeral_of_digits (b ∷ bs) (omega arith) t)) (omega arith) (λ j l. absurd (omega arith)))

pub end_is_numeral : (text : List ℕ) (n : ℕ) → n ≡ length text → 0 < n → is_ascii_digit (get_or text (n - 1) 0) ≡ false → drop n text ≡ numeral_of text
unfolding numeral_of
end_is_numeral text n e p other =
    sym (first_numeral text n (inr e) (omega arith) (λ j l.
    ⊎_elim
    (λ (same : j ≡ n - 1). rw same (not_last text (n - 1) other (omega arith)))
    (λ (differs : j ≡ n - 1 → ⊥). not_across text (n - 1) j other (omega arith) (omega arith))
    (cases_eq j (n - 1))))

-- a sign before the digits at the end begins the numeral
pub sign_is_numeral : (text : List ℕ) (n : ℕ) → 0 < n → n < length text → (get_or text (n - 1) 0 ≡ 43) ⊎ ((get_or text (n - 1) 0 ≡ 43 → ⊥) × (get_or text (n - 1) 0 ≡ 45)) → all_ascii_digits (drop n text) ≡ true → drop (n - 1) text ≡ numeral_of text
unfolding numeral_of
sign_is_numeral text n p l sign t =
    sym (first_numeral text (n - 1) (inl begins) (omega arith) (λ j k. not_across text (n - 1) j other k (omega arith)))
  where
    here : get_or (drop (n - 1) text) 0 0 ≡ get_or text (n - 1) 0
    here = get_or-drop (n - 1) text 0 0 ∙ ap (λ i. get_or text i 0) (omega arith)

    after : drop 1 (drop (n - 1) text) ≡ drop n text
    after = drop-drop 1 (n - 1) text ∙ ap (λ i. drop i text) (omega arith)

    other : is_ascii_digit (get_or text (n - 1) 0) ≡ false
    other = ⊎_elim (λ (e : get_or text (n - 1) 0 ≡ 43). rw e refl) (λ (e : (get_or text (n - 1) 0 ≡ 43 → ⊥) × (get_or text (n - 1) 0 ≡ 45)). rw e.1 refl) sign

    begins : is_numeral (drop (n - 1) text) ≡ true
    begins =
        numeral_of_sign (drop (n - 1) text) (omega (arith, length-drop (n - 1) text))
        (⊎_elim
        (λ (e : get_or text (n - 1) 0 ≡ 43). without_plus (drop (n - 1) text) (here ∙ e))
        (λ (e : (get_or text (n - 1) 0 ≡ 43 → ⊥) × (get_or text (n - 1) 0 ≡ 45)). without_minus (drop (n - 1) text) (here ∙ e.1))
        sign)
        (rw after t)

-- any other byte before them stays before the numeral
pub digits_are_numeral : (text : List ℕ) (n : ℕ) → 0 < n → n < length text → (get_or text (n - 1) 0 ≡ 43 → ⊥) → (get_or text (n - 1) 0 ≡ 45 → ⊥) → is_ascii_digit (get_or text (n - 1) 0) ≡ false → all_ascii_digits (drop n text) ≡ true → drop n text ≡ numeral_of text
unfolding numeral_of
digits_are_numeral text n p l plus minus other t =
    sym (first_numeral text n (inl (numeral_of_digits (drop n text) (omega (arith, length-drop n text)) t)) (omega arith) (λ j k.
    ⊎_elim
    (λ (same : j ≡ n - 1). rw same (not_at text (n - 1) other plus minus))
    (λ (differs : j ≡ n - 1 → ⊥). not_across text (n - 1) j other (omega arith) (omega arith))
    (cases_eq j (n - 1))))

-- where the digits at the end are all of the text, or none
pub whole_or_none : (text : List ℕ) (n : ℕ) → (n ≡ 0) ⊎ ((n ≡ 0 → ⊥) × (n ≡ length text)) → all_ascii_digits (drop n text) ≡ true → (0 < n → is_ascii_digit (get_or text (n - 1) 0) ≡ false) → drop n text ≡ numeral_of text
whole_or_none text zero e t other = all_is_numeral text t
whole_or_none text (suc n) (inl e) t other = absurd (omega arith)
whole_or_none text (suc n) (inr e) t other = end_is_numeral text (suc n) e.1 (omega arith) (other (omega arith))

-- ---- the two parts of a text

pub front_is_prefix : (text : List ℕ) (n : ℕ) (front : List ℕ) → n ≤ length text → drop n text ≡ numeral_of text → front ≡ take n text → front ≡ prefix_of text
unfolding prefix_of
front_is_prefix text n front within numeral cut =
    cut ∙ ap (λ k. take k text) (omega (arith, length-drop n text, ap length numeral))

pub tail_is_numeral_or_null : (text tail : List ℕ) → tail ≡ numeral_of text → IsNumeralOrNull tail
tail_is_numeral_or_null text tail e = rw e (numeral_or_null text)
