-- What a text that is a numeral looks like, and what number it writes.
use Rattle.std.proofs.Common.{◌≡◌, ℕ, ◌+◌, ◌-◌, ◌<◌, ◌≤◌, true, false, ◌⊎◌, ◌==◌, List, length, get_or, drop, refl, ap, ◌∙◌, arith, inl, inr, ⊎_elim, length-drop}
use Rattle.std.proofs.lemmas.Bool.{and_parts, and_from, lt-ltb, ltb-true, cases_eq, cases_lt, eq-eqb, ne_eqb}
use Rattle.std.proofs.lemmas.List.{get_or-drop, get_or_past}
use Rattle.std.specs.Char.{is_ascii_digit}
use Rattle.std.specs.Str.{IsAscii, all_ascii_digits}
use Rattle.std.specs.Str.Parse.{without_leading_sign}
use Rattle.trac_num.proofs.Digits.{digit_at, digit_worth}
use Rattle.trac_rules.specs.Number.{is_numeral}

-- ---- signs

pub without_minus : (text : List ℕ) → get_or text 0 0 ≡ 45 → without_leading_sign text ≡ drop 1 text
without_minus text e = rw (eq-eqb (get_or text 0 0) 45 e) refl

pub without_plus : (text : List ℕ) → get_or text 0 0 ≡ 43 → without_leading_sign text ≡ drop 1 text
without_plus text e =
    let other : (get_or text 0 0 == 45) ≡ false = ne_eqb (get_or text 0 0) 45 (λ m. absurd (omega (arith, e, m))) in
    rw other (rw (eq-eqb (get_or text 0 0) 43 e) refl)

pub without_sign : (text : List ℕ) → (get_or text 0 0 ≡ 43 → ⊥) → (get_or text 0 0 ≡ 45 → ⊥) → without_leading_sign text ≡ text
without_sign text p m = rw (ne_eqb (get_or text 0 0) 45 m) (rw (ne_eqb (get_or text 0 0) 43 p) refl)

-- a text begins with a sign, or with none
pub sign_or_none : (text : List ℕ) → (((get_or text 0 0 ≡ 43) ⊎ (get_or text 0 0 ≡ 45)) × (without_leading_sign text ≡ drop 1 text)) ⊎ ((get_or text 0 0 ≡ 43 → ⊥) × (get_or text 0 0 ≡ 45 → ⊥) × (without_leading_sign text ≡ text))
sign_or_none text =
    ⊎_elim
    (λ (p : get_or text 0 0 ≡ 43). inl (inl p, without_plus text p))
    (λ (np : get_or text 0 0 ≡ 43 → ⊥).
    ⊎_elim
    (λ (m : get_or text 0 0 ≡ 45). inl (inr m, without_minus text m))
    (λ (nm : get_or text 0 0 ≡ 45 → ⊥). inr (np, nm, without_sign text np nm))
    (cases_eq (get_or text 0 0) 45))
    (cases_eq (get_or text 0 0) 43)

-- ---- numerals

pub numeral_of_sign : (text : List ℕ) → 1 < length text → without_leading_sign text ≡ drop 1 text → all_ascii_digits (drop 1 text) ≡ true → is_numeral text ≡ true
numeral_of_sign text l e t = rw e (and_from _ _ (lt-ltb 0 (length (drop 1 text)) (omega (arith, length-drop 1 text))) t)

pub numeral_of_digits : (text : List ℕ) → 0 < length text → all_ascii_digits text ≡ true → is_numeral text ≡ true
numeral_of_digits text l t =
    let first = digit_worth (get_or text 0 0) (digit_at text 0 t l) in
    let same : without_leading_sign text ≡ text = without_sign text (λ e. omega (arith, first.0, e)) (λ e. omega (arith, first.0, e)) in
    rw same (and_from _ _ (lt-ltb 0 (length text) l) t)

pub numeral_parts : (text : List ℕ) → is_numeral text ≡ true → (0 < length (without_leading_sign text)) × (all_ascii_digits (without_leading_sign text) ≡ true)
numeral_parts text t =
    let both = and_parts _ _ t in
    (ltb-true 0 (length (without_leading_sign text)) both.0, both.1)

pub digit_inside : (text : List ℕ) (i : ℕ) → is_numeral text ≡ true → 0 < i → i < length text → is_ascii_digit (get_or text i 0) ≡ true
digit_inside text i t p l =
    let parts = numeral_parts text t in
    ⊎_elim
    (λ (s : ((get_or text 0 0 ≡ 43) ⊎ (get_or text 0 0 ≡ 45)) × (without_leading_sign text ≡ drop 1 text)).
    let digits : all_ascii_digits (drop 1 text) ≡ true = rw s.1 at parts.1 in
    let here : get_or (drop 1 text) (i - 1) 0 ≡ get_or text i 0 = get_or-drop 1 text (i - 1) 0 ∙ ap (λ k. get_or text k 0) (omega arith) in
    let digit = digit_at (drop 1 text) (i - 1) digits (omega (arith, length-drop 1 text)) in
    rw here at digit)
    (λ (s : (get_or text 0 0 ≡ 43 → ⊥) × (get_or text 0 0 ≡ 45 → ⊥) × (without_leading_sign text ≡ text)).
    digit_at text i (rw s.2 at parts.1) l)
    (sign_or_none text)

pub digit_first : (text : List ℕ) → is_numeral text ≡ true → (get_or text 0 0 ≡ 43 → ⊥) → (get_or text 0 0 ≡ 45 → ⊥) → is_ascii_digit (get_or text 0 0) ≡ true
digit_first text t p m =
    let parts = numeral_parts text t in
    let same : without_leading_sign text ≡ text = without_sign text p m in
    digit_at text 0 (rw same at parts.1) (rw same at parts.0)

pub digit_last : (text : List ℕ) (i : ℕ) → is_numeral text ≡ true → i + 1 ≡ length text → is_ascii_digit (get_or text i 0) ≡ true
digit_last text i t l =
    let parts = numeral_parts text t in
    ⊎_elim
    (λ (s : ((get_or text 0 0 ≡ 43) ⊎ (get_or text 0 0 ≡ 45)) × (without_leading_sign text ≡ drop 1 text)).
    let after : 0 < length (drop 1 text) = rw s.1 at parts.0 in
    digit_inside text i t (omega (arith, after, length-drop 1 text)) (omega arith))
    (λ (s : (get_or text 0 0 ≡ 43 → ⊥) × (get_or text 0 0 ≡ 45 → ⊥) × (without_leading_sign text ≡ text)).
    digit_at text i (rw s.2 at parts.1) (omega arith))
    (sign_or_none text)

pub ascii_numeral : (text : List ℕ) → is_numeral text ≡ true → IsAscii text
ascii_numeral text t i =
    ⊎_elim
    (λ (l : i < length text).
    ⊎_elim
    (λ (e : i ≡ 0). rw e first)
    (λ (n : i ≡ 0 → ⊥). omega (arith, (digit_worth (get_or text i 0) (digit_inside text i t (omega arith) l)).1))
    (cases_eq i 0))
    (λ (l : length text ≤ i). omega (arith, get_or_past text i 0 l))
    (cases_lt i (length text))
  where
    first : get_or text 0 0 < 128
    first =
        ⊎_elim
        (λ (s : ((get_or text 0 0 ≡ 43) ⊎ (get_or text 0 0 ≡ 45)) × (without_leading_sign text ≡ drop 1 text)).
        ⊎_elim (λ (e : get_or text 0 0 ≡ 43). omega (arith, e)) (λ (e : get_or text 0 0 ≡ 45). omega (arith, e)) s.0)
        (λ (s : (get_or text 0 0 ≡ 43 → ⊥) × (get_or text 0 0 ≡ 45 → ⊥) × (without_leading_sign text ≡ text)).
        omega (arith, (digit_worth (get_or text 0 0) (digit_first text t s.0 s.1)).1))
        (sign_or_none text)
