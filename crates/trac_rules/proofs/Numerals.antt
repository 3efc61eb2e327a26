-- The first tail that passes a test is the longest one.
use Rattle.std.proofs.Common.{◌≡◌, ℕ, ◌-◌, ◌≤◌, Bool, true, false, ◌⊎◌, List, [], ◌∷◌, ◌++◌, length, take, refl, sym, ap, ◌∙◌, arith, inl, inr, ⊎_elim, length-append}
use Rattle.std.proofs.lemmas.List.{take_at}
use Rattle.std.proofs.lemmas.Bool.{cases_Bool, cond-true, cond-false}
use Rattle.trac_rules.specs.Bytes.{longest_tail}
use Rattle.trac_rules.specs.Number.{IsNumeralOrNull, is_numeral, numeral_of, prefix_of}

pub longest_tail_whole : (passes : List ℕ → Bool) (b : ℕ) (bs : List ℕ) → passes (b ∷ bs) ≡ true → longest_tail passes (b ∷ bs) ≡ b ∷ bs
longest_tail_whole passes b bs t = cond-true (passes (b ∷ bs)) (b ∷ bs) (longest_tail passes bs) t

pub longest_tail_rest : (passes : List ℕ → Bool) (b : ℕ) (bs : List ℕ) → passes (b ∷ bs) ≡ false → longest_tail passes (b ∷ bs) ≡ longest_tail passes bs
longest_tail_rest passes b bs f = cond-false (passes (b ∷ bs)) (b ∷ bs) (longest_tail passes bs) f

pub longest_tail_parts : (passes : List ℕ → Bool) (text : List ℕ) → (front : List ℕ) × (text ≡ front ++ longest_tail passes text)
longest_tail_parts passes [] = ([], refl)
longest_tail_parts passes (b ∷ bs) =
    ⊎_elim
    (λ (t : passes (b ∷ bs) ≡ true). ([], sym (longest_tail_whole passes b bs t)))
    (λ (f : passes (b ∷ bs) ≡ false).
    let ih = longest_tail_parts passes bs in
    (b ∷ ih.0, ap (λ r. b ∷ r) ih.1 ∙ ap (λ r. b ∷ (ih.0 ++ r)) (sym (longest_tail_rest passes b bs f))))
    (cases_Bool (passes (b ∷ bs)))

pub longest_tail_passes : (passes : List ℕ → Bool) (text : List ℕ) → (longest_tail passes text ≡ []) ⊎ (passes (longest_tail passes text) ≡ true)
longest_tail_passes passes [] = inl refl
longest_tail_passes passes (b ∷ bs) =
    ⊎_elim
    (λ (t : passes (b ∷ bs) ≡ true). inr (rw (longest_tail_whole passes b bs t) t))
    (λ (f : passes (b ∷ bs) ≡ false). rw (longest_tail_rest passes b bs f) (longest_tail_passes passes bs))
    (cases_Bool (passes (b ∷ bs)))

pub longest_tail_longest : (passes : List ℕ → Bool) (front tail : List ℕ) → passes tail ≡ true → length tail ≤ length (longest_tail passes (front ++ tail))
longest_tail_longest passes [] [] t = omega arith
longest_tail_longest passes [] (b ∷ bs) t = rw (longest_tail_whole passes b bs t) (omega arith)
longest_tail_longest passes (x ∷ front) tail t =
    ⊎_elim
    (λ (y : passes (x ∷ (front ++ tail)) ≡ true).
    rw (longest_tail_whole passes x (front ++ tail) y) (omega (arith, length-append front tail)))
    (λ (f : passes (x ∷ (front ++ tail)) ≡ false).
    rw (longest_tail_rest passes x (front ++ tail) f) (longest_tail_longest passes front tail t))
    (cases_Bool (passes (x ∷ (front ++ tail))))

pub prefix_and_numeral : (text : List ℕ) → prefix_of text ++ numeral_of text ≡ text
unfolding prefix_of numeral_of
prefix_and_numeral text =
    let parts = longest_tail_parts is_numeral text in
    let shorter : length text - length (longest_tail is_numeral text) ≡ length parts.0 =
    omega (arith, ap length parts.1, length-append parts.0 (longest_tail is_numeral text)) in
    let front : take (length text - length (longest_tail is_numeral text)) text ≡ parts.0 =
    ap (λ n. take n text) shorter ∙ ap (λ t. take (length parts.0) t) parts.1 ∙ take_at parts.0 (longest_tail is_numeral text) (length parts.0) refl in
    ap (λ p. p ++ longest_tail is_numeral text) front ∙ sym parts.1

pub numeral_or_null : (text : List ℕ) → IsNumeralOrNull (numeral_of text)
unfolding numeral_of
numeral_or_null text = longest_tail_passes is_numeral text

-- no tail that is a numeral is longer
pub no_longer_numeral : (text front tail : List ℕ) → text ≡ front ++ tail → is_numeral tail ≡ true → length tail ≤ length (numeral_of text)
unfolding numeral_of
no_longer_numeral text front tail e t = rw e (longest_tail_longest is_numeral front tail t)
