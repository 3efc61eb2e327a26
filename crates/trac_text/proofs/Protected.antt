-- A protected text, moved to the end of the text on the left.
use Rattle.std.proofs.Common.{◌≡◌, ℕ, ◌+◌, ◌<◌, ◌≤◌, List, ◌++◌, length, take, drop, sym, ap, ◌∙◌, arith}
use Rattle.std.specs.Prelude.{Option, Some, None}
use Rattle.std.proofs.lemmas.List.{length-drop, length-take, drop-drop, take_all, drop_all}
use Rattle.trac_gap.specs.Ends.{Ends}
use Rattle.trac_rules.specs.Matching.{match_of, protected, protected_up_to}
use Rattle.trac_text.specs.Moving.{with_protected}

-- ---- what a `(` protects

-- what is protected and what stands after it are no longer than the text
pub protected_length : (text : List ℕ) → length (protected text).rest + length (protected text).inner ≤ length text
protected_length text = up_to (match_of text)
  where
    up_to : (o : Option ℕ) → length (protected_up_to o text).rest + length (protected_up_to o text).inner ≤ length text
    up_to None = omega arith
    up_to (Some k) = omega (arith, length-take k text, length-drop (k + 1) text)

-- ---- the texts after a protected one

pub taken_matched : (old cut shifted last : Ends ℕ) (k : ℕ) → cut ≡ record old { right = drop 1 old.right } →
    shifted ≡ record cut { left = cut.left ++ take k cut.right; right = drop k cut.right } → last ≡ record shifted { right = drop 1 shifted.right } →
    match_of (drop 1 old.right) ≡ Some k → last ≡ with_protected (protected (drop 1 old.right)) old
taken_matched old cut shifted last k c s l found =
    l ∙ ap (λ (e : Ends ℕ). record e { right = drop 1 e.right }) s
    ∙ ap (λ (e : Ends ℕ). record e { left = e.left ++ take k e.right; right = drop 1 (drop k e.right) }) c
    ∙ ap (λ (rest : List ℕ). record old { left = old.left ++ take k (drop 1 old.right); right = rest }) (drop-drop 1 k (drop 1 old.right))
    ∙ ap (λ (o : Option ℕ). with_protected (protected_up_to o (drop 1 old.right)) old) (sym found)

-- how long it is
pub inner_length : (text : List ℕ) (k : ℕ) → match_of text ≡ Some k → k < length text → k ≡ length (protected text).inner
inner_length text k found within = omega (arith, ap (λ (o : Option ℕ). length (protected_up_to o text).inner) found, length-take k text)

pub taken_unmatched : (old cut last : Ends ℕ) (n : ℕ) → cut ≡ record old { right = drop 1 old.right } → n ≡ length cut.right →
    last ≡ record cut { left = cut.left ++ take n cut.right; right = drop n cut.right } →
    match_of (drop 1 old.right) ≡ None → last ≡ with_protected (protected (drop 1 old.right)) old
taken_unmatched old cut last n c is l found =
    l ∙ ap (λ (k : ℕ). record cut { left = cut.left ++ take k cut.right; right = drop k cut.right }) is
    ∙ ap (λ (e : Ends ℕ). record e { left = e.left ++ take (length e.right) e.right; right = drop (length e.right) e.right }) c
    ∙ (λ i. record old { left = old.left ++ take_all (length (drop 1 old.right)) (drop 1 old.right) (omega arith) i; right = drop_all (length (drop 1 old.right)) (drop 1 old.right) (omega arith) i })
    ∙ ap (λ (o : Option ℕ). with_protected (protected_up_to o (drop 1 old.right)) old) (sym found)
