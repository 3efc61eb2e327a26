-- Arguments cut from the text that holds them one after another.
use Rattle.std.proofs.Common.{◌≡◌, ℕ, zero, suc, ◌+◌, ◌≤◌, List, [], ◌∷◌, ◌++◌, length, map, take, drop, get_or, refl, ap, ◌∙◌, arith}
use Rattle.std.proofs.lemmas.List.{append-nil, length-append, length-drop, length-take-le, take-append-drop, take_at, drop_at}
use Rattle.std.proofs.lemmas.List.Sums.{sum_by-cons}
use Rattle.std.specs.List.{concat, sum}
use Rattle.trac_rules.specs.Limits.{total_length}
use Rattle.trac_text.specs.Pieces.{all_texts, cut_at}

-- texts that are joined, and cut by the lengths of all but the last, are the same ones
pub cut-joined : (texts : List (List ℕ)) (n : ℕ) → n + 1 ≡ length texts → all_texts (cut_at (map length (take n texts)) (concat texts)) ≡ texts
cut-joined [] n h = absurd (omega arith)
cut-joined (text ∷ []) zero h = ap (λ (only : List ℕ). only ∷ []) (append-nil text)
cut-joined (text ∷ next ∷ texts) zero h = absurd (omega arith)
cut-joined (text ∷ texts) (suc n) h =
    let after : drop (length text) (text ++ concat texts) ≡ concat texts = drop_at text (concat texts) (length text) refl in
    let rest : all_texts (cut_at (map length (take n texts)) (drop (length text) (text ++ concat texts))) ≡ texts =
    ap (λ (joined : List ℕ). all_texts (cut_at (map length (take n texts)) joined)) after ∙ cut-joined texts n (omega arith) in
    λ i. take_at text (concat texts) (length text) refl i ∷ rest i

-- the lengths are within the text
pub lengths_within : (texts : List (List ℕ)) (n : ℕ) → sum (map length (take n texts)) ≤ length (concat texts)
lengths_within texts zero = omega arith
lengths_within [] (suc n) = omega arith
lengths_within (text ∷ texts) (suc n) =
    omega (arith, sum_by-cons (λ (k : ℕ). k) (length text) (map length (take n texts)), lengths_within texts n, length-append text (concat texts))

-- each text is within all
pub text_within : (texts : List (List ℕ)) (i : ℕ) → length (get_or texts i []) ≤ length (concat texts)
text_within [] i = omega arith
text_within (text ∷ texts) zero = omega (arith, length-append text (concat texts))
text_within (text ∷ texts) (suc i) = omega (arith, text_within texts i, length-append text (concat texts))

-- what is cut joins to the text again
pub joined-cut : (lengths text : List ℕ) → concat (all_texts (cut_at lengths text)) ≡ text
joined-cut [] text = append-nil text
joined-cut (n ∷ lengths) text = ap (λ (rest : List ℕ). take n text ++ rest) (joined-cut lengths (drop n text)) ∙ take-append-drop n text

-- all texts but the last have these lengths
pub lengths-cut : (lengths text : List ℕ) → sum lengths ≤ length text → map length (cut_at lengths text).finished ≡ lengths
lengths-cut [] text h = refl
lengths-cut (n ∷ lengths) text h =
    let within : n + sum lengths ≤ length text = omega (arith, sum_by-cons (λ (k : ℕ). k) n lengths) in
    λ i. length-take-le n text (omega arith) i ∷ lengths-cut lengths (drop n text) (omega (arith, length-drop n text)) i

-- there are as many of them, whatever the text
pub count-cut : (lengths text : List ℕ) → length (cut_at lengths text).finished ≡ length lengths
count-cut [] text = refl
count-cut (n ∷ lengths) text = omega (arith, count-cut lengths (drop n text))

-- texts are as long together as they are joined
pub total-joined : (texts : List (List ℕ)) → total_length texts ≡ length (concat texts)
total-joined [] = omega arith
total-joined (text ∷ texts) = omega (arith, total-joined texts, length-append text (concat texts))
