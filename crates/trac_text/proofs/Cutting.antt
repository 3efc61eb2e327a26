-- Texts cut into arguments, and where each of them lies.
use Rattle.std.proofs.Common.{◌≡◌, ℕ, zero, suc, ◌+◌, ◌-◌, ◌<◌, ◌≤◌, ◌≢◌, List, [], ◌∷◌, ◌++◌, length, take, drop, get_or, refl, sym, ap, ◌∙◌, arith}
use Rattle.std.proofs.lemmas.List.{append-nil, take-append-drop, take_rest, drop-drop}
use Rattle.std.specs.List.{concat}
use Rattle.trac_text.specs.declared.mark.Mark.{Mark}
use Rattle.trac_text.specs.Cuts.{AreCuts, cut, end_of}

-- where the argument of this number starts
abbrev pub start_of : ℕ → List Mark → ℕ → ℕ
start_of from marks zero = from
start_of from [] (suc i) = from
start_of from (m ∷ marks) (suc i) = start_of m.place marks i

-- one argument more than there are marks
pub length-cut : (from : ℕ) (marks : List Mark) (text : List ℕ) → length (cut from marks text) ≡ length marks + 1
length-cut from [] text = refl
length-cut from (m ∷ marks) text = omega (arith, length-cut m.place marks text)

pub start_before_end : (from : ℕ) (marks : List Mark) (end i : ℕ) → AreCuts from marks end → i ≤ length marks → (start_of from marks i ≤ end_of end marks i) × (end_of end marks i ≤ end)
start_before_end from [] end zero cuts h = (cuts, omega arith)
start_before_end from [] end (suc i) cuts h = absurd (omega arith)
start_before_end from (m ∷ marks) end zero cuts h = (
  cuts.0,
  (let after : (start_of m.place marks zero ≤ end_of end marks zero) × (end_of end marks zero ≤ end) = start_before_end m.place marks end zero cuts.1 (omega arith) in omega arith),
)
start_before_end from (m ∷ marks) end (suc i) cuts h = start_before_end m.place marks end i cuts.1 (omega arith)

-- the argument lies between the two
pub get-cut : (from : ℕ) (marks : List Mark) (text : List ℕ) (i : ℕ) → i ≤ length marks → get_or (cut from marks text) i [] ≡ take (end_of (length text) marks i - start_of from marks i) (drop (start_of from marks i) text)
get-cut from [] text zero h = sym (take_rest text from)
get-cut from [] text (suc i) h = absurd (omega arith)
get-cut from (m ∷ marks) text zero h = refl
get-cut from (m ∷ marks) text (suc i) h = get-cut m.place marks text i (omega arith)

-- the places are those of the marks
pub start_of-mark : (from : ℕ) (marks : List Mark) (i : ℕ) (d : Mark) → i < length marks → start_of from marks (suc i) ≡ (get_or marks i d).place
start_of-mark from [] i d h = absurd (omega arith)
start_of-mark from (m ∷ marks) zero d h = refl
start_of-mark from (m ∷ marks) (suc i) d h = start_of-mark m.place marks i d (omega arith)

pub end_of-mark : (end : ℕ) (marks : List Mark) (i : ℕ) (d : Mark) → i < length marks → end_of end marks i ≡ (get_or marks i d).place
end_of-mark end [] i d h = absurd (omega arith)
end_of-mark end (m ∷ marks) zero d h = refl
end_of-mark end (m ∷ marks) (suc i) d h = end_of-mark end marks i d (omega arith)

pub end_of-end : (end : ℕ) (marks : List Mark) (i : ℕ) → length marks ≤ i → end_of end marks i ≡ end
end_of-end end [] i h = refl
end_of-end end (m ∷ marks) zero h = absurd (omega arith)
end_of-end end (m ∷ marks) (suc i) h = end_of-end end marks i (omega arith)

pub start_of-before : (from : ℕ) (marks : List Mark) (i : ℕ) (d : Mark) → i ≢ 0 → i ≤ length marks → start_of from marks i ≡ (get_or marks (i - 1) d).place
start_of-before from marks zero d apart h = absurd (apart refl)
start_of-before from marks (suc i) d apart h =
    let same : suc i - 1 ≡ i = omega arith in
    start_of-mark from marks i d (omega arith) ∙ ap (λ k. (get_or marks k d).place) (sym same)

-- ---- all of them

-- the first place is within the text
pub start_within : (from : ℕ) (marks : List Mark) (end : ℕ) → AreCuts from marks end → from ≤ end
start_within from [] end cuts = cuts
start_within from (m ∷ marks) end cuts = omega (arith, cuts.0, start_within m.place marks end cuts.1)

-- joined again, they are the text after it
pub concat-cut : (from : ℕ) (marks : List Mark) (text : List ℕ) → AreCuts from marks (length text) → concat (cut from marks text) ≡ drop from text
concat-cut from [] text cuts = append-nil (drop from text)
concat-cut from (m ∷ marks) text cuts =
    let on : from + (m.place - from) ≡ m.place = omega (arith, cuts.0) in
    ap (λ (rest : List ℕ). take (m.place - from) (drop from text) ++ rest)
    (concat-cut m.place marks text cuts.1 ∙ ap (λ (n : ℕ). drop n text) (sym on) ∙ sym (drop-drop (m.place - from) from text))
    ∙ take-append-drop (m.place - from) (drop from text)
