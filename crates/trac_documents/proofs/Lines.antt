-- Lines and characters, a byte further.
use Rattle.std.proofs.Common.{◌≡◌, ℕ, zero, suc, ◌+◌, ◌-◌, ◌<◌, ◌≤◌, true, false, List, [], ◌∷◌, length, drop, get_or, refl, ap, subst, ◌∙◌, arith, ⊎_elim}
use Rattle.std.specs.Prelude.{if◌then◌else◌, ltb, ◌||◌}
use Rattle.std.proofs.lemmas.Bool.{cases_Bool, cond-false, cond-true}
use Rattle.std.proofs.lemmas.List.{drop_more}
use Rattle.trac_documents.specs.declared.positions.Encoding.{Encoding}
use Rattle.trac_documents.specs.Positions.{before_line, bytes_within, ends_before, ends_line, is_line_end, lines_before, units}

-- ---- lines

pub before_zero : (n : ℕ) (text : List ℕ) → n ≡ 0 → before_line n text ≡ 0
before_zero n text none = ap (λ m. before_line m text) none

pub before_none : (n : ℕ) (text : List ℕ) → text ≡ [] → before_line n text ≡ 0
before_none zero text none = refl
before_none (suc n) text none = ap (before_line (suc n)) none

before_next : (n b : ℕ) (rest : List ℕ) → 0 < n → before_line n (b ∷ rest) ≡ suc (before_line (if ends_before b rest then n - 1 else n) rest)
before_next zero b rest some = absurd (omega arith)
before_next (suc n) b rest some =
    let less : n ≡ suc n - 1 = omega arith in
    ap (λ m. suc (before_line (if ends_before b rest then m else suc n) rest)) less

-- a byte further, by whether a line ends with it
pub before_ends : (n : ℕ) (text : List ℕ) (i : ℕ) → i < length text → 0 < n → ends_line text i ≡ true → before_line n (drop i text) ≡ suc (before_line (n - 1) (drop (i + 1) text))
before_ends n text i l some ends =
    ap (before_line n) (drop_more text i 0 l)
    ∙ before_next n (get_or text i 0) (drop (i + 1) text) some
    ∙ ap (λ m. suc (before_line m (drop (i + 1) text))) (cond-true (ends_line text i) (n - 1) n ends)

pub before_goes_on : (n : ℕ) (text : List ℕ) (i : ℕ) → i < length text → 0 < n → ends_line text i ≡ false → before_line n (drop i text) ≡ suc (before_line n (drop (i + 1) text))
before_goes_on n text i l some on =
    ap (before_line n) (drop_more text i 0 l)
    ∙ before_next n (get_or text i 0) (drop (i + 1) text) some
    ∙ ap (λ m. suc (before_line m (drop (i + 1) text))) (cond-false (ends_line text i) (n - 1) n on)

lines_next : (k b : ℕ) (rest : List ℕ) → 0 < k → lines_before k (b ∷ rest) ≡ (if ends_before b rest then 1 else 0) + lines_before (k - 1) rest
lines_next zero b rest some = absurd (omega arith)
lines_next (suc k) b rest some =
    let less : k ≡ suc k - 1 = omega arith in
    ap (λ m. (if ends_before b rest then 1 else 0) + lines_before m rest) less

pub lines_ends : (k : ℕ) (text : List ℕ) (i : ℕ) → i < length text → i < k → ends_line text i ≡ true → lines_before (k - i) (drop i text) ≡ 1 + lines_before (k - (i + 1)) (drop (i + 1) text)
lines_ends k text i l some ends =
    let less : k - i - 1 ≡ k - (i + 1) = omega arith in
    ap (lines_before (k - i)) (drop_more text i 0 l)
    ∙ lines_next (k - i) (get_or text i 0) (drop (i + 1) text) (omega arith)
    ∙ ap (λ n. n + lines_before (k - i - 1) (drop (i + 1) text)) (cond-true (ends_line text i) 1 0 ends)
    ∙ ap (λ m. 1 + lines_before m (drop (i + 1) text)) less

pub lines_go_on : (k : ℕ) (text : List ℕ) (i : ℕ) → i < length text → i < k → ends_line text i ≡ false → lines_before (k - i) (drop i text) ≡ lines_before (k - (i + 1)) (drop (i + 1) text)
lines_go_on k text i l some on =
    let less : k - i - 1 ≡ k - (i + 1) = omega arith in
    let none : 0 + lines_before (k - i - 1) (drop (i + 1) text) ≡ lines_before (k - i - 1) (drop (i + 1) text) = omega arith in
    ap (lines_before (k - i)) (drop_more text i 0 l)
    ∙ lines_next (k - i) (get_or text i 0) (drop (i + 1) text) (omega arith)
    ∙ ap (λ n. n + lines_before (k - i - 1) (drop (i + 1) text)) (cond-false (ends_line text i) 1 0 on)
    ∙ none
    ∙ ap (λ m. lines_before m (drop (i + 1) text)) less

-- the last of the lines that end in the first bytes begins among these
starts_before : (k n b : ℕ) (rest : List ℕ) → before_line n rest ≤ k → before_line n (b ∷ rest) ≤ suc k → before_line ((if ends_before b rest then 1 else 0) + n) (b ∷ rest) ≤ suc k
starts_before k n b rest inner outer = ⊎_elim
    (λ (ends : ends_before b rest ≡ true).
    let more : 1 + n ≡ suc n = omega arith in
    let there : before_line ((if ends_before b rest then 1 else 0) + n) (b ∷ rest) ≡ suc (before_line n rest)
    = ap (λ m. before_line (m + n) (b ∷ rest)) (cond-true (ends_before b rest) 1 0 ends)
    ∙ ap (λ m. before_line m (b ∷ rest)) more
    ∙ ap (λ m. suc (before_line m rest)) (cond-true (ends_before b rest) n (suc n) ends) in
    omega (arith, there, inner))
    (λ (on : ends_before b rest ≡ false).
    let same : 0 + n ≡ n = omega arith in
    let there : before_line ((if ends_before b rest then 1 else 0) + n) (b ∷ rest) ≡ before_line n (b ∷ rest)
    = ap (λ m. before_line (m + n) (b ∷ rest)) (cond-false (ends_before b rest) 1 0 on) ∙ ap (λ m. before_line m (b ∷ rest)) same in
    omega (arith, there, outer))
    (cases_Bool (ends_before b rest))

-- a byte before a text puts the start of a line one further at most
one_further : (n b : ℕ) (rest : List ℕ) (k : ℕ) → before_line n rest ≤ k → before_line (n - 1) rest ≤ k → before_line n (b ∷ rest) ≤ suc k
one_further zero b rest k inner less = omega arith
one_further (suc n) b rest k inner less =
    let pred : suc n - 1 ≡ n = omega arith in
    ⊎_elim
    (λ (ends : ends_before b rest ≡ true).
    omega (arith, less, ap (λ m. before_line m rest) pred, ap (λ m. before_line m rest) (cond-true (ends_before b rest) n (suc n) ends)))
    (λ (on : ends_before b rest ≡ false).
    omega (arith, inner, ap (λ m. before_line m rest) (cond-false (ends_before b rest) n (suc n) on)))
    (cases_Bool (ends_before b rest))

-- a line of a lower number begins no later
lower : (n : ℕ) (text : List ℕ) → before_line (n - 1) text ≤ before_line n text
lower zero text = omega arith
lower (suc n) [] = omega (arith, before_none (suc n - 1) [] refl)
lower (suc zero) (b ∷ rest) = omega (arith, before_zero (suc zero - 1) (b ∷ rest) (omega arith))
lower (suc (suc n)) (b ∷ rest) =
    let pred : suc (suc n) - 1 ≡ suc n = omega arith in
    let inner : suc n - 1 ≡ n = omega arith in
    let first : before_line n rest ≤ before_line (suc n) rest = subst (λ m. before_line m rest ≤ before_line (suc n) rest) inner (lower (suc n) rest) in
    let second : before_line (suc n) rest ≤ before_line (suc (suc n)) rest = subst (λ m. before_line m rest ≤ before_line (suc (suc n)) rest) pred (lower (suc (suc n)) rest) in
    ⊎_elim
    (λ (ends : ends_before b rest ≡ true).
    omega (arith, first, ap (λ m. before_line m (b ∷ rest)) pred, ap (λ m. before_line m rest) (cond-true (ends_before b rest) n (suc n) ends), ap (λ m. before_line m rest) (cond-true (ends_before b rest) (suc n) (suc (suc n)) ends)))
    (λ (on : ends_before b rest ≡ false).
    omega (arith, second, ap (λ m. before_line m (b ∷ rest)) pred, ap (λ m. before_line m rest) (cond-false (ends_before b rest) n (suc n) on), ap (λ m. before_line m rest) (cond-false (ends_before b rest) (suc n) (suc (suc n)) on)))
    (cases_Bool (ends_before b rest))

pub lines_within : (k : ℕ) (text : List ℕ) → before_line (lines_before k text) text ≤ k
lines_within zero text = omega arith
lines_within (suc k) [] = omega arith
lines_within (suc k) (b ∷ rest) =
    let inner = lines_within k rest in
    let n = lines_before k rest in
    starts_before k n b rest inner (one_further n b rest k inner (omega (arith, inner, lower n rest)))

-- ---- characters
