-- The first place that fits is the match of balanced texts.
use Rattle.std.proofs.Common.{◌≡◌, ℕ, zero, suc, ◌+◌, ◌<◌, ◌≤◌, Bool, true, false, cond, List, [], ◌∷◌, ◌++◌, length, take, drop, get_or, refl, sym, ap, ◌∙◌, arith, inl, inr, ⊎_elim}
use Rattle.std.specs.Prelude.{None, Some, ◌==◌, ◌⊎◌}
use Rattle.std.proofs.lemmas.List.{append_assoc, take_all, take-take, take_more, take_at, drop_at, drop_more, take-append-drop, take-append-le, get_or_at, get_or_append_left, length-append, length-take-le}
use Rattle.std.proofs.lemmas.Bool.{false≢true, eqb-true, eq-eqb, ne_eqb, and_parts, and_from, cases_Bool, cases_eq, cases_lt, false_from_ne_true}
use Rattle.trac_rules.specs.declared.byte.TheConstants.{OPENING, CLOSING}
use Rattle.trac_rules.specs.Bytes.{count_of, first_place}
use Rattle.trac_rules.specs.Matching.{closes_at, match_of, protected, IsBalanced}

-- ---- counting

pub count_of-append : (b : ℕ) (xs ys : List ℕ) → count_of b (xs ++ ys) ≡ count_of b xs + count_of b ys
count_of-append b [] ys = omega arith
count_of-append b (x ∷ xs) ys =
    let ih : count_of b (xs ++ ys) ≡ count_of b xs + count_of b ys = count_of-append b xs ys in
    elim (x == b) as (λ t. cond t (suc (count_of b (xs ++ ys))) (count_of b (xs ++ ys)) ≡ cond t (suc (count_of b xs)) (count_of b xs) + count_of b ys) [
      | true ↦ omega arith
      | false ↦ omega arith
    ]

-- a byte that is counted makes the count one larger
pub count_of_same : (b x : ℕ) (xs : List ℕ) → x ≡ b → count_of b (x ∷ xs) ≡ count_of b xs + 1
count_of_same b x xs e = let t : (x == b) ≡ true = eq-eqb x b e in rw t (omega arith)

pub count_of_other : (b x : ℕ) (xs : List ℕ) → (x ≡ b → ⊥) → count_of b (x ∷ xs) ≡ count_of b xs
count_of_other b x xs n = let t : (x == b) ≡ false = ne_eqb x b n in rw t refl

pub count_of_more_same : (b : ℕ) (text : List ℕ) (i : ℕ) → i < length text → get_or text i 0 ≡ b → count_of b (take (i + 1) text) ≡ count_of b (take i text) + 1
count_of_more_same b text i l e =
    let one : count_of b (get_or text i 0 ∷ []) ≡ count_of b [] + 1 = count_of_same b (get_or text i 0) [] e in
    let more : take (i + 1) text ≡ take i text ++ get_or text i 0 ∷ [] = take_more text i 0 l in
    rw more (omega (arith, one, count_of-append b (take i text) (get_or text i 0 ∷ [])))

pub count_of_more_other : (b : ℕ) (text : List ℕ) (i : ℕ) → i < length text → (get_or text i 0 ≡ b → ⊥) → count_of b (take (i + 1) text) ≡ count_of b (take i text)
count_of_more_other b text i l n =
    let one : count_of b (get_or text i 0 ∷ []) ≡ count_of b [] = count_of_other b (get_or text i 0) [] n in
    let more : take (i + 1) text ≡ take i text ++ get_or text i 0 ∷ [] = take_more text i 0 l in
    rw more (omega (arith, one, count_of-append b (take i text) (get_or text i 0 ∷ [])))

pub count_of_more : (b : ℕ) (text : List ℕ) (i : ℕ) → i < length text → count_of b (take i text) ≤ count_of b (take (i + 1) text)
count_of_more b text i l =
    ⊎_elim
    (λ (e : get_or text i 0 ≡ b). omega (arith, count_of_more_same b text i l e))
    (λ (n : get_or text i 0 ≡ b → ⊥). omega (arith, count_of_more_other b text i l n))
    (cases_eq (get_or text i 0) b)

-- ---- the first place that passes a test

pub first_place_none : (passes : ℕ → Bool) (n : ℕ) → ((k : ℕ) → k < n → passes k ≡ false) → first_place passes n ≡ None
first_place_none p zero h = refl
first_place_none p (suc n) h = rw (first_place_none p n (λ k l. h k (omega arith)), h n (omega arith)) refl

pub first_place_some : (passes : ℕ → Bool) (n k : ℕ) → k < n → passes k ≡ true → ((j : ℕ) → j < k → passes j ≡ false) → first_place passes n ≡ Some k
first_place_some p zero k l is below = absurd (omega arith)
first_place_some p (suc n) k l is below =
    ⊎_elim
    (λ (e : k ≡ n). rw (first_place_none p n (λ j m. below j (omega arith)), ← e, is) refl)
    (λ (ne : k ≡ n → ⊥). rw (first_place_some p n k (omega arith) is below) refl)
    (cases_eq k n)

-- none below n passes, or one of them is the first
pub first_place_cases : (passes : ℕ → Bool) (n : ℕ) →
    (((k : ℕ) → k < n → passes k ≡ false) ⊎ ((k : ℕ) × (k < n) × (passes k ≡ true) × ((j : ℕ) → j < k → passes j ≡ false)))
first_place_cases p zero = inl (λ k l. absurd (omega arith))
first_place_cases p (suc n) = go (first_place_cases p n) (cases_Bool (p n))
  where
    go : (((k : ℕ) → k < n → p k ≡ false) ⊎ ((k : ℕ) × (k < n) × (p k ≡ true) × ((j : ℕ) → j < k → p j ≡ false))) →
        ((p n ≡ true) ⊎ (p n ≡ false)) →
        (((k : ℕ) → k < suc n → p k ≡ false) ⊎ ((k : ℕ) × (k < suc n) × (p k ≡ true) × ((j : ℕ) → j < k → p j ≡ false)))
    go (inr (k, l, is, below)) t = inr (k, omega arith, is, below)
    go (inl none) (inl t) = inr (n, omega arith, t, none)
    go (inl none) (inr t) =
        inl (λ k l. ⊎_elim (λ (e : k ≡ n). rw e t) (λ (ne : k ≡ n → ⊥). none k (omega arith)) (cases_eq k n))

pub first_place_passes : (passes : ℕ → Bool) (n k : ℕ) → first_place passes n ≡ Some k → passes k ≡ true
first_place_passes p n k found =
    ⊎_elim
    (λ (none : (j : ℕ) → j < n → p j ≡ false). absurd (let missing : first_place p n ≡ None = first_place_none p n none in cc))
    (λ (some : (j : ℕ) × (j < n) × (p j ≡ true) × ((i : ℕ) → i < j → p i ≡ false)).
    let there : first_place p n ≡ Some some.0 = first_place_some p n some.0 some.1 some.2 some.3 in
    let same : some.0 ≡ k = cc in
    ap p (sym same) ∙ some.2)
    (first_place_cases p n)

-- ---- places that close

-- a `)` before which there are as many `(` as `)` closes
pub closes_at_true : (text : List ℕ) (k : ℕ) → get_or text k 0 ≡ CLOSING → count_of OPENING (take k text) ≡ count_of CLOSING (take k text) → closes_at text k ≡ true
closes_at_true text k e c =
    and_from _ _ (eq-eqb (get_or text k 0) CLOSING e) (eq-eqb (count_of OPENING (take k text)) (count_of CLOSING (take k text)) c)

-- a place that closes has a `)`, and before it there are as many `(` as `)`
pub closes_at_parts : (text : List ℕ) (k : ℕ) → closes_at text k ≡ true → (get_or text k 0 ≡ CLOSING) × (count_of OPENING (take k text) ≡ count_of CLOSING (take k text))
closes_at_parts text k h =
    let both = and_parts (get_or text k 0 == CLOSING) (count_of OPENING (take k text) == count_of CLOSING (take k text)) h in
    (eqb-true (get_or text k 0) CLOSING both.0, eqb-true (count_of OPENING (take k text)) (count_of CLOSING (take k text)) both.1)

pub closes_at_other : (text : List ℕ) (k : ℕ) → (get_or text k 0 ≡ CLOSING → ⊥) → closes_at text k ≡ false
closes_at_other text k n = false_from_ne_true (closes_at text k) (λ t. n (closes_at_parts text k t).0)

-- nor does a place before which more `(` than `)` stand
pub closes_at_inside : (text : List ℕ) (k : ℕ) → count_of CLOSING (take k text) < count_of OPENING (take k text) → closes_at text k ≡ false
closes_at_inside text k l = false_from_ne_true (closes_at text k) (λ t. absurd (omega (arith, (closes_at_parts text k t).1)))

pub match_at : (text : List ℕ) (k : ℕ) → closes_at text k ≡ true → ((j : ℕ) → j < k → closes_at text j ≡ false) → k < length text → match_of text ≡ Some k
unfolding match_of
match_at text k is below l = first_place_some (closes_at text) (length text) k l is below

pub match_none : (text : List ℕ) → ((k : ℕ) → k < length text → closes_at text k ≡ false) → match_of text ≡ None
unfolding match_of
match_none text none = first_place_none (closes_at text) (length text) none

-- ---- fronts

-- while no place closes, every front has at most as many `)` as `(`
pub fronts_of_open : (text : List ℕ) (n : ℕ) → n ≤ length text → ((k : ℕ) → k < n → closes_at text k ≡ false) → (i : ℕ) → i ≤ n → count_of CLOSING (take i text) ≤ count_of OPENING (take i text)
fronts_of_open text n l none zero m = omega arith
fronts_of_open text n l none (suc i) m =
    let ih : count_of CLOSING (take i text) ≤ count_of OPENING (take i text) = fronts_of_open text n l none i (omega arith) in
    let within : i < length text = omega arith in
    let grows : count_of OPENING (take i text) ≤ count_of OPENING (take (i + 1) text) = count_of_more OPENING text i within in
    let open_here : closes_at text i ≡ false = none i (omega arith) in
    let next : suc i ≡ i + 1 = omega arith in
    rw next (⊎_elim
    (λ (e : get_or text i 0 ≡ CLOSING).
    let uneven : count_of OPENING (take i text) ≡ count_of CLOSING (take i text) → ⊥ =
    λ even. false≢true (sym open_here ∙ closes_at_true text i e even) in
    omega (arith, count_of_more_same CLOSING text i within e, uneven))
    (λ (ne : get_or text i 0 ≡ CLOSING → ⊥). omega (arith, count_of_more_other CLOSING text i within ne))
    (cases_eq (get_or text i 0) CLOSING))

pub balanced_before : (text : List ℕ) (k : ℕ) → closes_at text k ≡ true → ((j : ℕ) → j < k → closes_at text j ≡ false) → k < length text → IsBalanced (take k text)
balanced_before text k is below l = record {
  even = (closes_at_parts text k is).1;
  fronts = λ n. ⊎_elim
      (λ (s : n < k).
      let same : take n (take k text) ≡ take n text = take-take n k text (omega arith) in
      rw same (fronts_of_open text k (omega arith) below n (omega arith)))
      (λ (s : k ≤ n).
      let same : take n (take k text) ≡ take k text = take_all n (take k text) (omega (arith, length-take-le k text (omega arith))) in
      rw same (fronts_of_open text k (omega arith) below k (omega arith)))
      (cases_lt n k);
}

pub open_within : (inner more : List ℕ) → IsBalanced inner → (j : ℕ) → j < length inner → closes_at (inner ++ more) j ≡ false
open_within inner more balanced j l =
    false_from_ne_true (closes_at (inner ++ more) j) (λ t.
    let parts = closes_at_parts (inner ++ more) j t in
    let here : get_or inner j 0 ≡ CLOSING = sym (get_or_append_left inner more 0 j l) ∙ parts.0 in
    let same : take j (inner ++ more) ≡ take j inner = take-append-le j inner more (omega arith) in
    let even : count_of OPENING (take j inner) ≡ count_of CLOSING (take j inner) = rw same at parts.1 in
    let differ : get_or inner j 0 ≡ OPENING → ⊥ = λ e. absurd (omega (arith, e, here)) in
    absurd (omega (arith, even, balanced.fronts (j + 1), count_of_more_same CLOSING inner j l here, count_of_more_other OPENING inner j l differ)))

-- ---- what is protected

pub split_at_closing : (text : List ℕ) (k : ℕ) → closes_at text k ≡ true → k < length text → text ≡ take k text ++ CLOSING ∷ drop (k + 1) text
split_at_closing text k is l =
    let here : get_or text k 0 ≡ CLOSING = (closes_at_parts text k is).0 in
    let rest : drop k text ≡ CLOSING ∷ drop (k + 1) text = drop_more text k 0 l ∙ ap (λ b. b ∷ drop (k + 1) text) here in
    sym (take-append-drop k text) ∙ ap (λ r. take k text ++ r) rest

-- what stands before a `)` is protected where it is balanced
pub protected_of_balanced : (text inner rest : List ℕ) → IsBalanced inner → text ≡ inner ++ CLOSING ∷ rest → protected text ≡ record { inner = inner; rest = rest }
protected_of_balanced text inner rest balanced e =
    rw e (rw found (rw (front, back) refl))
  where
    front : take (length inner) (inner ++ CLOSING ∷ rest) ≡ inner
    front = take_at inner (CLOSING ∷ rest) (length inner) refl

    back : drop (length inner + 1) (inner ++ CLOSING ∷ rest) ≡ rest
    back =
        rw (← append_assoc inner (CLOSING ∷ []) rest)
        (drop_at (inner ++ CLOSING ∷ []) rest (length inner + 1) (omega (arith, length-append inner (CLOSING ∷ []))))

    even : count_of OPENING (take (length inner) (inner ++ CLOSING ∷ rest)) ≡ count_of CLOSING (take (length inner) (inner ++ CLOSING ∷ rest))
    even = rw front balanced.even

    closes : closes_at (inner ++ CLOSING ∷ rest) (length inner) ≡ true
    closes = closes_at_true (inner ++ CLOSING ∷ rest) (length inner) (get_or_at inner CLOSING rest 0 (length inner) refl) even

    found : match_of (inner ++ CLOSING ∷ rest) ≡ Some (length inner)
    found =
        match_at (inner ++ CLOSING ∷ rest) (length inner) closes (open_within inner (CLOSING ∷ rest) balanced)
        (omega (arith, length-append inner (CLOSING ∷ rest)))

-- without a balanced text before a `)` all is protected
pub protected_of_unbalanced : (text : List ℕ) → ((inner rest : List ℕ) → IsBalanced inner → text ≡ inner ++ CLOSING ∷ rest → ⊥) → protected text ≡ record { inner = text; rest = [] }
protected_of_unbalanced text unbalanced = rw found refl
  where
    found : match_of text ≡ None
    found =
        ⊎_elim
        (λ (none : (k : ℕ) → k < length text → closes_at text k ≡ false). match_none text none)
        (λ (some : (k : ℕ) × (k < length text) × (closes_at text k ≡ true) × ((j : ℕ) → j < k → closes_at text j ≡ false)).
        absurd (unbalanced (take some.0 text) (drop (some.0 + 1) text)
        (balanced_before text some.0 some.2 some.3 some.1) (split_at_closing text some.0 some.2 some.1)))
        (first_place_cases (closes_at text) (length text))
