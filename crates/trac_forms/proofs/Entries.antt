-- Lists of which two places are exchanged, and their first items.
use Rattle.std.proofs.Common.{◌≡◌, ℕ, zero, suc, ◌+◌, ◌<◌, ◌≤◌, Bool, true, false, ◌||◌, List, [], ◌∷◌, length, get_or, set, swap, take, sym, refl, ap, subst, ◌∙◌, arith, ⊎_elim}
use Rattle.std.specs.List.{list_any}
use Rattle.std.specs.List.Sorted.{IsPermutation}
use Rattle.std.specs.Map.{keys_of}
use Rattle.std.proofs.lemmas.Bool.{cases_Bool}
use Rattle.std.proofs.lemmas.Bool.Decides.{nat_tests}
use Rattle.std.proofs.lemmas.List.{get_or-take, length-take}
use Rattle.std.proofs.lemmas.List.Edits.{length-swap}
use Rattle.std.proofs.lemmas.List.Folds.{list_any_at, list_any_more}
use Rattle.std.proofs.lemmas.List.Sorted.{IsPermutation-refl, IsPermutation-swap}
use Rattle.std.proofs.lemmas.Map.Entries.{length-keys_of}
use Rattle.indexmap.specs.IndexMap.{set_value_at}
use Rattle.indexmap.proofs.ReorderLemmas.{exchange, get_or-swap, map-swap}

pub take-take-le : {X : Type 0} (m n : ℕ) (xs : List X) → m ≤ n → take m (take n xs) ≡ take m xs
take-take-le zero n xs less = refl
take-take-le (suc m) zero xs less = absurd (omega arith)
take-take-le (suc m) (suc n) [] less = refl
take-take-le (suc m) (suc n) (x ∷ xs) less = ap (λ l. x ∷ l) (take-take-le m n xs (omega arith))

-- a write further on
take-past : {X : Type 0} (n : ℕ) (xs : List X) (i : ℕ) (y : X) → n ≤ i → take n (set xs i y) ≡ take n xs
take-past zero xs i y past = refl
take-past (suc n) [] i y past = refl
take-past (suc n) (x ∷ xs) zero y past = absurd (omega arith)
take-past (suc n) (x ∷ xs) (suc i) y past = ap (λ l. x ∷ l) (take-past n xs i y (omega arith))

-- any write
take-set : {X : Type 0} (n : ℕ) (xs : List X) (i : ℕ) (y : X) → take n (set xs i y) ≡ set (take n xs) i y
take-set zero xs i y = refl
take-set (suc n) [] i y = refl
take-set (suc n) (x ∷ xs) zero y = refl
take-set (suc n) (x ∷ xs) (suc i) y = ap (λ l. x ∷ l) (take-set n xs i y)

-- two of the first places are exchanged
pub take-swap : {X : Type 0} (n : ℕ) (xs : List X) (i j : ℕ) → i < n → j < n → take n (swap xs i j) ≡ swap (take n xs) i j
take-swap zero xs i j a b = absurd (omega arith)
take-swap (suc n) [] i j a b = refl
take-swap (suc n) (x ∷ xs) i j a b =
    let front = x ∷ take n xs in
    take-set (suc n) (set (x ∷ xs) i (get_or (x ∷ xs) j x)) j (get_or (x ∷ xs) i x)
    ∙ ap (λ l. set l j (get_or (x ∷ xs) i x)) (take-set (suc n) (x ∷ xs) i (get_or (x ∷ xs) j x))
    ∙ ap (λ y. set (set front i y) j (get_or (x ∷ xs) i x)) (sym (get_or-take (suc n) (x ∷ xs) j x b))
    ∙ ap (λ y. set (set front i (get_or front j x)) j y) (sym (get_or-take (suc n) (x ∷ xs) i x a))

set-again : {X : Type 0} (xs : List X) (i : ℕ) (d : X) → set xs i (get_or xs i d) ≡ xs
set-again [] i d = refl
set-again (x ∷ xs) zero d = refl
set-again (x ∷ xs) (suc i) d = ap (λ l. x ∷ l) (set-again xs i d)

-- a place is exchanged with itself
pub swap-same : {X : Type 0} (xs : List X) (i : ℕ) → swap xs i i ≡ xs
swap-same [] i = refl
swap-same (x ∷ xs) i = ap (λ l. set l i (get_or (x ∷ xs) i x)) (set-again (x ∷ xs) i x) ∙ set-again (x ∷ xs) i x

-- the first items are those they were, where the places are further on
take-swap-past : {X : Type 0} (n : ℕ) (xs : List X) (i j : ℕ) → n ≤ i → n ≤ j → take n (swap xs i j) ≡ take n xs
take-swap-past n [] i j a b = refl
take-swap-past n (x ∷ xs) i j a b =
    take-past n (set (x ∷ xs) i (get_or (x ∷ xs) j x)) j (get_or (x ∷ xs) i x) b ∙ take-past n (x ∷ xs) i (get_or (x ∷ xs) j x) a

or_turned : (a b : Bool) → (a || b) ≡ (b || a)
or_turned true true = refl
or_turned true false = refl
or_turned false true = refl
or_turned false false = refl

-- an item is put among the first, where it is not one of them: which tests they pass
module _ {K : Type 0} (p : K → Bool) (ks : List K) (n i : ℕ) (d : K) (mark : n ≤ length ks) (within : i < length ks) where
  pub any_among : i < n → list_any p (take n (swap ks i i)) ≡ (p (get_or ks i d) || list_any p (take n ks))
  any_among below =
      ap (λ l. list_any p (take n l)) (swap-same ks i)
      ∙ ⊎_elim
      (λ (t : p (get_or ks i d) ≡ true).
      list_any_at p (take n ks) i d (omega (arith, length-take n ks)) (ap p (get_or-take n ks i d below) ∙ t) ∙ sym (ap (λ b. b || list_any p (take n ks)) t))
      (λ (t : p (get_or ks i d) ≡ false). sym (ap (λ b. b || list_any p (take n ks)) t))
      (cases_Bool (p (get_or ks i d)))

  pub any_with : n ≤ i → list_any p (take (n + 1) (swap ks i n)) ≡ (p (get_or ks i d) || list_any p (take n ks))
  any_with past =
      let there : exchange i n n ≡ i = grind (arith, nat_tests) in
      list_any_more p (swap ks i n) n d (omega (arith, length-swap ks i n))
      ∙ ap (λ l. list_any p l || p (get_or (swap ks i n) n d)) (take-swap-past n ks i n past (omega arith))
      ∙ ap (λ k. list_any p (take n ks) || p k) (get_or-swap ks i n d within (omega arith) n ∙ ap (λ j. get_or ks j d) there)
      ∙ or_turned (list_any p (take n ks)) (p (get_or ks i d))

-- ---- entries, of which a value is written

module _ {K X : Type 0} where
  keys-written : (es : List (K × X)) (i : ℕ) (w : X) → keys_of (set_value_at es i w) ≡ keys_of es
  keys-written [] i w = refl
  keys-written (e ∷ es) zero w = refl
  keys-written (e ∷ es) (suc i) w = ap (λ ks. e.0 ∷ ks) (keys-written es i w)

  module _ (n : ℕ) (es new : List (K × X)) (i : ℕ) (w : X) where
    -- the first names are the same
    pub first_written : new ≡ set_value_at es i w → IsPermutation (take n (keys_of es)) (take n (keys_of new))
    first_written is =
        subst (λ (ks : List K). IsPermutation (take n (keys_of es)) (take n ks)) (sym (ap keys_of is ∙ keys-written es i w)) (IsPermutation-refl (take n (keys_of es)))

    -- and where two of the first entries are exchanged
    pub first_swapped : (j : ℕ) → new ≡ swap (set_value_at es i w) i j → i < n → j < n → n ≤ length es → IsPermutation (take n (keys_of es)) (take n (keys_of new))
    first_swapped j is below less all =
        IsPermutation-swap (take n (keys_of es)) (take n (keys_of new)) i j (omega (arith, length-take n (keys_of es), length-keys_of es, all, below)) (omega (arith, length-take n (keys_of es), length-keys_of es, all, less))
        (ap (λ (fs : List (K × X)). take n (keys_of fs)) is
        ∙ ap (take n) (map-swap (λ e. e.0) (set_value_at es i w) i j)
        ∙ ap (λ ks. take n (swap ks i j)) (keys-written es i w)
        ∙ take-swap n (keys_of es) i j below less)
