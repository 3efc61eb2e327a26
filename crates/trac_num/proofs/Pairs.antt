-- Two lists, item by item.
use Rattle.std.proofs.Common.{◌≡◌, ℕ, ◌+◌, ◌<◌, ◌≤◌, Bool, true, false, List, [], ◌∷◌, ◌++◌, length, take, get_or, replicate, map, refl, sym, ap, ◌∙◌, arith}
use Rattle.std.specs.Prelude.{◌||◌, zip}
use Rattle.std.proofs.lemmas.List.{take_all, take_more, length-take-le}

-- what a function of two items makes of each two that stand at the same place
abbrev pub pairwise : {X Y Z : Type 0} → (X → Y → Z) → List X → List Y → List Z
pairwise f xs ys = map (λ p. f p.0 p.1) (zip xs ys)

-- fronts of the same length, and then the rests
pub pairwise-append : {X Y Z : Type 0} (f : X → Y → Z) (xs xs' : List X) (ys ys' : List Y) → length xs ≡ length ys → pairwise f (xs ++ xs') (ys ++ ys') ≡ pairwise f xs ys ++ pairwise f xs' ys'
pairwise-append f [] xs' [] ys' e = refl
pairwise-append f [] xs' (y ∷ ys) ys' e = absurd (omega arith)
pairwise-append f (x ∷ xs) xs' [] ys' e = absurd (omega arith)
pairwise-append f (x ∷ xs) xs' (y ∷ ys) ys' e = ap (λ t. f x y ∷ t) (pairwise-append f xs xs' ys ys' (omega arith))

-- one more place
pub pairwise_more : {X Y Z : Type 0} (f : X → Y → Z) (xs : List X) (ys : List Y) (i : ℕ) (d : X) (e : Y) → i < length xs → i < length ys → pairwise f (take (i + 1) xs) (take (i + 1) ys) ≡ pairwise f (take i xs) (take i ys) ++ f (get_or xs i d) (get_or ys i e) ∷ []
pairwise_more f xs ys i d e p q =
    rw (take_more xs i d p, take_more ys i e q)
    (pairwise-append f (take i xs) (get_or xs i d ∷ []) (take i ys) (get_or ys i e ∷ [])
    (length-take-le i xs (omega arith) ∙ sym (length-take-le i ys (omega arith))))

pub pairwise_comm : {X Z : Type 0} (f : X → X → Z) → ((x y : X) → f x y ≡ f y x) → (xs ys : List X) → pairwise f xs ys ≡ pairwise f ys xs
pairwise_comm f turn [] [] = refl
pairwise_comm f turn [] (y ∷ ys) = refl
pairwise_comm f turn (x ∷ xs) [] = refl
pairwise_comm f turn (x ∷ xs) (y ∷ ys) = rw (turn x y, pairwise_comm f turn xs ys) refl

or_false : (x : Bool) → (x || false) ≡ x
or_false true = refl
or_false false = refl

pub or_zeros : (xs : List Bool) → pairwise ◌||◌ xs (replicate (length xs) false) ≡ xs
or_zeros [] = refl
or_zeros (x ∷ xs) = rw (or_false x, or_zeros xs) refl

-- one more place of two texts
pub pairwise_next : (f : ℕ → ℕ → ℕ) (xs ys : List ℕ) (i : ℕ) → i < length xs → i < length ys → pairwise f (take (i + 1) xs) (take (i + 1) ys) ≡ pairwise f (take i xs) (take i ys) ++ f (get_or xs i 0) (get_or ys i 0) ∷ []
pairwise_next f xs ys i p q = pairwise_more f xs ys i 0 0 p q

pub pairwise_all : (f : ℕ → ℕ → ℕ) (xs ys : List ℕ) (i : ℕ) → length xs ≡ length ys → length xs ≤ i → pairwise f (take i xs) (take i ys) ≡ pairwise f xs ys
pairwise_all f xs ys i e l = rw (take_all i xs l, take_all i ys (omega (arith, e, l))) refl
