-- Lists from their ends.
use Rattle.std.proofs.Common.{◌≡◌, ℕ, zero, suc, ◌+◌, ◌-◌, ◌<◌, ◌≤◌, List, [], ◌∷◌, ◌++◌, length, take, drop, get_or, map, refl, sym, ap, ◌∙◌, arith}
use Rattle.std.specs.Prelude.{reverse}
use Rattle.std.proofs.lemmas.List.{drop-drop, drop_at, length-append, length-drop, length-take-le, nil_from_length, take-append-drop, take_at}
use Rattle.trac_rules.specs.Records.{all_before_last, last_of}
use Rattle.trac_text.proofs.Marking.{reverse_push}

-- ---- what stands at the end

last_apart : {X : Type 0} (xs : List X) (x : X) (n : ℕ) → length xs ≡ n + 1 → x ≡ get_or xs n x → xs ≡ take n xs ++ x ∷ []
last_apart [] x n many is = absurd (omega (arith, many))
last_apart (y ∷ xs) x zero many is =
    let none : xs ≡ [] = nil_from_length xs (omega (arith, many)) in
    λ i. sym is i ∷ none i
last_apart {X} (y ∷ xs) x (suc n) many is = ap (λ (rest : List X). y ∷ rest) (last_apart xs x n (omega (arith, many)) is)

-- what is left without the last
pub last_out : {X : Type 0} (xs left : List X) (x : X) (count : ℕ) → 0 < count → count ≡ length xs → x ≡ get_or xs (count - 1) x → left ≡ take (count - 1) xs → xs ≡ left ++ x ∷ []
last_out {X} xs left x count some many is rest =
    last_apart xs x (count - 1) (omega (arith, some, many)) is ∙ ap (λ (ys : List X). ys ++ x ∷ []) (sym rest)

-- the last of a list stands first in reverse
pub last_first : {X : Type 0} (xs : List X) (x : X) (n : ℕ) → length xs ≡ n + 1 → x ≡ get_or xs n x → reverse xs ≡ x ∷ reverse (take n xs)
last_first xs x n many is = ap reverse (last_apart xs x n many is) ∙ reverse_push (take n xs) x

-- of a list that is seen through a function, the newest first, it is the newest
pub push_seen : {X Y : Type 0} (f : X → Y) (xs others : List X) (x : X) (ys : List Y) → map f (reverse xs) ≡ ys → xs ≡ others ++ x ∷ [] →
    ys ≡ f x ∷ map f (reverse others)
push_seen {X} f xs others x ys seen is = sym seen ∙ ap (λ (zs : List X). map f (reverse zs)) is ∙ ap (map f) (reverse_push others x)

-- ---- the last n of a list, and those before them

pub length-last : (n : ℕ) (xs : List ℕ) → n ≤ length xs → length (last_of n xs) ≡ n
length-last n xs few = omega (arith, few, length-drop (length xs - n) xs)

pub last-append : (xs ys : List ℕ) (n : ℕ) → n ≡ length ys → last_of n (xs ++ ys) ≡ ys
last-append xs ys n is = drop_at xs ys (length (xs ++ ys) - n) (omega (arith, is, length-append xs ys))

pub before-append : (xs ys : List ℕ) (n : ℕ) → n ≡ length ys → all_before_last n (xs ++ ys) ≡ xs
before-append xs ys n is = take_at xs ys (length (xs ++ ys) - n) (omega (arith, is, length-append xs ys))

-- with others in front
pub last-after : (xs ys : List ℕ) (n : ℕ) → n ≤ length ys → last_of n (xs ++ ys) ≡ last_of n ys
last-after xs ys n few =
    let e : length (xs ++ ys) - n ≡ length xs + (length ys - n) = omega (arith, few, length-append xs ys) in
    ap (λ j. drop j (xs ++ ys)) e
    ∙ sym (drop-drop (length ys - n) (length xs) (xs ++ ys))
    ∙ ap (drop (length ys - n)) (drop_at xs ys (length xs) refl)

-- both make the list
pub ends_joined : (n : ℕ) (xs : List ℕ) → all_before_last n xs ++ last_of n xs ≡ xs
ends_joined n xs = take-append-drop (length xs - n) xs

-- the last n of the last n
pub last-last : (n : ℕ) (xs : List ℕ) → n ≤ length xs → last_of n (last_of n xs) ≡ last_of n xs
last-last n xs few =
    let none : length (last_of n xs) - n ≡ 0 = omega (arith, length-last n xs few) in
    ap (λ k. drop k (last_of n xs)) none

pub before-last : (n : ℕ) (xs : List ℕ) → n ≤ length xs → all_before_last n (last_of n xs) ≡ []
before-last n xs few =
    let none : length (last_of n xs) - n ≡ 0 = omega (arith, length-last n xs few) in
    ap (λ k. take k (last_of n xs)) none

-- where nothing stands before the last n there are n
pub length-alone : (n : ℕ) (xs : List ℕ) → n ≤ length xs → all_before_last n xs ≡ [] → length xs ≡ n
length-alone n xs few none = omega (arith, few, ap (λ (ys : List ℕ). length ys) none, length-take-le (length xs - n) xs (omega arith))
