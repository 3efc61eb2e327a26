-- Two lists of one length, in a relation place by place.
use Rattle.std.proofs.Common.{◌≡◌, ℕ, zero, suc, ◌+◌, ◌<◌, true, false, List, [], ◌∷◌, ◌++◌, length, take, drop, get_or, refl, sym, ap, subst, ◌∙◌, arith, ⊎_elim}
use Rattle.std.specs.Prelude.{Some, ◌==◌, slice_get}
use Rattle.std.specs.List.{flat_map}
use Rattle.std.proofs.lemmas.Bool.{cases_Bool, cond-true, cond-false, eqb-true}
use Rattle.std.proofs.lemmas.Option.{same_Some}
use Rattle.trac_origins.specs.Places.{Origin, numbered}
use Rattle.trac_origins.specs.Lists.{one_each}

pub data Zip {A B : Type 0} (R : A → B → Type 0) : List A → List B → Type 0 where
  ends : Zip R [] []
  beside : {x : A} {y : B} {xs : List A} {ys : List B} → R x y → Zip R xs ys → Zip R (x ∷ xs) (y ∷ ys)

module _ {A B : Type 0} {R : A → B → Type 0} where
  pub appended : {xs us : List A} {ys vs : List B} → Zip R xs ys → Zip R us vs → Zip R (xs ++ us) (ys ++ vs)
  appended ends k = k
  appended (beside r h) k = beside r (appended h k)

  pub taken : (n : ℕ) {xs : List A} {ys : List B} → Zip R xs ys → Zip R (take n xs) (take n ys)
  taken zero h = ends
  taken (suc n) ends = ends
  taken (suc n) (beside r h) = beside r (taken n h)

  pub dropped : (n : ℕ) {xs : List A} {ys : List B} → Zip R xs ys → Zip R (drop n xs) (drop n ys)
  dropped zero h = h
  dropped (suc n) ends = ends
  dropped (suc n) (beside r h) = dropped n h

  pub same_length : {xs : List A} {ys : List B} → Zip R xs ys → length xs ≡ length ys
  same_length ends = refl
  same_length (beside r h) = ap suc (same_length h)

  pub related : {xs : List A} {ys : List B} → Zip R xs ys → (i : ℕ) (d : A) (y : B) → slice_get ys i ≡ Some y → R (get_or xs i d) y
  related ends i d y e = absurd (cc)
  related (beside {x = x} {y = z} r h) zero d y e = subst (λ (w : B). R x w) (same_Some z y e) r
  related (beside r h) (suc i) d y e = related h i d y e

  pub related_or : {xs : List A} {ys : List B} → Zip R xs ys → (i : ℕ) (d : A) (e : B) → R d e → R (get_or xs i d) (get_or ys i e)
  related_or ends i d e r = r
  related_or (beside q h) zero d e r = q
  related_or (beside q h) (suc i) d e r = related_or h i d e r

  pub related_number : {xs : List A} {ys : List B} → Zip R xs ys → (n : ℕ) (y : B) → numbered n ys ≡ Some y → (x : A) × (numbered n xs ≡ Some x) × R x y
  related_number ends n y e = absurd (cc)
  related_number (beside {x = x} {y = z} {xs = xs} {ys = ys} r h) n y e =
      ⊎_elim
      (λ (t : (n == length ys) ≡ true).
      let same : z ≡ y = same_Some z y (sym (cond-true (n == length ys) (Some z) (numbered n ys) t) ∙ e) in
      (x, cond-true (n == length xs) (Some x) (numbered n xs) (ap (λ k. n == k) (same_length h) ∙ t), subst (λ (w : B). R x w) same r))
      (λ (t : (n == length ys) ≡ false).
      let later = related_number h n y (sym (cond-false (n == length ys) (Some z) (numbered n ys) t) ∙ e) in
      (later.0, cond-false (n == length xs) (Some x) (numbered n xs) (ap (λ k. n == k) (same_length h) ∙ t) ∙ later.1, later.2))
      (cases_Bool (n == length ys))

  pub all_given : {C : Type 0} (f : C → List A) (g : C → List B) → ((c : C) → Zip R (f c) (g c)) → (cs : List C) → Zip R (flat_map f cs) (flat_map g cs)
  all_given f g h [] = ends
  all_given f g h (c ∷ cs) = appended (h c) (all_given f g h cs)

-- an origin for each
pub each : {B : Type 0} (R : Origin → B → Type 0) (from : ℕ → Origin) (ys : List B) → ((i : ℕ) (y : B) → slice_get ys i ≡ Some y → R (from i) y) → Zip R (one_each from ys) ys
each R from [] h = ends
each R from (y ∷ ys) h = beside (h 0 y refl) (each R (λ i. from (suc i)) ys (λ i z e. h (suc i) z e))

-- ---- what stands at a place of a list

pub of_taken : {X : Type 0} (k : ℕ) (xs : List X) (i : ℕ) (x : X) → slice_get (take k xs) i ≡ Some x → (i < k) × (slice_get xs i ≡ Some x)
of_taken zero xs i x e = absurd (cc)
of_taken (suc k) [] i x e = absurd (cc)
of_taken (suc k) (y ∷ xs) zero x e = (omega arith, e)
of_taken (suc k) (y ∷ xs) (suc i) x e = let later = of_taken k xs i x e in (omega (arith, later.0), later.1)

pub of_dropped : {X : Type 0} (n : ℕ) (xs : List X) (i : ℕ) → slice_get (drop n xs) i ≡ slice_get xs (n + i)
of_dropped zero xs i = let same : i ≡ zero + i = omega arith in ap (slice_get xs) same
of_dropped (suc n) [] i = refl
of_dropped (suc n) (y ∷ xs) i = let same : suc (n + i) ≡ suc n + i = omega arith in of_dropped n xs i ∙ ap (slice_get (y ∷ xs)) same

pub of_more : {X : Type 0} (xs ys : List (List X)) (k i : ℕ) (x : X) → slice_get (get_or xs k []) i ≡ Some x → slice_get (get_or (xs ++ ys) k []) i ≡ Some x
of_more [] ys k i x e = absurd (cc)
of_more (y ∷ xs) ys zero i x e = e
of_more (y ∷ xs) ys (suc k) i x e = of_more xs ys k i x e

pub number_within : {X : Type 0} (n : ℕ) (xs : List X) (x : X) → numbered n xs ≡ Some x → n < length xs
number_within n [] x e = absurd (cc)
number_within n (y ∷ xs) x e =
    ⊎_elim
    (λ (t : (n == length xs) ≡ true). omega (arith, eqb-true n (length xs) t))
    (λ (t : (n == length xs) ≡ false). omega (arith, number_within n xs x (sym (cond-false (n == length xs) (Some y) (numbered n xs) t) ∙ e)))
    (cases_Bool (n == length xs))
