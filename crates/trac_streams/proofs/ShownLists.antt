-- Lists that are shown one after another.
use Rattle.std.proofs.Common.{◌≡◌, ℕ, zero, suc, ◌+◌, List, [], ◌∷◌, ◌++◌, take, sym, ap, ◌∙◌, arith}
use Rattle.std.specs.Prelude.{Some, slice_get}
use Rattle.std.specs.List.{flat_map}
use Rattle.std.proofs.lemmas.List.{append_assoc, append-nil}

-- what one element more adds
pub flat_map_more : {X A : Type 0} (f : X → List A) (xs : List X) (i : ℕ) (x : X) → slice_get xs i ≡ Some x → flat_map f (take (i + 1) xs) ≡ flat_map f (take i xs) ++ f x
flat_map_more f [] i x there = absurd (cc)
flat_map_more f (y ∷ ys) zero x there =
    let one : Some y ≡ Some x = there in
    let same : y ≡ x = cc in
    append-nil (f y) ∙ ap f same
flat_map_more {X} {A} f (y ∷ ys) (suc i) x there =
    let next : suc i + 1 ≡ suc (i + 1) = omega arith in
    ap (λ n. flat_map f (take n (y ∷ ys))) next
    ∙ ap (λ t. f y ++ t) (flat_map_more f ys i x there)
    ∙ sym (append_assoc (f y) (flat_map f (take i ys)) (f x))

-- after what was there
pub shown_more : {X : Type 0} (f : X → List ℕ) (xs : List X) (i : ℕ) (x : X) (old now after : List ℕ) → slice_get xs i ≡ Some x → now ≡ old ++ flat_map f (take i xs) →
    after ≡ now ++ f x → after ≡ old ++ flat_map f (take (i + 1) xs)
shown_more f xs i x old now after there so_far adds =
    adds ∙ ap (λ t. t ++ f x) so_far ∙ append_assoc old (flat_map f (take i xs)) (f x) ∙ ap (λ t. old ++ t) (sym (flat_map_more f xs i x there))
