-- One more item of a slice is copied into a row.
use Rattle.std.proofs.Common.{◌≡◌, ℕ, ◌+◌, ◌≤◌, ◌<◌, ◌++◌, List, [], ◌∷◌, Option, Some, length, take, get_or, set, map, sym, ap, ◌∙◌, add-one, arith}
use Rattle.std.proofs.lemmas.List.{map-append, length-map}
use Rattle.std.proofs.Math.Seq.{length-take-le, take-suc}
use Rattle.trac_gap.specs.Slots.{pasted}
use Rattle.trac_gap.proofs.Pasted.{length-pasted, set-pasted_after}

module _ {X : Type 0} (old now new : List (Option X)) where
  -- of a slice, into the places from at on
  module _ (xs : List X) (at i : ℕ) (fits : at + length xs ≤ length old) (more : i < length xs) (before : now ≡ pasted old at (map Some (take i xs))) where
    wrote : length (map Some (take i xs)) ≡ i
    wrote = length-map (take i xs) Some ∙ length-take-le i xs (omega arith)

    pub free_next : at + i < length now
    free_next = let same = length-pasted old at (map Some (take i xs)) (omega (arith, wrote)) in omega (arith, same, ap length before)

    pub wrote_next : (x : X) → x ≡ get_or xs i x → new ≡ set now (at + i) (Some x) → new ≡ pasted old at (map Some (take (i + 1) xs))
    wrote_next x is e =
        let ws = map Some (take i xs) in
        let next : take (i + 1) xs ≡ take i xs ++ x ∷ [] = ap (λ k. take k xs) (add-one i) ∙ take-suc xs i x more ∙ ap (λ y. take i xs ++ y ∷ []) (sym is) in
        let all : map Some (take (i + 1) xs) ≡ ws ++ Some x ∷ [] = ap (map Some) next ∙ map-append Some (take i xs) (x ∷ []) in
        e ∙ ap (λ l. set l (at + i) (Some x)) before ∙ set-pasted_after old at ws (Some x) (at + i) (ap (λ k. at + k) (sym wrote)) (omega arith) ∙ ap (pasted old at) (sym all)
