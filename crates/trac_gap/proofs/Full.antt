-- Rows in which every place has an item, and the items that they hold.
use Rattle.std.proofs.Common.{◌≡◌, ℕ, zero, suc, ◌≤◌, ◌<◌, ◌++◌, List, [], ◌∷◌, Option, Some, None, IsSome, length, take, drop, get_or, map, refl, sym, ap, ◌∙◌, arith}
use Rattle.std.proofs.lemmas.List.{take-append-drop, map-append, length-map}
use Rattle.std.proofs.Math.Seq.{take-append_seam, drop-append_seam, length-take-le}
use Rattle.trac_gap.specs.Slots.{items_of, IsFull}

module _ {X : Type 0} where
  pub items_of-append : (a b : List (Option X)) → items_of (a ++ b) ≡ items_of a ++ items_of b
  items_of-append [] b = refl
  items_of-append (None ∷ a) b = items_of-append a b
  items_of-append (Some x ∷ a) b = ap (λ xs. x ∷ xs) (items_of-append a b)

  pub items_of-map : (xs : List X) → items_of (map Some xs) ≡ xs
  items_of-map [] = refl
  items_of-map (x ∷ xs) = ap (λ ys. x ∷ ys) (items_of-map xs)

  pub IsFull-map : (xs : List X) → IsFull (map Some xs)
  IsFull-map xs = ap (map Some) (sym (items_of-map xs))

  pub length-items_of : (a : List (Option X)) → IsFull a → length (items_of a) ≡ length a
  length-items_of a full = sym (ap length full ∙ length-map (items_of a) Some)

  -- full rows, one after the other
  pub full_both : (a b c : List (Option X)) → c ≡ a ++ b → IsFull a → IsFull b → IsFull c × (items_of c ≡ items_of a ++ items_of b)
  full_both a b c e f g =
      let items : items_of c ≡ items_of a ++ items_of b = ap items_of e ∙ items_of-append a b in
      let parts : map Some (items_of a ++ items_of b) ≡ map Some (items_of a) ++ map Some (items_of b) = map-append Some (items_of a) (items_of b) in
      let joined : a ++ b ≡ map Some (items_of a) ++ map Some (items_of b) = (λ i. f i ++ g i) in
      (e ∙ joined ∙ sym parts ∙ ap (map Some) (sym items), items)

  no_item : (cs : List (Option X)) (xs : List X) → None ∷ cs ≡ map Some xs → ⊥
  no_item cs [] e = cc
  no_item cs (x ∷ xs) e = cc

  after : (x : X) (cs : List (Option X)) → IsFull (Some x ∷ cs) → IsFull cs
  after x cs e = cc

  -- the parts of a full row are full
  pub full_parts : (a b : List (Option X)) → IsFull (a ++ b) → IsFull a × IsFull b
  full_parts [] b full = (refl, full)
  full_parts (None ∷ a) b full = absurd (no_item (a ++ b) (items_of (a ++ b)) full)
  full_parts (Some x ∷ a) b full = let rest = full_parts a b (after x (a ++ b) full) in (ap (λ cs. Some x ∷ cs) rest.0, rest.1)

  -- the first k places of a full row, and the others
  module _ (k : ℕ) (cs : List (Option X)) (full : IsFull cs) where
    parts : IsFull (take k cs) × IsFull (drop k cs)
    parts = full_parts (take k cs) (drop k cs) (rw take-append-drop full)

    whole : items_of cs ≡ items_of (take k cs) ++ items_of (drop k cs)
    whole = ap items_of (sym (take-append-drop k cs)) ∙ items_of-append (take k cs) (drop k cs)

    pub IsFull-take : IsFull (take k cs)
    IsFull-take = parts.0

    pub IsFull-drop : IsFull (drop k cs)
    IsFull-drop = parts.1

    module _ (within : k ≤ length cs) where
      long : length (items_of (take k cs)) ≡ k
      long = length-items_of (take k cs) parts.0 ∙ length-take-le k cs within

      pub items_of-take : items_of (take k cs) ≡ take k (items_of cs)
      items_of-take = sym (ap (λ n. take n (items_of cs)) (sym long) ∙ ap (take (length (items_of (take k cs)))) whole ∙ take-append_seam (items_of (take k cs)) (items_of (drop k cs)))

      pub items_of-drop : items_of (drop k cs) ≡ drop k (items_of cs)
      items_of-drop = sym (ap (λ n. drop n (items_of cs)) (sym long) ∙ ap (drop (length (items_of (take k cs)))) whole ∙ drop-append_seam (items_of (take k cs)) (items_of (drop k cs)))

  -- a place of a full row has an item
  pub some_at : (cs : List (Option X)) (i : ℕ) → IsFull cs → i < length cs → IsSome (get_or cs i None)
  some_at [] i full h = absurd (omega arith)
  some_at (None ∷ cs) i full h = absurd (no_item cs (items_of cs) full)
  some_at (Some x ∷ cs) zero full h = refl
  some_at (Some x ∷ cs) (suc i) full h = some_at cs i (after x cs full) (omega arith)
