-- A row of places, each of which is empty or has an item.
use Rattle.std.specs.Prelude.{◌≡◌, ℕ, ◌+◌, ◌≤◌, List, [], ◌∷◌, ◌++◌, map, length, take, drop, Option, Some, None}

-- the items that are there, in order
abbrev pub items_of : {X : Type 0} → List (Option X) → List X
items_of [] = []
items_of (None ∷ cs) = items_of cs
items_of (Some x ∷ cs) = x ∷ items_of cs

module _ {X : Type 0} where
  -- every place has an item
  abbrev pub IsFull : List (Option X) → Type 0
  IsFull cs = cs ≡ map Some (items_of cs)

  -- the n places from the place i on
  abbrev pub run : ℕ → ℕ → List X → List X
  run i n cs = take n (drop i cs)

  -- the row with the places from i on as ws has them
  unfoldable pub pasted : List X → ℕ → List X → List X
  pasted cs i ws = take i cs ++ (ws ++ drop (i + length ws) cs)

  -- the row ds has at the place j what cs has at the place i, n places long, and is as cs below both and above both
  pub record IsShifted (cs : List X) (i j n : ℕ) (ds : List X) : Type 0 where
    pub count : length ds ≡ length cs
    pub moved : run j n ds ≡ run i n cs
    pub below : (k : ℕ) → k ≤ i → k ≤ j → take k ds ≡ take k cs
    pub above : (k : ℕ) → i + n ≤ k → j + n ≤ k → drop k ds ≡ drop k cs
