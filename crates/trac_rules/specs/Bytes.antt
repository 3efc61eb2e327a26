-- Texts are lists of bytes. Empty is the empty list.
use Rattle.std.specs.Prelude.{ℕ, zero, suc, ◌==◌, List, [], ◌∷◌, if◌then◌else◌, Bool, cond, Option, None, Some, codes}

-- how often a byte stands in a text
abbrev pub count_of : ℕ → List ℕ → ℕ
count_of b [] = 0
count_of b (x ∷ xs) = if x == b then suc (count_of b xs) else count_of b xs

-- the longest tail of a text that passes the test; empty if none does
abbrev pub longest_tail : (List ℕ → Bool) → List ℕ → List ℕ
longest_tail passes [] = []
longest_tail passes (b ∷ bs) = if passes (b ∷ bs) then b ∷ bs else longest_tail passes bs

-- the first of the places below n that passes the test
abbrev pub first_place : (ℕ → Bool) → ℕ → Option ℕ
first_place passes zero = None
first_place passes (suc n) = or_next (first_place passes n) (cond (passes n) (Some n) None)
  where
    or_next : Option ℕ → Option ℕ → Option ℕ
    or_next None next = next
    or_next (Some k) next = Some k

-- the last of the places below n that passes the test
abbrev pub last_place : (ℕ → Bool) → ℕ → Option ℕ
last_place passes zero = None
last_place passes (suc n) = cond (passes n) (Some n) (last_place passes n)

-- what a processor with nothing to do runs: it reads a text of the input, scans it, and prints what that leaves
abbrev pub idle_program : List ℕ
idle_program = codes "#(ps,#(rs))"
