-- A run is copied within the row in parts: what is read of the next part, and what is written with it.
use Rattle.std.proofs.Common.{◌≡◌, ℕ, ◌+◌, ◌-◌, ◌≤◌, ◌++◌, List, Option, length, take, drop, sym, ap, subst, ◌∙◌, append_assoc, arith, length-append, length-drop}
use Rattle.std.proofs.lemmas.List.{take-append-drop, take-take, drop-take, drop-drop}
use Rattle.std.proofs.Math.Seq.{length-take-le, take-add}
use Rattle.trac_gap.specs.Slots.{IsFull, run, pasted}
use Rattle.trac_gap.proofs.Full.{IsFull-take, IsFull-drop}
use Rattle.trac_gap.proofs.Pasted.{length-pasted, take-pasted, drop-pasted, take-pasted_before, drop-pasted_after}

-- one part is written right after others, or right before them
module _ {X : Type 0} (cs : List X) (ws vs : List X) where
  pasted_after : (i j : ℕ) → j ≡ i + length ws → i + length (ws ++ vs) ≤ length cs → pasted (pasted cs i ws) j vs ≡ pasted cs i (ws ++ vs)
  unfolding pasted
  pasted_after i j at within =
      let both = length-append ws vs in let fits : i + length ws ≤ length cs = omega (arith, both) in
      let front : take j (pasted cs i ws) ≡ take i cs ++ ws = ap (λ k. take k (pasted cs i ws)) at ∙ take-pasted cs i ws fits in
      let more : j + length vs ≡ i + length (ws ++ vs) = omega (arith, both) in
      let back : drop (j + length vs) (pasted cs i ws) ≡ drop (i + length (ws ++ vs)) cs = drop-pasted_after cs i ws fits (j + length vs) (omega arith) ∙ ap (λ k. drop k cs) more in
      (λ n. front n ++ (vs ++ back n)) ∙ append_assoc (take i cs) ws (vs ++ drop (i + length (ws ++ vs)) cs)
      ∙ ap (λ l. take i cs ++ l) (sym (append_assoc ws vs (drop (i + length (ws ++ vs)) cs)))

  pasted_before : (i j : ℕ) → j ≡ i + length vs → j + length ws ≤ length cs → pasted (pasted cs j ws) i vs ≡ pasted cs i (vs ++ ws)
  unfolding pasted
  pasted_before i j at fits =
      let more : j + length ws ≡ i + length (vs ++ ws) = omega (arith, length-append vs ws) in
      let front : take i (pasted cs j ws) ≡ take i cs = take-pasted_before cs j ws fits i (omega arith) in
      let back : drop (i + length vs) (pasted cs j ws) ≡ ws ++ drop (i + length (vs ++ ws)) cs = ap (λ k. drop k (pasted cs j ws)) (sym at) ∙ drop-pasted cs j ws fits ∙ ap (λ k. ws ++ drop k cs) more in
      (λ n. front n ++ (vs ++ back n)) ∙ ap (λ l. take i cs ++ l) (sym (append_assoc vs ws (drop (i + length (vs ++ ws)) cs)))

module _ {X : Type 0} (old now new : List (Option X)) (from to count : ℕ) (full : IsFull (run from count old)) (i n : ℕ) where
  abbrev ws : List (Option X)
  ws = run from count old

  -- the n items of the run from the i-th on
  abbrev part : List (Option X)
  part = take n (drop i ws)

  part_full : IsFull part
  part_full = IsFull-take n (drop i ws) (IsFull-drop i ws full)

  part_is : i + n ≤ count → run (from + i) n old ≡ part
  part_is h =
      let r = count - i in let all : count ≡ i + r = omega arith in
      let rest : drop i ws ≡ take r (drop (from + i) old) = ap (λ k. drop i (take k (drop from old))) all ∙ drop-take i r (drop from old) ∙ ap (take r) (drop-drop i from old) in
      sym (ap (take n) rest ∙ take-take n r (drop (from + i) old) (omega arith))

  -- to lower places: the first i are copied
  module _ (more : i + n ≤ count) (fits : from + count ≤ length old) (down : to ≤ from) (before : now ≡ pasted old to (take i ws)) where
    long : length ws ≡ count
    long = length-take-le count (drop from old) (omega (arith, length-drop from old))

    copied : length (take i ws) ≡ i
    copied = length-take-le i ws (omega (arith, long))

    same : length now ≡ length old
    same = ap length before ∙ length-pasted old to (take i ws) (omega (arith, copied))

    kept : run (from + i) n now ≡ part
    kept = ap (run (from + i) n) before ∙ ap (take n) (drop-pasted_after old to (take i ws) (omega (arith, copied)) (from + i) (omega (arith, copied))) ∙ part_is more

    pub part_down : (from + i + n ≤ length now) × (to + i + n ≤ length now) × (length now ≡ length old) × IsFull (run (from + i) n now)
    part_down = (omega (arith, same), omega (arith, same), same, subst IsFull (sym kept) part_full)

    pub joined_down : new ≡ pasted now (to + i) (run (from + i) n now) → new ≡ pasted old to (take (i + n) ws)
    joined_down e =
        let whole = take-add i n ws in
        e ∙ (λ k. pasted (before k) (to + i) (kept k))
        ∙ pasted_after old (take i ws) part to (to + i) (omega (arith, copied)) (omega (arith, ap length whole, length-take-le (i + n) ws (omega (arith, long))))
        ∙ ap (pasted old to) (sym whole)

    pub joined_first : (m : ℕ) → n ≤ m → new ≡ pasted now (to + i) (take n (run (from + i) m now)) → new ≡ pasted old to (take (i + n) ws)
    joined_first m h e = joined_down (e ∙ ap (pasted now (to + i)) (take-take n m (drop (from + i) now) h))

  -- to higher places: all from the left-th on are copied, and the part at the place a goes to the place z
  module _ (left a z : ℕ) (ends : left ≡ i + n) (at : a ≡ from + i) (goes : z ≡ to + i) (more : left ≤ count) (fits : to + count ≤ length old) (up : from ≤ to) (before : now ≡ pasted old (to + left) (drop left ws)) where
    long_up : length ws ≡ count
    long_up = length-take-le count (drop from old) (omega (arith, length-drop from old))

    others : length (drop left ws) + left ≡ count
    others = omega (arith, long_up, length-drop left ws)

    same_up : length now ≡ length old
    same_up = ap length before ∙ length-pasted old (to + left) (drop left ws) (omega (arith, others))

    kept_up : run a n now ≡ part
    kept_up =
        sym (drop-take a n now) ∙ ap (λ l. drop a (take (a + n) l)) before
        ∙ ap (drop a) (take-pasted_before old (to + left) (drop left ws) (omega (arith, others)) (a + n) (omega arith))
        ∙ drop-take a n old ∙ ap (λ k. run k n old) at ∙ part_is (omega arith)

    pub part_up : (a + n ≤ length now) × (z + n ≤ length now) × (length now ≡ length old) × IsFull (run a n now)
    part_up = (omega (arith, same_up), omega (arith, same_up), same_up, subst IsFull (sym kept_up) part_full)

    part_long : length part ≡ n
    part_long = length-take-le n (drop i ws) (omega (arith, long_up, length-drop i ws))

    pub joined_up : new ≡ pasted now z (run a n now) → new ≡ pasted old z (drop i ws)
    joined_up e =
        let after : drop left ws ≡ drop n (drop i ws) = ap (λ k. drop k ws) ends ∙ sym (drop-drop n i ws) in
        e ∙ (λ k. pasted (before k) z (kept_up k))
        ∙ pasted_before old (drop left ws) part z (to + left) (omega (arith, part_long)) (omega (arith, others))
        ∙ ap (λ l. pasted old z (part ++ l)) after ∙ ap (pasted old z) (take-append-drop n (drop i ws))

    pub joined_last : new ≡ pasted now z (drop i (run from left now)) → new ≡ pasted old z (drop i ws)
    joined_last e =
        let rest : drop i (drop from now) ≡ drop a now = drop-drop i from now ∙ ap (λ k. drop k now) (sym at) in
        joined_up (e ∙ ap (λ k. pasted now z (drop i (take k (drop from now)))) ends ∙ ap (pasted now z) (drop-take i n (drop from now) ∙ ap (take n) rest))
