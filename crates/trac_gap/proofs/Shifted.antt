-- A row in which one run, or each of two runs that lie apart, was written anew: what of it is as it was.
use Rattle.std.proofs.Common.{◌≡◌, ℕ, ◌+◌, ◌-◌, ◌≤◌, ◌++◌, List, length, take, drop, refl, sym, ap, ◌∙◌, append_assoc, arith, length-drop}
use Rattle.std.proofs.lemmas.List.{take-append-drop, drop-take, drop-drop}
use Rattle.std.proofs.Math.Seq.{length-take-le, take-add, take-append_seam}
use Rattle.trac_gap.specs.Slots.{IsShifted, run, pasted}
use Rattle.trac_gap.proofs.Pasted.{length-pasted, take-pasted, drop-pasted, take-pasted_before, drop-pasted_after}

module _ {X : Type 0} (cs : List X) where
  run_long : (i n : ℕ) → i + n ≤ length cs → length (run i n cs) ≡ n
  run_long i n h = length-take-le n (drop i cs) (omega (arith, length-drop i cs))

  run_pasted : (i n : ℕ) (ws : List X) → length ws ≡ n → i + n ≤ length cs → run i n (pasted cs i ws) ≡ ws
  run_pasted i n ws p h = ap (λ k. take k (drop i (pasted cs i ws))) (sym p) ∙ ap (take (length ws)) (drop-pasted cs i ws (omega (arith, p))) ∙ take-append_seam ws (drop (i + length ws) cs)

  -- a run was written at the place j as it was at the place i
  pub shifted_over : (i j n : ℕ) → i + n ≤ length cs → j + n ≤ length cs → IsShifted cs i j n (pasted cs j (run i n cs))
  shifted_over i j n h g =
      let ws = run i n cs in let p = run_long i n h in let fits : j + length ws ≤ length cs = omega (arith, p) in
      record {
        count = length-pasted cs j ws fits;
        moved = run_pasted j n ws p g;
        below = λ k a b. take-pasted_before cs j ws fits k b;
        above = λ k a b. drop-pasted_after cs j ws fits k (omega (arith, p));
      }

  -- a run stays where it is
  pub shifted_nowhere : (i j n : ℕ) → i ≡ j → IsShifted cs i j n cs
  shifted_nowhere i j n e = record { count = refl; moved = ap (λ k. run k n cs) (sym e); below = λ k a b. refl; above = λ k a b. refl }

  -- an empty run is anywhere
  pub shifted_none : (i j n : ℕ) → n ≡ 0 → IsShifted cs i j n cs
  shifted_none i j n e = record { count = refl; moved = ap (λ k. run j k cs) e ∙ sym (ap (λ k. run i k cs) e); below = λ k a b. refl; above = λ k a b. refl }

  module _ (low high n : ℕ) (apart : low + n ≤ high) (fits : high + n ≤ length cs) (ws vs : List X) (p : length ws ≡ n) (q : length vs ≡ n) where
    abbrev pub both : List X
    both = pasted (pasted cs low ws) high vs

    abbrev between : List X
    between = run (low + n) (high - (low + n)) cs

    fits_low : low + length ws ≤ length cs
    fits_low = omega (arith, p)

    same : length (pasted cs low ws) ≡ length cs
    same = length-pasted cs low ws fits_low

    fits_high : high + length vs ≤ length (pasted cs low ws)
    fits_high = omega (arith, q, same)

    pub both_long : length both ≡ length cs
    both_long = length-pasted (pasted cs low ws) high vs fits_high ∙ same

    both_below : (k : ℕ) → k ≤ low → take k both ≡ take k cs
    both_below k h = take-pasted_before (pasted cs low ws) high vs fits_high k (omega arith) ∙ take-pasted_before cs low ws fits_low k h

    both_above : (k : ℕ) → high + n ≤ k → drop k both ≡ drop k cs
    both_above k h = drop-pasted_after (pasted cs low ws) high vs fits_high k (omega (arith, q)) ∙ drop-pasted_after cs low ws fits_low k (omega (arith, p))

    pub at_high : run high n both ≡ vs
    at_high = ap (λ k. take k (drop high both)) (sym q) ∙ ap (take (length vs)) (drop-pasted (pasted cs low ws) high vs fits_high) ∙ take-append_seam vs (drop (high + length vs) (pasted cs low ws))

    pub at_low : run low n both ≡ ws
    at_low =
        sym (drop-take low n both) ∙ ap (drop low) (take-pasted_before (pasted cs low ws) high vs fits_high (low + n) apart)
        ∙ drop-take low n (pasted cs low ws) ∙ run_pasted low n ws p (omega arith)

    -- a run went down, or up
    pub shifted_down : ws ≡ run high n cs → IsShifted cs high low n both
    shifted_down e = record { count = both_long; moved = at_low ∙ e; below = λ k a b. both_below k b; above = λ k a b. both_above k a }

    pub shifted_up : vs ≡ run low n cs → IsShifted cs low high n both
    shifted_up e = record { count = both_long; moved = at_high ∙ e; below = λ k a b. both_below k a; above = λ k a b. both_above k b }

    -- the row in five pieces
    pub both_is : both ≡ take low cs ++ (ws ++ (between ++ (vs ++ drop (high + n) cs)))
    unfolding pasted
    both_is =
        let P = pasted cs low ws in let g = high - (low + n) in
        let at : high ≡ low + length ws + g = omega (arith, p) in let seam : low + length ws ≡ low + n = ap (λ k. low + k) p in
        let middle : take g (drop (low + length ws) P) ≡ between = ap (take g) (drop-pasted_after cs low ws fits_low (low + length ws) (omega arith)) ∙ ap (λ k. run k g cs) seam in
        let front : take high P ≡ (take low cs ++ ws) ++ between = ap (λ k. take k P) at ∙ take-add (low + length ws) g P ∙ (λ k. take-pasted cs low ws fits_low k ++ middle k) in
        let back : drop (high + length vs) P ≡ drop (high + n) cs = drop-pasted_after cs low ws fits_low (high + length vs) (omega (arith, p)) ∙ ap (λ k. drop (high + k) cs) q in
        (λ k. front k ++ (vs ++ back k)) ∙ append_assoc (take low cs ++ ws) between (vs ++ drop (high + n) cs) ∙ append_assoc (take low cs) ws (between ++ (vs ++ drop (high + n) cs))

  -- the row itself in five pieces
  from_on : (i k : ℕ) → run i k cs ++ drop (i + k) cs ≡ drop i cs
  from_on i k = ap (λ l. run i k cs ++ l) (sym (drop-drop k i cs)) ∙ take-append-drop k (drop i cs)

  pub five : (low high n : ℕ) → low + n ≤ high → take low cs ++ (run low n cs ++ (run (low + n) (high - (low + n)) cs ++ (run high n cs ++ drop (high + n) cs))) ≡ cs
  five low high n apart =
      let g = high - (low + n) in let at : high ≡ low + n + g = omega arith in
      ap (λ l. take low cs ++ (run low n cs ++ (run (low + n) g cs ++ l))) (from_on high n ∙ ap (λ k. drop k cs) at)
      ∙ ap (λ l. take low cs ++ (run low n cs ++ l)) (from_on (low + n) g)
      ∙ ap (λ l. take low cs ++ l) (from_on low n) ∙ take-append-drop low cs
