-- What a row has before, in and after the places that were written.
use Rattle.std.proofs.Common.{◌≡◌, ℕ, suc, ◌+◌, ◌-◌, ◌≤◌, ◌<◌, ◌++◌, List, [], ◌∷◌, length, take, drop, set, sym, ap, ◌∙◌, append_assoc, add-zero, arith, length-append, length-drop}
use Rattle.std.proofs.lemmas.List.{take-append-drop, set_split, take-append-le, take-take}
use Rattle.std.proofs.Math.Seq.{take-append_seam, drop-append_seam, take-append-add, drop-append-add, length-take-le, drop-drop}
use Rattle.trac_gap.specs.Slots.{pasted}

module _ {X : Type 0} (cs : List X) (i : ℕ) (ws : List X) (fits : i + length ws ≤ length cs) where
  front : length (take i cs) ≡ i
  front = length-take-le i cs (omega arith)

  abbrev rest : List X
  rest = drop (i + length ws) cs

  pub length-pasted : length (pasted cs i ws) ≡ length cs
  unfolding pasted
  length-pasted = omega (arith, front, length-append (take i cs) (ws ++ rest), length-append ws rest, length-drop (i + length ws) cs)

  pub take-pasted : take (i + length ws) (pasted cs i ws) ≡ take i cs ++ ws
  unfolding pasted
  take-pasted =
      ap (λ k. take (k + length ws) (take i cs ++ (ws ++ rest))) (sym front) ∙ take-append-add (take i cs) (ws ++ rest) (length ws)
      ∙ ap (λ l. take i cs ++ l) (take-append_seam ws rest)

  pub drop-pasted : drop i (pasted cs i ws) ≡ ws ++ rest
  unfolding pasted
  drop-pasted = ap (λ k. drop k (take i cs ++ (ws ++ rest))) (sym front) ∙ drop-append_seam (take i cs) (ws ++ rest)

  pub take-pasted_before : (j : ℕ) → j ≤ i → take j (pasted cs i ws) ≡ take j cs
  unfolding pasted
  take-pasted_before j h =
      let long : j ≤ length (take i cs) = omega (arith, front) in
      take-append-le j (take i cs) (ws ++ rest) long ∙ take-take j i cs h

  pub drop-pasted_after : (j : ℕ) → i + length ws ≤ j → drop j (pasted cs i ws) ≡ drop j cs
  unfolding pasted
  drop-pasted_after j h =
      let m = j - (i + length ws) in let A = take i cs ++ ws in
      let long : length A ≡ i + length ws = omega (arith, front, length-append (take i cs) ws) in
      let at : j ≡ length A + m = omega arith in let again : i + length ws + m ≡ j = omega arith in
      ap (drop j) (sym (append_assoc (take i cs) ws rest)) ∙ ap (λ k. drop k (A ++ rest)) at ∙ drop-append-add A rest m
      ∙ drop-drop m (i + length ws) cs ∙ ap (λ k. drop k cs) again

pub pasted_none : {X : Type 0} (cs : List X) (i : ℕ) → pasted cs i [] ≡ cs
unfolding pasted
pasted_none cs i = ap (λ k. take i cs ++ drop k cs) (add-zero i) ∙ take-append-drop i cs

module _ {X : Type 0} (cs : List X) (i : ℕ) (ws : List X) (c : X) where
  -- one more place is written, after those that were
  pub set-pasted_after : (j : ℕ) → j ≡ i + length ws → j < length cs → set (pasted cs i ws) j c ≡ pasted cs i (ws ++ c ∷ [])
  unfolding pasted
  set-pasted_after j at within =
      let fits : i + length ws ≤ length cs = omega arith in
      let same = length-pasted cs i ws fits in
      let more : suc j ≡ i + length (ws ++ c ∷ []) = omega (arith, length-append ws (c ∷ [])) in
      let front : take j (pasted cs i ws) ≡ take i cs ++ ws = ap (λ k. take k (pasted cs i ws)) at ∙ take-pasted cs i ws fits in
      let back : drop (suc j) (pasted cs i ws) ≡ drop (i + length (ws ++ c ∷ [])) cs = drop-pasted_after cs i ws fits (suc j) (omega arith) ∙ ap (λ k. drop k cs) more in
      set_split (pasted cs i ws) j c (omega arith) ∙ (λ n. front n ++ c ∷ back n)
      ∙ append_assoc (take i cs) ws (c ∷ drop (i + length (ws ++ c ∷ [])) cs)
      ∙ ap (λ l. take i cs ++ l) (sym (append_assoc ws (c ∷ []) (drop (i + length (ws ++ c ∷ [])) cs)))
