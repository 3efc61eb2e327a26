-- The highest ordinal among items, gap by gap.
use Rattle.std.proofs.Common.{◌≡◌, ℕ, zero, suc, ◌+◌, ◌-◌, ◌≤◌, max, not, List, [], ◌∷◌, ◌++◌, length, take, drop, refl, sym, ap, ◌∙◌, arith}
use Rattle.std.specs.Prelude.{slice_get}
use Rattle.std.specs.List.{position_or_len}
use Rattle.std.specs.Ordering.{nat_cmp, ord_max}
use Rattle.std.proofs.lemmas.Bool.Decides.{nat_tests}
use Rattle.std.specs.Option.{option_map_or}
use Rattle.std.proofs.lemmas.List.{length-drop, take_all}
use Rattle.std.proofs.lemmas.List.Sums.{prefix_len-le-length}
use Rattle.std.proofs.Math.Seq.{take-add}
use Rattle.trac_rules.specs.declared.item.Item.{Item}
use Rattle.trac_rules.specs.declared.item.Item.TheVariants.{Byte, Gap}
use Rattle.trac_rules.specs.Pieces.{is_gap}
use Rattle.trac_rules.specs.Doubts.{highest_ordinal, ordinal_of}

highest-append : (xs ys : List Item) → highest_ordinal (xs ++ ys) ≡ max (highest_ordinal xs) (highest_ordinal ys)
highest-append [] ys = omega arith
highest-append (x ∷ xs) ys = omega (arith, highest-append xs ys)

-- the first gap is the highest up to itself; where there is none, there is none among all
up_to_gap : (items : List Item) (n : ℕ) → n ≡ position_or_len is_gap items → highest_ordinal (take (suc n) items) ≡ option_map_or ordinal_of (slice_get items n) 0
up_to_gap [] n e = refl
up_to_gap (Byte b ∷ items) zero e = absurd (omega (arith, e))
up_to_gap (Byte b ∷ items) (suc n) e = omega (arith, up_to_gap items n (omega (arith, e)))
up_to_gap (Gap ordinal width ∷ items) zero e = omega arith
up_to_gap (Gap ordinal width ∷ items) (suc n) e = absurd (omega (arith, e))

-- the item at a place of what is left
left_at : (items : List Item) (place n k : ℕ) → k ≡ place + n → slice_get (drop place items) n ≡ slice_get items k
left_at items zero n k e = ap (slice_get items) (let same : n ≡ k = omega (arith, e) in same)
left_at [] (suc place) n k e = refl
left_at (item ∷ items) (suc place) n zero e = absurd (omega (arith, e))
left_at (item ∷ items) (suc place) n (suc k) e = left_at items place n k (omega (arith, e))

module _ (items : List Item) (place run len : ℕ) (all : len ≡ length items) (within : place ≤ len) (is : run ≡ position_or_len is_gap (take (len - place) (drop place items))) where
  left : run ≡ position_or_len is_gap (drop place items)
  left = is ∙ ap (position_or_len is_gap) (take_all (len - place) (drop place items) (omega (arith, length-drop place items, all)))

  -- the run ends within the items
  pub run_within : place + run ≤ len
  run_within = omega (arith, all, within, left, length-drop place items, prefix_len-le-length (λ item. not (is_gap item)) (drop place items))

  -- passing a run, and the gap after it
  pub gap_passed : (highest o : ℕ) → highest ≡ highest_ordinal (take place items) → o ≡ option_map_or ordinal_of (slice_get items (place + run)) 0 →
      max highest o ≡ highest_ordinal (take (place + run + 1) items)
  gap_passed highest o so_far here =
      let split : take (place + run + 1) items ≡ take place items ++ take (suc run) (drop place items) =
      ap (λ n. take n items) (let same : place + run + 1 ≡ place + suc run = omega arith in same) ∙ take-add place (suc run) items in
      let both : highest_ordinal (take (place + run + 1) items) ≡ max (highest_ordinal (take place items)) (highest_ordinal (take (suc run) (drop place items))) =
      ap highest_ordinal split ∙ highest-append (take place items) (take (suc run) (drop place items)) in
      let next : highest_ordinal (take (suc run) (drop place items)) ≡ o =
      up_to_gap (drop place items) run left ∙ ap (λ x. option_map_or ordinal_of x 0) (left_at items place run (place + run) refl) ∙ sym here in
      omega (arith, both, next, so_far)

-- all items
pub all_passed : (items : List Item) (place highest : ℕ) → length items ≤ place → highest ≡ highest_ordinal (take place items) → highest ≡ highest_ordinal items
all_passed items place highest past so_far = so_far ∙ ap highest_ordinal (take_all place items past)

-- the greater of two numbers, as the code has it
pub greater : (a b : ℕ) → ord_max nat_cmp a b ≡ max a b
greater a b = grind (arith, nat_tests)
