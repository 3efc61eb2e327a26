-- How many items stand before the first gap.
use Rattle.std.proofs.Common.{◌≡◌, ℕ, zero, suc, ◌+◌, ◌<◌, ◌≤◌, true, List, [], ◌∷◌, length, take, drop, refl, ap, ◌∙◌, arith}
use Rattle.std.specs.List.{position_or_len}
use Rattle.std.proofs.lemmas.Bool.{false≢true}
use Rattle.std.proofs.lemmas.List.{drop-map, length-drop, length-take-le, take-map}
use Rattle.trac_rules.specs.declared.item.Item.{Item}
use Rattle.trac_rules.specs.declared.item.Item.TheVariants.{Byte, Gap}
use Rattle.trac_rules.specs.Cuts.{begins_with_gap}
use Rattle.trac_rules.specs.Form.{as_items}
use Rattle.trac_rules.specs.Pieces.{is_gap}
use Rattle.trac_rules.specs.Weights.{gap_count}

-- as many as are bytes, where a gap comes next or the end
pub run_is : (items : List Item) (n : ℕ) → n ≤ length items → gap_count (take n items) ≡ 0 → (n < length items → begins_with_gap (drop n items) ≡ true) → n ≡ position_or_len is_gap items
run_is [] zero l none gap = refl
run_is [] (suc n) l none gap = absurd (omega (arith, l))
run_is (Byte b ∷ items) zero l none gap = absurd (false≢true (gap (omega arith)))
run_is (Byte b ∷ items) (suc n) l none gap = omega (arith, run_is items n (omega (arith, l)) none (λ m. gap (omega (arith, m))))
run_is (Gap k w ∷ items) zero l none gap = refl
run_is (Gap k w ∷ items) (suc n) l none gap = absurd (omega (arith, none))

-- ---- the bytes of a text

plain_run : (text : List ℕ) → position_or_len is_gap (as_items text) ≡ length text
plain_run [] = refl
plain_run (b ∷ text) = omega (arith, plain_run text)

pub text_run : (text : List ℕ) (from n : ℕ) → from + n ≤ length text → n ≡ position_or_len is_gap (take n (drop from (as_items text)))
text_run text from n l =
    omega (
      arith,
      l,
      length-drop from text,
      length-take-le n (drop from text),
      plain_run (take n (drop from text)),
      ap (position_or_len is_gap) (ap (take n) (drop-map Byte from text) ∙ take-map Byte n (drop from text)),
    )
