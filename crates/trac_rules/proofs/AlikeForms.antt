-- Forms that pass for the same are one.
use Rattle.std.proofs.Common.{◌≡◌, true, List, length, take, drop, refl, sym, ap, ◌∙◌}
use Rattle.std.specs.Prelude.{◌==◌}
use Rattle.std.specs.Bool.{Decides}
use Rattle.std.specs.Cmp.Lexicographic.{pointwise}
use Rattle.std.proofs.lemmas.Bool.{and_from, and_parts}
use Rattle.std.proofs.lemmas.Bool.Decides.{Decides-eqb}
use Rattle.std.proofs.lemmas.List.{drop_at, take_at}
use Rattle.std.proofs.lemmas.Slice.Eq.{slice_eq-Decides}
use Rattle.trac_rules.specs.declared.item.Item.{Item}
use Rattle.trac_rules.specs.declared.item.Item.TheVariants.{Byte, Gap}
use Rattle.trac_rules.specs.Form.{Form, all_items}
use Rattle.trac_rules.specs.Goals.{is_same_form, is_same_item}

alike_items : (a b : Item) → Decides (is_same_item a b) (a ≡ b)
alike_items (Byte x) (Byte y) = (
  λ h. ap Byte ((Decides-eqb x y).0 h),
  λ h. (Decides-eqb x y).1 (ap (λ item. elim item [ Byte z ↦ z | Gap i w ↦ i ]) h),
)
alike_items (Gap i v) (Gap k w) = (
  λ h. let parts = and_parts (i == k) (v == w) h in
      let one : i ≡ k = (Decides-eqb i k).0 parts.0 in
      let other : v ≡ w = (Decides-eqb v w).0 parts.1 in
      λ j. Gap (one j) (other j),
  λ h. and_from (i == k) (v == w)
      ((Decides-eqb i k).1 (ap (λ item. elim item [ Byte z ↦ z | Gap n m ↦ n ]) h))
      ((Decides-eqb v w).1 (ap (λ item. elim item [ Byte z ↦ z | Gap n m ↦ m ]) h)),
)
alike_items (Byte x) (Gap k w) = (λ h. absurd (cc), λ h. absurd (cc))
alike_items (Gap i v) (Byte y) = (λ h. absurd (cc), λ h. absurd (cc))

alike_lists : (xs ys : List Item) → Decides (pointwise is_same_item xs ys) (xs ≡ ys)
alike_lists xs ys = slice_eq-Decides alike_items xs ys (pointwise is_same_item xs ys) refl

pub alike_equal : (a b : Form) → is_same_form a b ≡ true → a ≡ b
alike_equal a b h =
    let parts = and_parts (length a.before == length b.before) (pointwise is_same_item (all_items a) (all_items b)) h in
    let place : length a.before ≡ length b.before = (Decides-eqb (length a.before) (length b.before)).0 parts.0 in
    let items : all_items a ≡ all_items b = (alike_lists (all_items a) (all_items b)).0 parts.1 in
    let before : a.before ≡ b.before =
    sym (take_at a.before a.after (length b.before) place) ∙ ap (take (length b.before)) items ∙ take_at b.before b.after (length b.before) refl in
    let after : a.after ≡ b.after =
    sym (drop_at a.before a.after (length b.before) place) ∙ ap (drop (length b.before)) items ∙ drop_at b.before b.after (length b.before) refl in
    λ i. record { before = before i; after = after i }

pub equal_alike : (a b : Form) → a ≡ b → is_same_form a b ≡ true
equal_alike a b h =
    and_from (length a.before == length b.before) (pointwise is_same_item (all_items a) (all_items b))
    ((Decides-eqb (length a.before) (length b.before)).1 (ap (λ (f : Form). length f.before) h))
    ((alike_lists (all_items a) (all_items b)).1 (ap all_items h))
