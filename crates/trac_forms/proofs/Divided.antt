-- Items in two lists, and how some go from one to the other.
use Rattle.std.proofs.Common.{◌≡◌, ℕ, ◌+◌, ◌-◌, ◌≤◌, List, [], ◌++◌, length, take, drop, refl, sym, ap, subst, ◌∙◌, inl, append_assoc, arith}
use Rattle.std.specs.List.{All}
use Rattle.std.proofs.lemmas.List.{append-nil, take-append-drop, take-append-le, drop-append-le, length-append, length-map}
use Rattle.std.proofs.Math.Seq.{take-append-add, take-append_seam, drop-append-add, drop-append_seam}
use Rattle.trac_gap.specs.Ends.{Ends, item_count}
use Rattle.trac_rules.specs.declared.item.Item.{Item}
use Rattle.trac_rules.specs.declared.item.Item.TheVariants.{Byte}
use Rattle.trac_rules.specs.declared.limit.TheConstants.{FORM_LIMIT}
use Rattle.trac_rules.specs.Form.{Form, IsWide, all_items, as_items, defined, extent, pointed_at}
use Rattle.trac_forms.specs.Layout.{IsHeld, IsKept, divided, with_text}
use Rattle.trac_items.specs.Either.{IsEither}
use Rattle.trac_rules.proofs.Cutting.{count_within_extent, extent-append, extent-as_items, wide-as_items}

-- items that are no more than a form may have, in places for all bytes that they stand for
pub kept_there : (items : Ends Item) (all : List Item) → items.left ++ items.right ≡ all → extent all ≤ FORM_LIMIT → All IsWide all → extent all ≤ items.capacity → IsKept items
kept_there items all same fits wide roomy = record {
  within = omega (arith, ap extent same, fits);
  wide = subst (λ (xs : List Item). All IsWide xs) (sym same) wide;
  room = omega (arith, ap extent same, roomy);
}

-- the same items in as many places are kept as well
pub kept_again : (old new : Ends Item) → new.left ++ new.right ≡ old.left ++ old.right → old.capacity ≤ new.capacity → IsKept old → IsKept new
kept_again old new same roomy kept = kept_there new (old.left ++ old.right) same kept.within kept.wide (omega (arith, kept.room, roomy))

-- the last n items before the pointer go after it
module _ (old new : Ends Item) (place n : ℕ) (within : place ≤ length old.left) (count : n ≡ length old.left - place)
    (moved : new ≡ record old { left = take (length old.left - n) old.left; right = drop (length old.left - n) old.left ++ old.right }) where
  kept : length old.left - n ≡ place
  kept = omega arith

  left : new.left ≡ take place old.left
  left = ap (λ (e : Ends Item). e.left) moved ∙ ap (λ k. take k old.left) kept

  right : new.right ≡ drop place old.left ++ old.right
  right = ap (λ (e : Ends Item). e.right) moved ∙ ap (λ k. drop k old.left ++ old.right) kept

  pub all_back : new.left ++ new.right ≡ old.left ++ old.right
  all_back =
      (λ i. left i ++ right i) ∙ sym (append_assoc (take place old.left) (drop place old.left) old.right)
      ∙ ap (λ (xs : List Item). xs ++ old.right) (take-append-drop place old.left)

  pub kept_back : IsKept old → IsKept new
  kept_back kept = kept_again old new all_back (omega (arith, ap (λ (e : Ends Item). e.capacity) moved)) kept

  pub pointed_back : divided new ≡ pointed_at place (all_items (divided old))
  pointed_back =
      let front : new.left ≡ take place (old.left ++ old.right) = left ∙ sym (take-append-le place old.left old.right within) in
      let back : new.right ≡ drop place (old.left ++ old.right) = right ∙ sym (drop-append-le place old.left old.right within) in
      λ i. record { before = front i; after = back i }

-- the first n items after the pointer go before it
module _ (old new : Ends Item) (place n : ℕ) (count : place ≡ length old.left + n) (moved : new ≡ record old { left = old.left ++ take n old.right; right = drop n old.right }) where
  left_on : new.left ≡ old.left ++ take n old.right
  left_on = ap (λ (e : Ends Item). e.left) moved

  right_on : new.right ≡ drop n old.right
  right_on = ap (λ (e : Ends Item). e.right) moved

  pub pointed_on : divided new ≡ pointed_at place (all_items (divided old))
  pointed_on =
      let both = old.left ++ old.right in
      let front : new.left ≡ take place both = left_on ∙ sym (take-append-add old.left old.right n) ∙ ap (λ k. take k both) (sym count) in
      let back : new.right ≡ drop place both = right_on ∙ sym (drop-append-add old.left old.right n) ∙ ap (λ k. drop k both) (sym count) in
      λ i. record { before = front i; after = back i }

-- a new form, which keeps its text as one, or as items
pub held_new : (text kept : List ℕ) (items : Ends Item) → divided (with_text kept items) ≡ defined text → IsEither kept items.right → length text ≤ FORM_LIMIT →
    length text ≤ items.capacity → IsHeld kept items
held_new text kept items whole either short roomy = record {
  kept = kept_there (with_text kept items) (as_items text) (ap all_items whole) (omega (arith, short, extent-as_items text)) (wide-as_items text) (omega (arith, roomy, extent-as_items text));
  either = either;
}

-- all items go after the pointer
module _ (old new : Ends Item) (n : ℕ) (count : n ≡ length old.left)
    (moved : new ≡ record old { left = take (length old.left - n) old.left; right = drop (length old.left - n) old.left ++ old.right }) where
  pub none_before : new.left ≡ []
  none_before = ap (λ (form : Form). form.before) (pointed_back old new 0 n (omega arith) (omega (arith, count)) moved)

  pub all_after : new.right ≡ old.left ++ old.right
  all_after = ap (λ (form : Form). form.after) (pointed_back old new 0 n (omega arith) (omega (arith, count)) moved)

-- as the bytes of a text
pub defined_after : (old new : Ends Item) (text : List ℕ) → old.left ≡ as_items text → old.right ≡ [] →
    new ≡ record old { left = take (length old.left - length text) old.left; right = drop (length old.left - length text) old.left ++ old.right } → divided new ≡ defined text
defined_after old new text whole right moved =
    pointed_back old new 0 (length text) (omega arith) (omega (arith, ap length whole, length-map text Byte)) moved
    ∙ ap (pointed_at 0) ((λ i. whole i ++ right i) ∙ append-nil (as_items text))

-- wide items are no more than the bytes that they stand for
pub count_within : (before after : List Item) (bytes : ℕ) → bytes ≡ extent (before ++ after) → All IsWide (before ++ after) → length before + length after ≤ bytes
count_within before after bytes e wide = omega (arith, e, count_within_extent (before ++ after) wide, length-append before after)

-- items that are put on the left of nothing, where the last of them then go to the right, and there is room for as many as they stand for bytes
module _ (start first second out : Ends Item) (before after : List Item) (no_left : start.left ≡ []) (no_right : start.right ≡ [])
    (put : first ≡ record start { left = start.left ++ before }) (more : second ≡ record first { left = first.left ++ after })
    (moved : out ≡ record second { left = take (length second.left - length after) second.left; right = drop (length second.left - length after) second.left ++ second.right }) where
  both_put : second.left ≡ before ++ after
  both_put =
      ap (λ (e : Ends Item). e.left) more ∙ ap (λ (e : Ends Item). e.left ++ after) put ∙ ap (λ (xs : List Item). (xs ++ before) ++ after) no_left

  nothing_after : second.right ≡ []
  nothing_after = ap (λ (e : Ends Item). e.right) more ∙ ap (λ (e : Ends Item). e.right) put ∙ no_right

  counted : length second.left ≡ length before + length after
  counted = ap length both_put ∙ length-append before after

  pub divided_put : divided out ≡ record { before = before; after = after }
  divided_put =
      pointed_back second out (length before) (length after) (omega (arith, counted)) (omega (arith, counted)) moved
      ∙ ap (pointed_at (length before)) ((λ i. both_put i ++ nothing_after i) ∙ append-nil (before ++ after))
      ∙ (λ i. record { before = take-append_seam before after i; after = drop-append_seam before after i })

-- ---- the bytes of a text go among the items

pub room_held : (text : List ℕ) (items : Ends Item) → IsHeld text items → item_count items + length text ≤ items.capacity
room_held text items held =
    let right = as_items text ++ items.right in
    omega (
      arith,
      held.kept.room,
      count_within_extent (items.left ++ right) held.kept.wide,
      length-append items.left right,
      length-append (as_items text) items.right,
      length-map text Byte,
    )

-- a text that is kept as one is no longer than a form may be
pub text_fits : (text : List ℕ) (items : Ends Item) → IsHeld text items → length text ≤ FORM_LIMIT
text_fits text items held =
    omega (
      arith,
      held.kept.within,
      extent-append items.left (as_items text ++ items.right),
      extent-append (as_items text) items.right,
      extent-as_items text,
    )

pub kept_packed : (text : List ℕ) (items packed : Ends Item) → IsHeld text items → packed ≡ with_text text items → IsKept packed
kept_packed text items packed held is = subst IsKept (sym is) held.kept

pub held_packed : (text : List ℕ) (items : Ends Item) → text ≡ [] → IsKept items → IsHeld text items
held_packed text items none kept = subst (λ (bytes : List ℕ). IsHeld bytes items) (sym none) (record { kept = kept; either = inl refl })

pub divided_packed : (text : List ℕ) (items : Ends Item) → text ≡ [] → divided (with_text text items) ≡ divided items
divided_packed text items none = ap (λ (bytes : List ℕ). divided (with_text bytes items)) none
