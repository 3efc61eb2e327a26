-- The block whose number a text is in decimal.
use Rattle.std.proofs.Common.{◌≡◌, ℕ, ◌+◌, ◌<◌, ◌^◌, Bool, true, false, List, [], ◌∷◌, ◌++◌, get_or, length, take, refl, sym, ap, subst, ◌∙◌, arith, ⊎_elim, w64}
use Rattle.std.specs.Prelude.{Option, None, Some, ℤ, pos, negsuc, bytes_eq, decimal, is_some, nat_le, option_to_list, slice_get, unsigned_abs}
use Rattle.std.specs.Int.{FitsUnsigned}
use Rattle.std.proofs.lemmas.Int.{ints}
use Rattle.std.proofs.lemmas.Grind.{flat_map-append}
use Rattle.std.proofs.lemmas.List.{take_more}
use Rattle.std.proofs.lemmas.Option.{slice_get-get_or}
use Rattle.trac_rules.specs.declared.item.Item.{Item}
use Rattle.std.proofs.lemmas.Bool.{and_from, and_right, cases_Bool, leb-false, leb-true, lt-ltb}
use Rattle.std.proofs.lemmas.List.{get_or_past}
use Rattle.std.proofs.lemmas.Slice.Eq.{bytes_eq-Decides}
use Rattle.trac_rules.specs.declared.width.Width.TheVariants.{W64}
use Rattle.trac_rules.specs.Blocks.{block_at, is_address, number_addressed}
use Rattle.trac_rules.specs.Form.{Form, all_items}
use Rattle.trac_rules.specs.Number.{fits, number_of, numeral_of, is_numeral}
use Rattle.trac_rules.specs.Pieces.{byte_of, bytes_in}
use Rattle.trac_rules.specs.State.{Block, Held}
use Rattle.trac_rules.proofs.Addresses.{addressed_alone, spelled}
use Rattle.trac_rules.proofs.Balanced.{first_place_none}
use Rattle.trac_rules.proofs.Calculated.{printed_form, printed_number}
use Rattle.trac_rules.proofs.Numerals.{longest_tail_whole}

-- the numeral of a text that is one is the text
whole_numeral : (text : List ℕ) → is_numeral text ≡ true → numeral_of text ≡ text
unfolding numeral_of
whole_numeral [] is = refl
whole_numeral (b ∷ text) is = longest_tail_whole is_numeral b text is

-- a number in decimal is read back
read_back : (k : ℕ) → k < 2 ^ 63 → number_of W64 (numeral_of (decimal k)) ≡ Some (pos k)
read_back k small =
    let fit : fits W64 (pos k) ≡ true = within k small in
    ap (number_of W64) (whole_numeral (decimal k) (printed_form W64 (pos k) fit)) ∙ printed_number W64 (pos k) fit
  where
    within : (n : ℕ) → n < 2 ^ 63 → fits W64 (pos n) ≡ true
    within n l = lt-ltb n (2 ^ 63) l

-- a number that is a length, as one
pub as_place : (z : ℤ) (place : ℕ) → FitsUnsigned w64 z → place ≡ unsigned_abs z → pos place ≡ z
as_place (pos n) place within e = ap pos e
as_place (negsuc n) place within e = absurd (omega (arith, ints, within.0))

-- ---- the bytes of a form

-- one item more
pub bytes_more : (items : List Item) (i : ℕ) (d : Item) → i < length items → bytes_in (take (i + 1) items) ≡ bytes_in (take i items) ++ bytes_in (option_to_list (slice_get items i))
bytes_more items i d within =
    ap bytes_in (take_more items i d within)
    ∙ flat_map-append byte_of (take i items) (get_or items i d ∷ [])
    ∙ ap (λ (o : Option Item). bytes_in (take i items) ++ bytes_in (option_to_list o)) (sym (slice_get-get_or items i d within))

-- ---- the block

module _ (form : Form) (text : List ℕ) (blocks : List Block) (small : length blocks < 2 ^ 63) (bytes : bytes_in (all_items form) ≡ text) where
  -- a block whose address the form is has the number that is read
  number_read : (k : ℕ) → k < length blocks → is_address form blocks k ≡ true → number_of W64 (numeral_of text) ≡ Some (pos k)
  number_read k within is =
      ap (λ (t : List ℕ). number_of W64 (numeral_of t)) (sym (spelled form blocks k is ∙ bytes)) ∙ read_back k (omega (arith, within, small))

  -- none where each that is there has another number
  none_but : ((k : ℕ) → k < length blocks → number_of W64 (numeral_of text) ≡ Some (pos k) → is_address form blocks k ≡ false) → number_addressed form blocks ≡ None
  none_but other =
      first_place_none (is_address form blocks) (length blocks) (λ k within.
      ⊎_elim
      (λ (t : is_address form blocks k ≡ true). other k within (number_read k within t))
      (λ (t : is_address form blocks k ≡ false). t)
      (cases_Bool (is_address form blocks k)))

  -- no number is read
  pub none_read : number_of W64 (numeral_of text) ≡ None → number_addressed form blocks ≡ None
  none_read none = none_but (λ k within is. absurd (let both : None ≡ Some (pos k) = sym none ∙ is in cc))

  -- the number is no length, since it is below zero
  pub none_below : (z : ℤ) → number_of W64 (numeral_of text) ≡ Some z → (FitsUnsigned w64 z → ⊥) → number_addressed form blocks ≡ None
  none_below z read below = none_but (λ k within is.
      let both : Some z ≡ Some (pos k) = sym read ∙ is in
      let same : z ≡ pos k = cc in
      let long : k < 2 ^ 64 = omega (arith, within, small) in
      absurd (below (subst (FitsUnsigned w64) (sym same) (omega (arith, ints), omega (arith, ints, long)))))

  -- no block of that number is live
  pub none_live : (n : ℕ) → number_of W64 (numeral_of text) ≡ Some (pos n) → block_at n blocks ≡ None → number_addressed form blocks ≡ None
  none_live n read erased = none_but (λ k within is.
      let same : Some (pos n) ≡ Some (pos k) = sym read ∙ is in
      let one : n ≡ k = cc in
      let gone : is_some (block_at k blocks) ≡ false = ap (λ (j : ℕ). is_some (block_at j blocks)) (sym one) ∙ ap is_some erased in
      rw gone refl)

  -- the number is printed otherwise
  pub none_spelled : (n : ℕ) → number_of W64 (numeral_of text) ≡ Some (pos n) → bytes_eq (decimal n) text ≡ false → number_addressed form blocks ≡ None
  none_spelled n read other = none_but (λ k within is.
      let same : Some (pos n) ≡ Some (pos k) = sym read ∙ is in
      let one : n ≡ k = cc in
      let differs : bytes_eq (decimal k) (bytes_in (all_items form)) ≡ false =
      ap (λ (j : ℕ). bytes_eq (decimal j) (bytes_in (all_items form))) (sym one) ∙ ap (bytes_eq (decimal n)) bytes ∙ other in
      and_right (is_some (block_at k blocks)) (bytes_eq (decimal k) (bytes_in (all_items form))) differs)

  -- this block
  pub found_so : (n : ℕ) (held : Held) → block_at n blocks ≡ Some held → decimal n ≡ text → number_addressed form blocks ≡ Some n
  found_so n held live spells =
      addressed_alone form blocks n (omega (arith, small)) (there (nat_le (length blocks) n) refl)
      (and_from (is_some (block_at n blocks)) (bytes_eq (decimal n) (bytes_in (all_items form))) (ap is_some live)
      ((bytes_eq-Decides (decimal n) (bytes_in (all_items form))).1 (spells ∙ sym bytes)))
    where
      there : (past : Bool) → nat_le (length blocks) n ≡ past → n < length blocks
      there true t = absurd (let none : None ≡ Some held = sym (get_or_past blocks n None (leb-true (length blocks) n t)) ∙ live in cc)
      there false t = leb-false (length blocks) n t
