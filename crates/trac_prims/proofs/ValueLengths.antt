-- How long the value of a call may be.
use Rattle.std.proofs.Common.{ℕ, zero, suc, ◌+◌, ◌*◌, ◌≤◌, List, [], ◌∷◌, length, drop, arith}
use Rattle.std.specs.List.{concat}
use Rattle.std.proofs.lemmas.List.{length-append}
use Rattle.trac_rules.specs.declared.item.Item.{Item}
use Rattle.trac_rules.specs.declared.item.Item.TheVariants.{Byte, Gap}
use Rattle.trac_rules.specs.Filling.{all_filled, filled, text_numbered}
use Rattle.trac_text.proofs.Joined.{text_within}

numbered : (texts : List (List ℕ)) (ordinal : ℕ) → length (text_numbered ordinal texts) ≤ length (concat texts)
numbered texts zero = omega arith
numbered texts (suc k) = text_within texts k

-- an item gives a byte or one of the texts
of_item : (texts : List (List ℕ)) (item : Item) → length (filled texts item) ≤ suc (length (concat texts))
of_item texts (Byte b) = omega arith
of_item texts (Gap ordinal width) = omega (arith, numbered texts ordinal)

-- later texts have no more bytes than all of them
pub later : (n : ℕ) (texts : List (List ℕ)) → length (concat (drop n texts)) ≤ length (concat texts)
later zero texts = omega arith
later (suc n) [] = omega arith
later (suc n) (text ∷ texts) = omega (arith, length-append text (concat texts), later n texts)

-- items give no more bytes than there are items, times one more than the texts have
pub all_items_give : (texts : List (List ℕ)) (bytes : ℕ) → length (concat texts) ≤ bytes → (items : List Item) → length (all_filled texts items) ≤ length items * (bytes + 1)
all_items_give texts bytes within [] = omega arith
all_items_give texts bytes within (item ∷ items) =
    omega (arith, within, length-append (filled texts item) (all_filled texts items), of_item texts item, all_items_give texts bytes within items)
