-- The extent of items, item by item.
use Rattle.std.proofs.Common.{◌≡◌, ℕ, ◌+◌, ◌<◌, ◌≤◌, List, [], ◌∷◌, length, take, drop, get_or, ap, ◌∙◌, arith}
use Rattle.std.proofs.lemmas.List.{take_more, take-append-drop}
use Rattle.trac_rules.specs.declared.item.Item.{Item}
use Rattle.trac_rules.specs.Form.{width_of, extent}
use Rattle.trac_rules.proofs.Cutting.{extent-append}

-- one item more
pub extent_more : (items : List Item) (i : ℕ) (d : Item) → i < length items → extent (take (i + 1) items) ≡ extent (take i items) + width_of (get_or items i d)
extent_more items i d l =
    ap extent (take_more items i d l) ∙ extent-append (take i items) (get_or items i d ∷ []) ∙ omega arith

-- the first items stand for no more than all
pub extent-take : (n : ℕ) (items : List Item) → extent (take n items) ≤ extent items
extent-take n items =
    omega (arith, extent-append (take n items) (drop n items), ap extent (take-append-drop n items))
