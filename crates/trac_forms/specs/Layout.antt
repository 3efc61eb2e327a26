-- How a form is kept: its items as two lists, before and after the pointer, and a text right after the pointer.
-- And what that says of each form.
use Rattle.std.specs.Prelude.{◌≤◌, ◌++◌, List, ℕ}
use Rattle.std.specs.List.{All}
use Rattle.trac_gap.specs.Ends.{Ends}
use Rattle.trac_rules.specs.declared.item.Item.{Item}
use Rattle.trac_rules.specs.declared.limit.TheConstants.{FORM_LIMIT}
use Rattle.trac_rules.specs.Form.{Form, IsWide, all_items, as_items, extent}
use Rattle.trac_items.specs.Either.{IsEither}

-- the form that two lists are: the pointer is between them
abbrev pub divided : Ends Item → Form
divided items = record { before = items.left; after = items.right }

-- the two lists with the bytes of a text, which stand right after the pointer
abbrev pub with_text : List ℕ → Ends Item → Ends Item
with_text text items = record items { right = as_items text ++ items.right }

-- what is true of every form of the code: it stands for no more bytes than a form may, and each of
-- its items for one at least
pub record IsSound (form : Form) : Type 0 where
  pub within : extent (all_items form) ≤ FORM_LIMIT
  pub wide : All IsWide (all_items form)

-- and there is room for as many items as the form stands for bytes, so that what is cut out of it can come back
pub record IsKept (items : Ends Item) : Type 0 where
  pub within : extent (items.left ++ items.right) ≤ FORM_LIMIT
  pub wide : All IsWide (items.left ++ items.right)
  pub room : extent (items.left ++ items.right) ≤ items.capacity

-- the same of two lists and a text, which has no items after it
pub record IsHeld (text : List ℕ) (items : Ends Item) : Type 0 where
  pub kept : IsKept (with_text text items)
  pub either : IsEither text items.right
