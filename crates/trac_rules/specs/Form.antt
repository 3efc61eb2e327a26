-- Forms: named texts with gaps and a pointer.
use Rattle.std.specs.Prelude.{ℕ, ◌+◌, ◌≤◌, List, [], ◌∷◌, ◌++◌, map, take, drop}
use Rattle.trac_rules.specs.declared.item.Item.{Item}
use Rattle.trac_rules.specs.declared.item.Item.TheVariants.{Byte, Gap}

-- a form: the items before its pointer, and those after it. In a proper state each gap is at least
-- one byte wide (`IsProperForm`)
pub record Form : Type 0 where
  pub before : List Item
  pub after : List Item

-- the items on both sides of the pointer
abbrev pub all_items : Form → List Item
all_items form = form.before ++ form.after

-- the form of these items with so many of them before its pointer
abbrev pub pointed_at : ℕ → List Item → Form
pointed_at place items = record { before = take place items; after = drop place items }

-- the form of these items with its pointer at the start
abbrev pub at_start : List Item → Form
at_start items = record { before = []; after = items }

-- a text as items
abbrev pub as_items : List ℕ → List Item
as_items text = map Byte text

-- a text made a form
abbrev pub defined : List ℕ → Form
defined text = at_start (as_items text)

-- how many bytes an item stands for: a byte for itself, a gap for the text that was cut out there
abbrev pub width_of : Item → ℕ
width_of (Byte b) = 1
width_of (Gap ordinal width) = width

-- a gap is at least one byte wide
abbrev pub IsWide : Item → Type 0
IsWide item = 1 ≤ width_of item

-- how many bytes items stand for
abbrev pub extent : List Item → ℕ
extent [] = 0
extent (item ∷ items) = width_of item + extent items
