-- How an item of a form is kept: as two numbers.
use Rattle.std.specs.Prelude.{◌≡◌, ℕ, zero, suc, ◌<◌, refl}
use Rattle.trac_rules.specs.declared.item.Item.{Item}
use Rattle.trac_rules.specs.declared.item.Item.TheVariants.{Byte, Gap}
use Rattle.trac_items.specs.declared.packed.PackedItem.TheInside.{Inside}

-- a width of 0 tells a byte
abbrev pub item_of : ℕ → ℕ → Item
item_of number zero = Byte number
item_of number (suc width) = Gap number (suc width)

abbrev pub unpacked : Inside → Item
unpacked kept = item_of kept.number kept.width

abbrev pub packed : Item → Inside
packed (Byte b) = record { number = b; width = 0 }
packed (Gap ordinal width) = record { number = ordinal; width = width }

-- the number of a byte is one
abbrev pub IsPacked : Inside → Type 0
IsPacked kept = kept.width ≡ 0 → kept.number < 256

pub packed_again : (kept : Inside) → IsPacked kept → packed (unpacked kept) ≡ kept
packed_again kept fits = again kept.number kept.width
  where
    again : (number width : ℕ) → packed (item_of number width) ≡ record { number = number; width = width }
    again number zero = refl
    again number (suc width) = refl
