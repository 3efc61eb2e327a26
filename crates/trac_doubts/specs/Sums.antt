-- Sums of bytes, by which a search passes most places at which a text cannot stand.
use Rattle.std.specs.Prelude.{ℕ, List, sum_by}
use Rattle.trac_rules.specs.declared.item.Item.{Item}
use Rattle.trac_rules.specs.declared.item.Item.TheVariants.{Byte, Gap}

-- a byte as a number; 0 of a gap
abbrev pub code_of : Item → ℕ
code_of (Byte b) = b
code_of (Gap ordinal width) = 0

-- the sum of the bytes among items
abbrev pub sum_among : List Item → ℕ
sum_among items = sum_by code_of items
