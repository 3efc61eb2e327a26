-- How a form is printed. That its pointer is shown is this project's profile.
use Rattle.std.specs.Prelude.{ℕ, List, [], ◌∷◌, ◌++◌, codes, decimal}
use Rattle.std.specs.List.{flat_map}
use Rattle.trac_rules.specs.declared.item.Item.{Item}
use Rattle.trac_rules.specs.declared.item.Item.TheVariants.{Byte, Gap}
use Rattle.trac_rules.specs.Form.{Form}

-- a byte as itself, and a gap of number k as `<k>`
abbrev pub shown_item : Item → List ℕ
shown_item (Byte b) = b ∷ []
shown_item (Gap ordinal width) = codes "<" ++ (decimal ordinal ++ codes ">")

-- items, one after another
abbrev pub shown_items : List Item → List ℕ
shown_items items = flat_map shown_item items

-- a form's items, with `<^>` at the place of its pointer, wherever that is
abbrev pub shown : Form → List ℕ
shown form = shown_items form.before ++ (codes "<^>" ++ shown_items form.after)
