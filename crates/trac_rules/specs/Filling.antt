-- Calling a form: its gaps are filled with the call's texts. It begins at the pointer by this project's profile.
use Rattle.std.specs.Prelude.{ℕ, zero, suc, List, [], ◌∷◌, get_or}
use Rattle.std.specs.List.{flat_map}
use Rattle.trac_rules.specs.declared.item.Item.{Item}
use Rattle.trac_rules.specs.declared.item.Item.TheVariants.{Byte, Gap}
use Rattle.trac_rules.specs.Form.{Form}

-- the text of this number, the first being number 1; empty if it is missing, and for the number 0, which no segmenting
-- gives
abbrev pub text_numbered : ℕ → List (List ℕ) → List ℕ
text_numbered zero texts = []
text_numbered (suc k) texts = get_or texts k []

-- what an item gives in a call with these texts: a byte itself, and a gap the text of its number
abbrev pub filled : List (List ℕ) → Item → List ℕ
filled texts (Byte b) = b ∷ []
filled texts (Gap ordinal width) = text_numbered ordinal texts

-- items with their gaps filled
abbrev pub all_filled : List (List ℕ) → List Item → List ℕ
all_filled texts items = flat_map (filled texts) items

-- the value of a call with these texts: what stands after the pointer, its gaps filled
abbrev pub called : List (List ℕ) → Form → List ℕ
called texts form = all_filled texts form.after
