-- A text or items, as one list of items is kept.
use Rattle.std.specs.Prelude.{◌≡◌, ◌⊎◌, List, [], ℕ}
use Rattle.trac_rules.specs.declared.item.Item.{Item}

-- there is a text or there are items, but not both
abbrev pub IsEither : List ℕ → List Item → Type 0
IsEither text items = (text ≡ []) ⊎ (items ≡ [])
