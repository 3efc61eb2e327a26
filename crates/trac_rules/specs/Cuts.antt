-- Cuts: which gaps segmenting makes, and how they are filled again with the texts that were cut out. A gap that was
-- there before is none of them, whatever its ordinal and its width.
use Rattle.std.specs.Prelude.{ℕ, ◌+◌, ◌==◌, ◌&&◌, nat_le, List, [], ◌∷◌, ◌++◌, length, drop, Bool, true, false}
use Rattle.std.specs.Prelude.{if◌then◌else◌, Option, None, Some, option_map, option_and_then}
use Rattle.std.specs.Bool.{then_some}
use Rattle.trac_rules.specs.declared.item.CutGap.{CutGap}
use Rattle.trac_rules.specs.declared.item.Item.{Item}
use Rattle.trac_rules.specs.declared.item.Item.TheVariants.{Byte, Gap}
use Rattle.trac_rules.specs.Filling.{text_numbered}
use Rattle.trac_rules.specs.Form.{Form, all_items, as_items}
use Rattle.trac_rules.specs.Segmenting.{segmented}

-- ---- which gaps are made

-- whether the first of these items is a gap
abbrev pub begins_with_gap : List Item → Bool
begins_with_gap [] = false
begins_with_gap (Byte b ∷ items) = false
begins_with_gap (Gap ordinal width ∷ items) = true

-- the gaps that the items `new` have where the items `old` have bytes, with their places; the first of `new` has the
-- place that is given. Both are walked side by side: a byte takes one old item, an earlier gap takes itself, and a gap
-- that was made takes as many old items as it is wide
abbrev pub cut_between : ℕ → List Item → List Item → List CutGap
cut_between place old [] = []
cut_between place old (Byte b ∷ new) = cut_between (place + 1) (drop 1 old) new
cut_between place old (Gap ordinal width ∷ new) =
    if begins_with_gap old
    then cut_between (place + 1) (drop 1 old) new
    else record { place = place; ordinal = ordinal } ∷ cut_between (place + 1) (drop width old) new

-- the gaps that segmenting a form with these texts makes, at rising places
abbrev pub cut_of : List (List ℕ) → Form → List CutGap
cut_of texts form = cut_between 0 (all_items form) (all_items (segmented texts form))

-- ---- how they are filled again

-- the text of this number, if the item is a gap of this ordinal that is just as wide, and at least one byte wide
abbrev pub fitting : List (List ℕ) → ℕ → Item → Option (List ℕ)
fitting texts number (Byte b) = None
fitting texts number (Gap ordinal width) =
    then_some (ordinal == number && (width == length (text_numbered number texts) && nat_le 1 width))
    (text_numbered number texts)

-- items with the gaps of a cut filled with their texts; the first item has the place that is given. None if a gap of
-- the cut does not stand at its place as wide as its text, or if places do not rise
abbrev pub joined_from : List (List ℕ) → ℕ → List CutGap → List Item → Option (List Item)
joined_from texts place [] items = Some items
joined_from texts place (gap ∷ cut) [] = None
joined_from texts place (gap ∷ cut) (item ∷ items) = if place == gap.place
    then option_and_then (λ text. option_map (λ rest. as_items text ++ rest) (joined_from texts (place + 1) cut items))
    (fitting texts gap.ordinal item)
    else option_map (λ rest. item ∷ rest) (joined_from texts (place + 1) (gap ∷ cut) items)

-- items with the gaps of a cut filled again with their texts, if they are there
abbrev pub joined : List (List ℕ) → List CutGap → List Item → Option (List Item)
joined texts cut items = joined_from texts 0 cut items
