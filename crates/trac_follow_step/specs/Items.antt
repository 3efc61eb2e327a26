-- Bytes that the items of a form give, and which item gives the byte of a number.
use Rattle.std.specs.Prelude.{◌≡◌, ℕ, ◌+◌, ◌<◌, List, flat_map, length, take, drop, Bool, Some, slice_get}
use Rattle.std.specs.FinMap as finite
use Rattle.trac_rules.specs.declared.item.Item.{Item}
use Rattle.trac_rules.specs.Filling.{filled}
use Rattle.trac_rules.specs.Form.{extent}
use Rattle.trac_rules.specs.Pieces.{byte_of, is_gap}
use Rattle.trac_rules.specs.Showing.{shown_item}
use Rattle.trac_rules.specs.State.{State}
use Rattle.trac_origins.specs.Places.{Place, InForm, items_of}
use Rattle.trac_follow_step.specs.declared.items.Giving.{Giving}
use Rattle.trac_follow_step.specs.declared.items.Giving.TheVariants.{Filled, Read, Shown}
use Rattle.trac_follow_step.specs.declared.items.Given.{Given}
use Rattle.trac_follow_step.specs.declared.items.Among as among

-- what an item gives
abbrev pub given_by : Giving → Item → List ℕ
given_by (Filled arguments) = filled (drop 2 arguments.now)
given_by Read = byte_of
given_by Shown = shown_item

-- the byte of this number of what items give is this byte of what one of them gives
pub record IsGiven (give : Item → List ℕ) (items : List Item) (i : ℕ) (given : Given) : Type 0 where
  pub there : slice_get items given.at ≡ Some given.item
  pub place : length (flat_map give (take given.at items)) + given.byte ≡ i
  pub within : given.byte < length (give given.item)

-- where the byte is among the first so many items, or how far past what they give
abbrev pub IsAmong : (Item → List ℕ) → List Item → ℕ → ℕ → among.Among → Type 0
IsAmong give items count i (among.TheVariants.Here given) = (given.at < count) × IsGiven give items i given
IsAmong give items count i (among.TheVariants.Past rest) = length (flat_map give (take count items)) + rest ≡ i

-- of a place in a form where something stands: how many bytes the items before it stand for, and
-- whether a gap stands there
abbrev pub IsMeasured : ℕ → Bool → State → Place → Type 0
IsMeasured bytes gap t (InForm name i) =
    (item : Item) → slice_get (items_of (finite.get t.forms name)) i ≡ Some item →
    (bytes ≡ extent (take i (items_of (finite.get t.forms name)))) × (gap ≡ is_gap item)
IsMeasured bytes gap t place = Unit {0}
