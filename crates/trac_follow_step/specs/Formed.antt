-- What is told of a form that a call reads, prints or cuts.
use Rattle.std.specs.Prelude.{◌≡◌, ◌==◌, ◌⊎◌, ℕ, ◌+◌, ◌<◌, ◌≤◌, min, List, length, take, drop, Bool, true, false}
use Rattle.std.specs.Prelude.{Option, None, Some, All, slice_get}
use Rattle.std.specs.FinMap as finite
use Rattle.trac_rules.specs.declared.item.Item.{Item}
use Rattle.trac_rules.specs.declared.item.Item.TheVariants.{Byte, Gap}
use Rattle.trac_rules.specs.declared.limit.TheConstants.{OUTPUT_LIMIT}
use Rattle.trac_rules.specs.declared.primitive.Primitive.{Primitive}
use Rattle.trac_rules.specs.declared.width.Width.{Width}
use Rattle.trac_rules.specs.Effect.{Effect}
use Rattle.trac_rules.specs.Form.{Form, IsWide, all_items, extent}
use Rattle.trac_rules.specs.Handling.{named_form}
use Rattle.trac_rules.specs.Listing.{names_of}
use Rattle.trac_rules.specs.Pieces.{begin_with, bytes_in}
use Rattle.trac_rules.specs.Scanning.{Call}
use Rattle.trac_rules.specs.Showing.{shown, shown_item, shown_items}
use Rattle.trac_rules.specs.State.{Environment, Forms, State, storage_of}
use Rattle.trac_forms.specs.declared.piece.Piece.{Piece as Measured}
use Rattle.trac_forms.specs.Listed.{IsListed, listed_len}
use Rattle.trac_origins.specs.Lengths.{IsCallOf, value_at}
use Rattle.trac_origins.specs.Places.{InForm}
use Rattle.trac_origins.specs.Stepping.{origin}
use Rattle.trac_follow_step.specs.declared.formed.Printed as printing
use Rattle.trac_follow_step.specs.declared.place.After.{After}
use Rattle.trac_follow_step.specs.declared.place.Origin as told
use Rattle.trac_follow_step.specs.declared.place.Place as code_place
use Rattle.trac_follow_step.specs.Places.{IsSeen, Tells, place_of}

-- what is told of the byte of this number of the value of a call of this primitive, which names this form and has these
-- arguments, and is that of the function of this number; so much is known of the value
abbrev pub TellsOfForm : Primitive → Form → List (List ℕ) → ℕ → Width → Option ℕ → ℕ → told.Origin → Type 0
TellsOfForm primitive form arguments function width seen i o =
    (environment : Environment) (s : State) (call : Call) (e : Effect) → environment.width ≡ width →
    IsCallOf environment s call primitive e → call.arguments ≡ arguments → length call.state.frames ≡ function →
    named_form call.arguments (storage_of call.state) ≡ Some form → IsSeen seen e → i < length e.value →
    Tells s o (origin environment s (value_at call.kind e.forced call.state i))

-- the item of a form that has so many bytes before it, those from this place on
abbrev pub ToldFrom : Form → ℕ → ℕ → told.Origin → Type 0
ToldFrom form first i (told.TheVariants.OfForm n) =
    (m : ℕ) × (b : ℕ) × (n ≡ first + m) × (slice_get (drop first (all_items form)) m ≡ Some (Byte b))
    × (length (bytes_in (take m (drop first (all_items form)))) ≡ i)
ToldFrom form first i told.TheVariants.Nothing = length (bytes_in (drop first (all_items form))) ≤ i
ToldFrom form first i o = ⊥

-- of a piece that is read of a form; without one, of an argument
abbrev pub ToldAsPiece : Form → Option Measured → ℕ → ℕ → ℕ → told.Origin → Type 0
ToldAsPiece form None function other i o =
    o ≡ told.TheVariants.Carried (code_place.TheVariants.Argument function other i)
ToldAsPiece form (Some piece) function other i o = ToldFrom form (min piece.pointer (length form.before)) i o

-- whether a text stands in a form after so many bytes that stand after the pointer: at the byte of that number
pub record StandsAfter (text : List ℕ) (bytes : ℕ) (form : Form) : Type 0 where
  pub place : ℕ
  pub byte : ℕ
  pub there : slice_get form.after place ≡ Some (Byte byte)
  pub before : length (bytes_in (take place form.after)) ≡ bytes
  pub begins : begin_with text (drop place form.after) ≡ true

-- whether an item is this byte
abbrev pub is_byte : Option Item → ℕ → Bool
is_byte (Some (Byte c)) b = b == c
is_byte found b = false

-- whether `in` found a text, told by what is known of its value: it is not forced, or the text stands after it
abbrev pub IsFound : Form → List ℕ → Option ℕ → Bool → Type 0
IsFound form text None found = found ≡ true
IsFound form text (Some len) true = StandsAfter text len form
IsFound form text (Some len) false = StandsAfter text len form → ⊥

-- of the names of forms, rising by their bytes, with argument 1 before each
abbrev pub ToldAsListed : Forms → ℕ → ℕ → ℕ → told.Origin → Type 0
ToldAsListed forms text function i (told.TheVariants.Carried (code_place.TheVariants.Argument n k j)) =
    (n ≡ function) × (k ≡ 1) × (j < text) × IsListed (names_of forms) text i j
ToldAsListed forms text function i told.TheVariants.Made = (j : ℕ) × (text ≤ j) × IsListed (names_of forms) text i j
ToldAsListed forms text function i told.TheVariants.Nothing = listed_len text (names_of forms) ≤ i
ToldAsListed forms text function i o = ⊥

-- a byte that is printed is the form's, and a mark is made
abbrev pub of_shown : Item → ℕ → told.Origin
of_shown (Byte b) n = told.TheVariants.OfForm n
of_shown (Gap ordinal width) n = told.TheVariants.Made

-- the byte of this number that items are printed as, of which so many stand before them in the form
pub record IsShown (items : List Item) (first i : ℕ) (o : told.Origin) : Type 0 where
  pub item : Item
  pub at : ℕ
  pub byte : ℕ
  pub there : slice_get items at ≡ Some item
  pub place : length (shown_items (take at items)) + byte ≡ i
  pub within : byte < length (shown_item item)
  pub shows : o ≡ of_shown item (first + at)

-- of what is printed after the mark of the pointer; nothing is past it
abbrev pub ToldAsShownAfter : Form → ℕ → told.Origin → Type 0
ToldAsShownAfter form i o = ((o ≡ told.TheVariants.Nothing) × (length (shown_items form.after) ≤ i))
    ⊎ IsShown form.after (length form.before) i o

-- of the whole form, as it is printed
abbrev pub ToldAsShownAt : Form → ℕ → told.Origin → Type 0
ToldAsShownAt form i o =
    IsShown form.before 0 i o
    ⊎ (((o ≡ told.TheVariants.Made) × ((j : ℕ) × (j < 3) × (i ≡ length (shown_items form.before) + j)))
    ⊎ ((j : ℕ) × (i ≡ length (shown_items form.before) + (3 + j)) × ToldAsShownAfter form j o))

-- where a byte of an output is that a text of this length ends at `end`: in the text, in the line before it, or nowhere
abbrev pub IsPrintedAt : ℕ → ℕ → ℕ → printing.Printed → Type 0
IsPrintedAt text end i (printing.TheVariants.Text j) = (j + end ≡ i + text) × (j < text)
IsPrintedAt text end i printing.TheVariants.Line = i + text < end
IsPrintedAt text end i printing.TheVariants.Nowhere = (end < text) ⊎ (end ≤ i)

-- of the form, which ends the output at `end`, and of the line that is made before it; no such output is within the
-- limit, or nothing is past its end
abbrev pub ToldAsShown : Form → ℕ → ℕ → told.Origin → Type 0
ToldAsShown form end i o = ((o ≡ told.TheVariants.Nothing)
    × ((length (shown form) ≤ OUTPUT_LIMIT → ⊥) ⊎ ((end < length (shown form)) ⊎ (end ≤ i))))
    ⊎ (((o ≡ told.TheVariants.Made) × (i + length (shown form) < end))
    ⊎ ((j : ℕ) × (j + end ≡ i + length (shown form)) × ToldAsShownAt form j o))

-- of the form of a name; without one nothing is printed of it, and what is new is made
abbrev pub ToldAsFormShown : State → List ℕ → ℕ → ℕ → told.Origin → Type 0
ToldAsFormShown s name end i o = ((o ≡ told.TheVariants.Made) × (finite.get s.forms name ≡ None))
    ⊎ ((form : Form) × (finite.get s.forms name ≡ Some form) × ToldAsShown form end i o)

-- whether an item is cut: a gap stands where a byte stood
abbrev pub is_cut : Bool → Item → Bool
is_cut gap (Byte b) = gap
is_cut gap (Gap ordinal width) = false

-- carried from this item of the form of this name
abbrev pub CarriedFrom : told.Origin → List ℕ → ℕ → Type 0
CarriedFrom (told.TheVariants.Carried place) name n = place_of place ≡ InForm name n
CarriedFrom o name n = ⊥

-- made if it is cut, else carried from this item
abbrev pub told_of : Bool → told.Origin → List ℕ → ℕ → Type 0
told_of true o name n = o ≡ told.TheVariants.Made
told_of false o name n = CarriedFrom o name n

-- the item of a form before which items stand that stand for so many bytes
pub record IsAfter (form : Form) (bytes n : ℕ) (item : Item) : Type 0 where
  pub there : slice_get (all_items form) n ≡ Some item
  pub before : extent (take n (all_items form)) ≡ bytes
  pub wide : All IsWide (all_items form)

-- of an item that `ss` leaves: that of the form which stood after as many bytes, and made if it is a gap over a byte.
-- Nothing if none stood so
abbrev pub ToldAsCut : Form → List ℕ → After → told.Origin → Type 0
ToldAsCut form name after o = ((o ≡ told.TheVariants.Nothing) × ((n : ℕ) (was : Item) →
    slice_get (all_items form) n ≡ Some was → extent (take n (all_items form)) ≡ after.extent → ⊥))
    ⊎ ((n : ℕ) × (was : Item) × IsAfter form after.extent n was × told_of (is_cut after.is_gap was) o name n)

-- of the form of a name; nothing if there is none
abbrev pub ToldAsFormCut : State → List ℕ → After → told.Origin → Type 0
ToldAsFormCut s name after o = ((o ≡ told.TheVariants.Nothing) × (finite.get s.forms name ≡ None))
    ⊎ ((form : Form) × (finite.get s.forms name ≡ Some form) × ToldAsCut form name after o)
