-- Reading a form at its pointer: what is given, and where the pointer stands afterwards. The items of the form never
-- change. A pointer before a gap and one after it are two places. What gaps do to `cn`, `cc` and `in`, what a number of
-- zero or one that does not fit gives, and where an empty text occurs is this project's profile.
use Rattle.std.specs.Prelude.{ℕ, zero, suc, ◌+◌, ◌==◌, ◌&&◌, min, ℤ, pos, negsuc, List, [], ◌∷◌, length, take, drop}
use Rattle.std.specs.Prelude.{position, Bool, true, false, Option, None, Some, option_map}
use Rattle.std.specs.List.{flat_map}
use Rattle.trac_rules.specs.declared.item.Item.{Item}
use Rattle.trac_rules.specs.declared.item.Item.TheVariants.{Byte, Gap}
use Rattle.trac_rules.specs.Bytes.{first_place, last_place}
use Rattle.trac_rules.specs.Form.{Form}

-- what is read: a value, and how many items stand before the pointer afterwards
pub record Piece : Type 0 where
  pub value : List ℕ
  pub place : ℕ

-- the text of an item: a byte itself, and nothing for a gap
abbrev pub byte_of : Item → List ℕ
byte_of (Byte b) = b ∷ []
byte_of (Gap ordinal width) = []

-- the bytes among items; gaps are passed and not given
abbrev pub bytes_in : List Item → List ℕ
bytes_in items = flat_map byte_of items

-- nothing is read: empty, the pointer unmoved
abbrev pub nothing_read : Form → Piece
nothing_read form = record { value = []; place = length form.before }

-- the next k items are read, the pointer after them
abbrev pub read_on : ℕ → Form → Piece
read_on k form = record { value = bytes_in (take k form.after); place = length form.before + k }

-- the items before the pointer are read from place k on, the pointer at that place
abbrev pub read_back : ℕ → Form → Piece
read_back k form = record { value = bytes_in (drop k form.before); place = k }

-- the piece, if the list holds anything; else none, which is the case of a default argument
abbrev pub where_any : {A : Type 0} → List A → Option Piece → Option Piece
where_any [] piece = None
where_any (x ∷ xs) piece = piece

-- ---- `cs`

abbrev pub is_gap : Item → Bool
is_gap (Byte b) = false
is_gap (Gap ordinal width) = true

-- how many items a segment takes, by the place of the first gap: that gap with what stands before
-- it; without a gap all items
abbrev pub segment_items : Option ℕ → List Item → ℕ
segment_items (Some k) items = k + 1
segment_items None items = length items

-- the bytes up to the next gap, the pointer after that gap; so empty right before a gap. None if nothing stands after
-- the pointer
abbrev pub segment_read : Form → Option Piece
segment_read form = where_any form.after (Some (read_on (segment_items (position is_gap form.after) form.after) form))

-- ---- `cn` and `cc`: gaps are passed

-- the first place among items that has n bytes before it: right after the last of these bytes, if n is not 0
abbrev pub place_after : ℕ → List Item → Option ℕ
place_after n items = first_place (λ k. length (bytes_in (take k items)) == n) (length items + 1)

-- the last place among items that has n bytes after it: right before the first of these bytes, if n is not 0
abbrev pub place_before : ℕ → List Item → Option ℕ
place_before n items = last_place (λ k. length (bytes_in (drop k items)) == n) (length items + 1)

-- n, or the number of bytes among these items if that is less: so there always is a place with so many on that side
abbrev pub at_most_all : ℕ → List Item → ℕ
at_most_all n items = min n (length (bytes_in items))

-- the next n bytes, or as many as there are, the pointer right after the last of them. None if no byte stands after the
-- pointer
abbrev pub next_bytes : ℕ → Form → Option Piece
next_bytes n form = where_any (bytes_in form.after)
    (option_map (λ k. read_on k form) (place_after (at_most_all n form.after) form.after))

-- the last n bytes before the pointer, or as many as there are, in the order of the text. The pointer is then right
-- before the first of them. None if no byte stands before the pointer
abbrev pub last_bytes : ℕ → Form → Option Piece
last_bytes n form = where_any (bytes_in form.before)
    (option_map (λ k. read_back k form) (place_before (at_most_all n form.before) form.before))

-- `cc`: the next byte
abbrev pub char_read : Form → Option Piece
char_read form = next_bytes 1 form

-- `cn`: for a number above zero so many bytes after the pointer, for one below zero so many before it; for zero empty,
-- the pointer unmoved, whatever stands on its sides
abbrev pub count_read : ℤ → Form → Option Piece
count_read (pos zero) form = Some (nothing_read form)
count_read (pos (suc n)) form = next_bytes (suc n) form
count_read (negsuc n) form = last_bytes (suc n) form

-- the same for the number of a call, if it fits; if it does not, empty, the pointer unmoved
abbrev pub fitting_count_read : Option ℤ → Form → Option Piece
fitting_count_read None form = Some (nothing_read form)
fitting_count_read (Some n) form = count_read n form

-- ---- `in`

-- whether items begin with a text: with its bytes one after another, and so with no gap between them
abbrev pub begin_with : List ℕ → List Item → Bool
begin_with [] items = true
begin_with (b ∷ text) [] = false
begin_with (b ∷ text) (Byte c ∷ items) = b == c && begin_with text items
begin_with (b ∷ text) (Gap ordinal width ∷ items) = false

-- the first place among items at which a text occurs; no occurrence crosses a gap, and an empty text occurs at once,
-- also at the end
abbrev pub place_of_text : List ℕ → List Item → Option ℕ
place_of_text text items = first_place (λ k. begin_with text (drop k items)) (length items + 1)

-- the bytes before the first occurrence of a text after the pointer, the pointer right after that
-- occurrence. None if it does not occur
abbrev pub until_read : List ℕ → Form → Option Piece
until_read text form = option_map (λ k. record (read_on k form) { place = length form.before + k + length text })
    (place_of_text text form.after)
