-- Segmenting: how texts are cut out of a form, the leftmost occurrences that do not overlap each leaving a gap. That
-- occurrences are the leftmost, what empty texts do, that none crosses a gap, and where the pointer goes is this
-- project's profile.
use Rattle.std.specs.Prelude.{ℕ, zero, suc, ◌+◌, List, [], ◌∷◌, ◌++◌, length, take, drop, Bool, Option, None, Some}
use Rattle.std.specs.List.{flat_map}
use Rattle.std.specs.Str.{bytes_eq}
use Rattle.trac_rules.specs.declared.item.Item.{Item}
use Rattle.trac_rules.specs.declared.item.Item.TheVariants.{Byte, Gap}
use Rattle.trac_rules.specs.Form.{Form, all_items, at_start, as_items}
use Rattle.trac_rules.specs.Bytes.{first_place}

-- ---- one text in one run of bytes

-- whether a text stands in a run from this place on
abbrev pub stands_at : List ℕ → List ℕ → ℕ → Bool
stands_at text run place = bytes_eq (take (length text) (drop place run)) text

-- the leftmost place at which a text stands in a run; an empty text stands at its start
abbrev pub leftmost : List ℕ → List ℕ → Option ℕ
leftmost text run = first_place (stands_at text run) (length run + 1)

-- a run with the text of number k cut out at this place, if there is one, and what is after it as `cut` leaves it
abbrev pub cut_at : Option ℕ → ℕ → List ℕ → List ℕ → (List ℕ → List Item) → List Item
cut_at None k text run cut = as_items run
cut_at (Some place) k text run cut =
    as_items (take place run) ++ Gap k (length text) ∷ cut (drop (place + length text) run)

-- a run with the text of number k cut out at most n times, from the left
abbrev pub cut_up_to : ℕ → ℕ → List ℕ → List ℕ → List Item
cut_up_to zero k text run = as_items run
cut_up_to (suc n) k text run = cut_at (leftmost text run) k text run (cut_up_to n k text)

-- a run with the leftmost occurrences of the text of number k that do not overlap cut out, of an empty text
-- none: a run has no more of them than bytes, so one round for each byte is enough, and the law
-- `leftmost_is_cut_first` says the same without rounds
unfoldable pub part : ℕ → List ℕ → List ℕ → List Item
part k [] run = as_items run
part k (b ∷ text) run = cut_up_to (length run) k (b ∷ text) run

-- ---- one text in a form: no occurrence crosses a gap

-- items as runs of bytes between gaps: the first run, and each gap with the run after it
pub record Runs : Type 0 where
  pub first : List ℕ
  pub others : List (Item × List ℕ)

-- with a byte before them
abbrev pub byte_before : ℕ → Runs → Runs
byte_before b r = record { first = b ∷ r.first; others = r.others }

-- with a gap before them
abbrev pub gap_before : Item → Runs → Runs
gap_before gap r = record { first = []; others = (gap, r.first) ∷ r.others }

-- items seen so; a run is bounded by gaps alone, and not by a pointer
abbrev pub runs_of : List Item → Runs
runs_of [] = record { first = []; others = [] }
runs_of (Byte b ∷ items) = byte_before b (runs_of items)
runs_of (Gap ordinal width ∷ items) = gap_before (Gap ordinal width) (runs_of items)

-- the gaps as they are, and each run as `cut` leaves it
abbrev pub replaced : (List ℕ → List Item) → Runs → List Item
replaced cut r = cut r.first ++ flat_map (λ piece. piece.0 ∷ cut piece.1) r.others

-- items with the text of number k cut out of each run between gaps
unfoldable pub cut_out : ℕ → List ℕ → List Item → List Item
cut_out k text items = replaced (part k text) (runs_of items)

-- ---- all texts

-- items with these texts cut out in turn, the first of them having the number k: each text is searched in what those
-- before it left, and an empty text uses up its number
abbrev pub segmented_from : ℕ → List (List ℕ) → List Item → List Item
segmented_from k [] items = items
segmented_from k (text ∷ texts) items = segmented_from (k + 1) texts (cut_out k text items)

-- the form with these texts cut out; its pointer is at the start, even if nothing was cut
abbrev pub segmented : List (List ℕ) → Form → Form
segmented texts form = at_start (segmented_from 1 texts (all_items form))
