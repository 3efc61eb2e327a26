-- How forms and states are shown.
use Rattle.std.specs.Prelude.{ℕ, List, [], ◌∷◌, ◌++◌, length, reverse, Bool, true, false, None, Some, codes, decimal}
use Rattle.std.specs.List.{enumerate_from, flat_map}
use Rattle.std.specs.FinMap as map
use Rattle.trac_rules.specs.declared.item.Item.{Item}
use Rattle.trac_rules.specs.declared.item.Item.TheVariants.{Byte, Gap}
use Rattle.trac_rules.specs.declared.kind.Kind.{Kind}
use Rattle.trac_rules.specs.declared.kind.Kind.TheVariants.{Active, Neutral}
use Rattle.trac_rules.specs.Form.{Form}
use Rattle.trac_rules.specs.Session.{PlainSession}
use Rattle.trac_rules.specs.State.{Block, Frame, State}
use Rattle.trac_streams.specs.Escapes.{bracketed, escaped_byte, feed, number_line, text_line}

-- ---- forms

-- a byte as in a text, and a gap of number k as `<k>`
abbrev pub escaped_item : Item → List ℕ
escaped_item (Byte b) = escaped_byte b
escaped_item (Gap ordinal width) = codes "<" ++ (decimal ordinal ++ codes ">")

-- items, one after another
abbrev pub escaped_items : List Item → List ℕ
escaped_items items = flat_map escaped_item items

-- a form's items, with `<^>` at the place of its pointer, in brackets
abbrev pub bracketed_form : Form → List ℕ
bracketed_form form =
    codes "[" ++ (escaped_items form.before ++ (codes "<^>" ++ (escaped_items form.after ++ codes "]")))

-- ---- lines of a state

-- how the kind of a begun function is written
abbrev pub sharps : Kind → List ℕ
sharps Active = codes "#"
sharps Neutral = codes "##"

-- a function of this kind with these arguments
abbrev pub arguments_line : Kind → List (List ℕ) → List ℕ
arguments_line kind arguments = codes "call " ++ (sharps kind ++ (codes " " ++ (flat_map bracketed arguments ++ feed)))

-- a begun function: its finished arguments, and then the one that is being gathered
abbrev pub frame_line : Frame → List ℕ
frame_line frame = arguments_line frame.kind (frame.arguments ++ frame.gathered ∷ [])

-- a word, and a form after its name
abbrev pub form_line : List ℕ → List ℕ × Form → List ℕ
form_line word named = word ++ (codes " " ++ (bracketed named.0 ++ (codes " " ++ (bracketed_form named.1 ++ feed))))

-- the block of this number: erased, or with the forms that it holds, in their order
abbrev pub lines_of_block : ℕ → Block → List ℕ
lines_of_block k None = codes "block " ++ (decimal k ++ (codes " erased" ++ feed))
lines_of_block k (Some held) = number_line (codes "block") k ++ flat_map (form_line (codes "held")) held

-- a block beside its number
abbrev pub block_lines : ℕ × Block → List ℕ
block_lines numbered = lines_of_block numbered.0 numbered.1

-- whether each call is printed
abbrev pub trace_line : Bool → List ℕ
trace_line true = codes "trace on" ++ feed
trace_line false = codes "trace off" ++ feed

-- all parts of a state: the begun functions from the outermost on, the forms by their names, which rise by their
-- bytes, and the blocks by their numbers
abbrev pub machine_text : State → List ℕ
machine_text s =
    text_line (codes "active") s.active
    ++ text_line (codes "base") s.base
    ++ flat_map frame_line (reverse s.frames)
    ++ flat_map (form_line (codes "form")) (map.entries s.forms)
    ++ flat_map block_lines (enumerate_from 0 s.blocks)
    ++ text_line (codes "meta") (s.meta ∷ [])
    ++ trace_line s.trace
    ++ number_line (codes "position") s.position
    ++ text_line (codes "output") s.output

-- the last state of a session, and how many records there are
abbrev pub state_text : PlainSession → List ℕ
state_text p = machine_text p.last ++ number_line (codes "journal") (length p.earlier)
