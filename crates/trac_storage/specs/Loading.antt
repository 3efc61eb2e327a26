-- Loading: the state that parts show, and when it is refused.
use Rattle.std.specs.Prelude.{ℕ, ◌&&◌, nat_le, List, length, map, Bool, true, Option, None, Some, Vec, Result, Ok}
use Rattle.std.specs.FinMap as finite
use Rattle.std.specs.List.{All, list_all}
use Rattle.trac_rules.specs.declared.limit.TheConstants.{BLOCK_LIMIT, FORM_COUNT_LIMIT, MARK_LIMIT, NAME_LIMIT}
use Rattle.trac_rules.specs.declared.limit.TheConstants.{OUTPUT_LIMIT, TEXT_LIMIT}
use Rattle.trac_rules.specs.declared.refusal.Refusal.{Refusal}
use Rattle.trac_rules.specs.Blocks.{moved_out, with_all}
use Rattle.trac_rules.specs.Form.{Form}
use Rattle.trac_rules.specs.Limits.{texts_fit}
use Rattle.trac_rules.specs.Outcomes.{limited}
use Rattle.trac_rules.specs.Proper.{IsProperForm, is_proper}
use Rattle.trac_rules.specs.State.{Block, Forms, Held, State, Storage}
use Rattle.trac_rules.specs.Undone.{names_in}
use Rattle.trac_change.specs.Changed.{named_forms}
use Rattle.trac_text.specs.Framing.{frames_of, functions_of, texts_of}
use Rattle.trac_storage.specs.declared.parts.Parts as code

-- ---- the state of parts

-- the forms of these names, a later form of the same name in place of an earlier one
abbrev pub forms_of : Held → Forms
forms_of held = with_all held finite.empty

-- the same in an order: each name stands where it stood first, with the form that it has last
abbrev pub held_of : Held → Held
held_of held = moved_out (names_in held) (forms_of held)

-- a block of these forms; none if it is erased
abbrev pub block_of : {A : Type 0} → Option (Vec (Vec ℕ A × Form) A) → Block
block_of None = None
block_of (Some forms) = Some (held_of (named_forms forms.items))

-- the state that parts show
abbrev pub state_in : {A : Type 0} → code.Parts A → State
state_in parts = record {
  active = parts.active.items;
  base = parts.base.items;
  frames = frames_of (functions_of parts.frames.items);
  forms = forms_of (named_forms parts.forms.items);
  blocks = map block_of parts.blocks.items;
  meta = parts.meta;
  trace = parts.trace;
  position = parts.position;
  output = parts.output.items;
}

-- ---- when it is refused

-- whether the rooms that are wanted are within the limits
abbrev pub rooms_fit : {A : Type 0} → code.Parts A → Bool
rooms_fit parts =
    nat_le parts.text_room TEXT_LIMIT && nat_le parts.mark_room MARK_LIMIT && nat_le parts.output_room OUTPUT_LIMIT

-- whether names are within the limit
abbrev pub names_fit : List (List ℕ) → Bool
names_fit names = list_all (λ name. nat_le (length name) NAME_LIMIT) names

-- whether the state, the rooms and the further names are within the limits
abbrev pub parts_fit : {A : Type 0} → code.Parts A → Bool
parts_fit parts = is_proper (state_in parts) && rooms_fit parts && names_fit (texts_of parts.names.items)

-- the state of the parts, or `TooLong` if something passes a limit
abbrev pub loaded : {A : Type 0} → code.Parts A → Result State Refusal
loaded parts = limited (λ _. parts_fit parts) (Ok (state_in parts))

-- ---- limits that are judged before memory is taken: all but the number of forms, and that of the forms of a block

-- whether the names of forms are within the limit; the forms themselves always are
abbrev pub entries_fit : Held → Bool
entries_fit held = names_fit (names_in held)

-- whether those of the forms of a block are
abbrev pub block_entries_fit : {A : Type 0} → Option (Vec (Vec ℕ A × Form) A) → Bool
block_entries_fit None = true
block_entries_fit (Some forms) = entries_fit (named_forms forms.items)

-- whether blocks are within the limits: their number, and the names of the forms of each
abbrev pub blocks_fit : {A : Type 0} → List (Option (Vec (Vec ℕ A × Form) A)) → Bool
blocks_fit blocks = nat_le (length blocks) BLOCK_LIMIT && list_all block_entries_fit blocks

-- all of these
abbrev pub lengths_fit : {A : Type 0} → code.Parts A → Bool
lengths_fit parts = texts_fit (state_in parts) && rooms_fit parts && names_fit (texts_of parts.names.items)
    && entries_fit (named_forms parts.forms.items) && blocks_fit parts.blocks.items

-- forms and their names are within the limits, and each gap is at least one byte wide
abbrev pub AreProperEntries : Held → Type 0
AreProperEntries held = All (λ entry. IsProperForm entry.0 entry.1) held

-- so are those of a block
abbrev pub IsProperList : {A : Type 0} → Option (Vec (Vec ℕ A × Form) A) → Type 0
IsProperList None = Unit {0}
IsProperList (Some forms) = AreProperEntries (named_forms forms.items)

-- ---- and the numbers of forms

-- whether there are not too many forms
abbrev pub forms_few : Forms → Bool
forms_few forms = nat_le (finite.len forms) FORM_COUNT_LIMIT

-- and not too many in a block
abbrev pub block_few : Block → Bool
block_few None = true
block_few (Some held) = nat_le (length held) FORM_COUNT_LIMIT

-- both, for all blocks
abbrev pub counts_fit : Storage → Bool
counts_fit storage = forms_few storage.forms && list_all block_few storage.blocks
