-- What a record weighs, by what it keeps, and what a step may cost the journal, by the state before it: bytes of texts
-- and names, items of forms, and one for each gap that was made, comma, frame and name. Lengths, flags, old pointers
-- and numbers of blocks are not weighed.
use Rattle.std.specs.Prelude.{ℕ, ◌+◌, ◌-◌, List, [], ◌∷◌, ◌++◌, length, take, drop, Option, None, Some}
use Rattle.std.specs.FinMap as finite
use Rattle.std.specs.Option.{option_map_or}
use Rattle.trac_rules.specs.declared.item.Item.{Item}
use Rattle.trac_rules.specs.declared.item.Item.TheVariants.{Byte, Gap}
use Rattle.trac_rules.specs.declared.primitive.BlockAction.{BlockAction}
use Rattle.trac_rules.specs.declared.primitive.BlockAction.TheVariants.{StoreBlock, FetchBlock, EraseBlock}
use Rattle.trac_rules.specs.declared.primitive.FormAction.{FormAction}
use Rattle.trac_rules.specs.declared.primitive.FormAction.TheVariants.{Define, Delete, DeleteAll, Segment}
use Rattle.trac_rules.specs.declared.primitive.Primitive.{Primitive}
use Rattle.trac_rules.specs.declared.primitive.Primitive.TheVariants.{SetMeta, Handle, HandleBlock}
use Rattle.trac_rules.specs.declared.scan.Front.{Front}
use Rattle.trac_rules.specs.declared.scan.Front.TheVariants as front
use Rattle.trac_rules.specs.Blocks.{block_at, forms_in, named_block_number}
use Rattle.trac_rules.specs.Effect.{argument}
use Rattle.trac_rules.specs.Form.{Form, all_items}
use Rattle.trac_rules.specs.Handling.{named_form, without}
use Rattle.trac_rules.specs.Limits.{argument_bytes, marks, total_length}
use Rattle.trac_rules.specs.Performing.{primitive_of}
use Rattle.trac_rules.specs.Records.{CallRecord, Record, Moved, Comma, Begun, Quoted, Deleted, Idle, Called, recorded}
use Rattle.trac_rules.specs.Scanning.{Scanned, Moves, Calls, front_of, scan}
use Rattle.trac_rules.specs.Segmenting.{segmented}
use Rattle.trac_rules.specs.State.{Forms, Frame, Held, State, Storage, storage_of}
use Rattle.trac_rules.specs.Undone.{Undone, Nothing, Point, Join, Swap, Restore, MoveOut, Unbring, Unerase, names_in}
use Rattle.trac_rules.specs.Undone.{undone_by}

-- ---- what is kept

-- frames: of each the bytes of its arguments, one for each comma between them, and one
abbrev pub frames_weight : List Frame → ℕ
frames_weight [] = 0
frames_weight (f ∷ fs) = 1 + total_length f.arguments + length f.arguments + length f.gathered + frames_weight fs

-- forms with their names: of each its items, the bytes of its name, and one
abbrev pub held_weight : Held → ℕ
held_weight [] = 0
held_weight (entry ∷ held) = length (all_items entry.1) + length entry.0 + 1 + held_weight held

-- a form without its name, if there is one: its items
abbrev pub form_weight : Option Form → ℕ
form_weight found = option_map_or (λ form. length (all_items form)) found 0

-- what a call destroyed of forms and blocks
abbrev pub undone_weight : Undone → ℕ
undone_weight Nothing = 0
undone_weight (Point place) = 0
undone_weight (Join cut place) = length cut
undone_weight (Swap old) = form_weight old
undone_weight (Restore held) = held_weight held
undone_weight (MoveOut old) = form_weight old
undone_weight (Unbring number replaced) = held_weight replaced
undone_weight (Unerase number held address) = held_weight held + length (all_items address)

-- a meta character, if one is kept
abbrev pub meta_weight : Option ℕ → ℕ
meta_weight None = 0
meta_weight (Some byte) = 1

-- what a call destroyed: its arguments with one for each comma between them, one for a meta character, and
-- what is kept of forms and blocks
abbrev pub call_weight : CallRecord → ℕ
call_weight call =
    total_length call.arguments + (length call.arguments - 1) + meta_weight call.meta + undone_weight call.undone

-- what a record weighs
abbrev pub weight : Record → ℕ
weight Moved = 0
weight Comma = 0
weight Begun = 0
weight (Quoted inner closed) = 0
weight (Deleted b) = 1
weight (Idle base frames) = length base + frames_weight frames
weight (Called call) = call_weight call

-- ---- what the record of a step weighs, by the state before the step: it does not depend on the input

-- what a primitive keeps of the meta character: one if it is set
abbrev pub meta_kept : Primitive → List (List ℕ) → ℕ
meta_kept SetMeta arguments = length (take 1 (argument 1 arguments))
meta_kept primitive arguments = 0

-- of a call of these arguments: their bytes, one for each comma between them, one for a meta character that is set, and
-- what is destroyed of forms and blocks
abbrev pub kept_weight : List (List ℕ) → Storage → ℕ
kept_weight arguments storage =
    total_length arguments + (length arguments - 1) + meta_kept (primitive_of (argument 0 arguments)) arguments
    + undone_weight (undone_by (primitive_of (argument 0 arguments)) arguments storage)

-- by what scanning gives: of a rule that moves on the weight of what it destroys, and else that of the call
abbrev pub step_weight_in : State → Scanned → ℕ
step_weight_in s (Moves t) = weight (recorded s)
step_weight_in s (Calls call) = kept_weight call.arguments (storage_of call.state)

abbrev pub step_weight : State → ℕ
step_weight s = step_weight_in s (scan s)

-- what the records of the steps from these states weigh together
abbrev pub weights_from : List State → ℕ
weights_from [] = 0
weights_from (s ∷ states) = step_weight s + weights_from states

-- ---- what a call may lose beside its arguments: counted in the forms that there are, whatever a record keeps of them

-- a form under a name: its items, the bytes of its name, and one
abbrev pub form_loss : List ℕ → Form → ℕ
form_loss name form = length form.before + length form.after + length name + 1

-- the form of this name, if there is one
abbrev pub named_loss : List ℕ → Forms → ℕ
named_loss name forms = option_map_or (form_loss name) (finite.get forms name) 0

-- all of these forms
abbrev pub all_loss : Held → ℕ
all_loss [] = 0
all_loss (entry ∷ held) = form_loss entry.0 entry.1 + all_loss held

-- the forms of these names, those that there are: all forms less those that are left without them
abbrev pub taken_loss : List (List ℕ) → Forms → ℕ
taken_loss names forms = all_loss (finite.entries forms) - all_loss (finite.entries (without names forms))

-- how many gaps there are among items
abbrev pub gap_count : List Item → ℕ
gap_count [] = 0
gap_count (Byte b ∷ items) = gap_count items
gap_count (Gap ordinal width ∷ items) = 1 + gap_count items

-- how many gaps segmenting with these texts makes
abbrev pub gaps_made : List (List ℕ) → Form → ℕ
gaps_made texts form = gap_count (all_items (segmented texts form)) - gap_count (all_items form)

-- a replaced form, the deleted forms, or one for each gap made
abbrev pub handled_loss : FormAction → List (List ℕ) → Storage → ℕ
handled_loss Define arguments storage = named_loss (argument 1 arguments) storage.forms
handled_loss Delete arguments storage = taken_loss (drop 1 arguments) storage.forms
handled_loss DeleteAll arguments storage = all_loss (finite.entries storage.forms)
handled_loss Segment arguments storage = option_map_or (gaps_made (drop 2 arguments)) (named_form arguments storage) 0
handled_loss action arguments storage = 0

-- the replaced form, if it was not put aside; the forms that copies replace; the forms of the block, and the form that
-- was its address
abbrev pub block_loss : BlockAction → List (List ℕ) → Storage → ℕ
block_loss StoreBlock arguments storage = named_loss (argument 1 arguments) (without (drop 2 arguments) storage.forms)
block_loss FetchBlock arguments storage =
    option_map_or (λ number. taken_loss (names_in (forms_in (block_at number storage.blocks))) storage.forms)
    (named_block_number arguments storage) 0
block_loss EraseBlock arguments storage = option_map_or
    (λ number. all_loss (forms_in (block_at number storage.blocks)) + named_loss (argument 1 arguments) storage.forms)
    (named_block_number arguments storage) 0

-- one for a meta character that is set, or what is lost of forms and blocks
abbrev pub primitive_loss : Primitive → List (List ℕ) → Storage → ℕ
primitive_loss SetMeta arguments storage = length (take 1 (argument 1 arguments))
primitive_loss (Handle action) arguments storage = handled_loss action arguments storage
primitive_loss (HandleBlock action) arguments storage = block_loss action arguments storage
primitive_loss primitive arguments storage = 0

-- ---- what a step may lose

-- a call of these arguments: their bytes, one for each comma between them, and what its primitive may lose
abbrev pub call_loss : List (List ℕ) → Storage → ℕ
call_loss arguments storage = total_length arguments + (length arguments - 1)
    + primitive_loss (primitive_of (argument 0 arguments)) arguments storage

-- of a `,`, the argument being the state's frames: outside any function the byte is lost
abbrev pub comma_loss : List Frame → ℕ
comma_loss [] = 1
comma_loss (f ∷ fs) = 0

-- of a `)`, the first argument being the state's frames: outside any function the byte is lost, and
-- else a function is performed
abbrev pub closing_loss : List Frame → State → ℕ
closing_loss [] s = 1
closing_loss (f ∷ fs) s = call_loss (f.arguments ++ f.gathered ∷ []) (storage_of s)

abbrev pub loss_at : Front → State → ℕ
-- the base text and the arguments, one for each frame, and one for each finished argument
loss_at front.Nothing s = length s.base + argument_bytes s.frames + marks s.frames
loss_at front.Opening s = 0
loss_at front.Layout s = 1
loss_at front.Comma s = comma_loss s.frames
loss_at front.ActiveCall s = 0
loss_at front.NeutralCall s = 0
loss_at front.Sharp s = 0
loss_at front.Closing s = closing_loss s.frames s
loss_at front.Plain s = 0

-- what the step from a state may cost the journal
abbrev pub loss : State → ℕ
loss s = loss_at (front_of s.active) s

-- what the steps from these states may lose
abbrev pub losses_from : List State → ℕ
losses_from [] = 0
losses_from (s ∷ states) = loss s + losses_from states
