-- Where bytes come from when a function is performed: its value, what is printed, and what is put into forms and
-- blocks. One line for each primitive.
use Rattle.std.specs.Prelude.{ℕ, zero, suc, ◌==◌, min, List, [], ◌∷◌, ◌++◌, length, take, drop, get_or, if◌then◌else◌}
use Rattle.std.specs.Prelude.{Bool, true, false, Option, None, Some, is_some, codes, decimal}
use Rattle.std.specs.List.{flat_map}
use Rattle.std.specs.Str.{bytes_eq}
use Rattle.trac_rules.specs.declared.item.Item.{Item}
use Rattle.trac_rules.specs.declared.item.Item.TheVariants.{Byte, Gap}
use Rattle.trac_rules.specs.declared.kind.Kind.{Kind}
use Rattle.trac_rules.specs.declared.kind.Kind.TheVariants.{Active, Neutral}
use Rattle.trac_rules.specs.declared.primitive.BlockAction.{BlockAction}
use Rattle.trac_rules.specs.declared.primitive.BlockAction.TheVariants.{StoreBlock, FetchBlock, EraseBlock}
use Rattle.trac_rules.specs.declared.primitive.Computation.{Computation}
use Rattle.trac_rules.specs.declared.primitive.Computation.TheVariants.{Equal, Greater, Calculate}
use Rattle.trac_rules.specs.declared.primitive.FormAction.{FormAction}
use Rattle.trac_rules.specs.declared.primitive.FormAction.TheVariants as action
use Rattle.trac_rules.specs.declared.primitive.FormReading.{FormReading}
use Rattle.trac_rules.specs.declared.primitive.FormReading.TheVariants.{ReadSegment, ReadChar, ReadCount, ReadUntil}
use Rattle.trac_rules.specs.declared.primitive.Primitive.{Primitive}
use Rattle.trac_rules.specs.declared.primitive.Primitive.TheVariants.{PrintString, ReadString, ReadByte, Compute}
use Rattle.trac_rules.specs.declared.primitive.Primitive.TheVariants.{Handle, HandleBlock}
use Rattle.trac_rules.specs.Blocks.{block_at, named_block_number}
use Rattle.trac_rules.specs.Cuts.{begins_with_gap}
use Rattle.trac_rules.specs.Effect.{Effect, argument}
use Rattle.trac_rules.specs.Form.{Form, all_items}
use Rattle.trac_rules.specs.Handling.{named_form, piece_read}
use Rattle.trac_rules.specs.Listing.{names_of}
use Rattle.trac_rules.specs.Number.{is_greater, numeral_of, prefix_of}
use Rattle.trac_rules.specs.Performing.{primitive_of, trace_line}
use Rattle.trac_rules.specs.Pieces.{Piece}
use Rattle.trac_rules.specs.Scanning.{Call}
use Rattle.trac_rules.specs.Segmenting.{segmented}
use Rattle.trac_rules.specs.Showing.{shown_item}
use Rattle.trac_rules.specs.State.{Environment, Forms, storage_of}
use Rattle.trac_origins.specs.Places.{Origin, Made, held_form}
use Rattle.trac_origins.specs.Lists.{Origins, all_made, all_read}
use Rattle.trac_origins.specs.Moving.{EndedOrigins, gather_from}

-- a call that is performed
pub record Performed : Type 0 where
  pub environment : Environment
  -- with the state without the function
  pub call : Call
  -- what it does, the line of the trace printed first
  pub effect : Effect
  -- the origins of its arguments, and of that state
  pub from : EndedOrigins

-- an argument, its name being number 0; empty if it is missing
abbrev pub text_given : ℕ → Performed → List ℕ
text_given k d = argument k d.call.arguments

abbrev pub argument_from : ℕ → Performed → List Origin
argument_from k d = get_or d.from.arguments k []

-- the items of the form that argument 1 names
abbrev pub items_from : Performed → List Origin
items_from d = d.from.others.forms (text_given 1 d)

-- ---- what a call does with origins

pub record EffectOrigins : Type 0 where
  pub value : List Origin
  pub printed : List Origin
  -- of forms and blocks afterwards
  pub forms : List ℕ → List Origin
  pub blocks : ℕ → List ℕ → List Origin

-- an empty value, nothing printed, and forms and blocks as they were; of those that are deleted nothing need be said
abbrev pub leaves_from : Performed → EffectOrigins
leaves_from d = record { value = []; printed = []; forms = d.from.others.forms; blocks = d.from.others.blocks }

abbrev pub gives_from : List Origin → Performed → EffectOrigins
gives_from value d = record (leaves_from d) { value = value }

abbrev pub prints_from : List Origin → Performed → EffectOrigins
prints_from text d = record (leaves_from d) { printed = text }

-- forms with these items under a name
abbrev pub put_under : List ℕ → List Origin → (List ℕ → List Origin) → List ℕ → List Origin
put_under name items forms q = if bytes_eq q name then items else forms q

-- these items are put under the name that argument 1 is
abbrev pub puts_from : List Origin → Performed → EffectOrigins
puts_from items d = record (leaves_from d) { forms = put_under (text_given 1 d) items d.from.others.forms }

-- ---- values that are computed

-- a decision gives one of its arguments
abbrev pub chosen_from : Bool → Performed → List Origin
chosen_from true d = argument_from 3 d
chosen_from false d = argument_from 4 d

-- the prefix of argument 1, and then digits that are made
abbrev pub calculated_from : Performed → List Origin
calculated_from d =
    let n = length (prefix_of (text_given 1 d)) in
    take n (argument_from 1 d) ++ all_made (drop n d.effect.value)

-- a forced value is the default argument; bits are made
abbrev pub computed_from : Computation → Performed → List Origin
computed_from Equal d = chosen_from (bytes_eq (text_given 1 d) (text_given 2 d)) d
computed_from Greater d = chosen_from (is_greater (numeral_of (text_given 1 d)) (numeral_of (text_given 2 d))) d
computed_from (Calculate operation) d = if d.effect.forced then argument_from 3 d else calculated_from d
computed_from computation d = all_made d.effect.value

-- ---- forms

-- the bytes of items, from the origins of the items, and in place of a gap what it gives by its ordinal
abbrev pub spread : (ℕ → List Origin) → List Item → List Origin → List Origin
spread gap [] from = []
spread gap (Byte b ∷ items) from = take 1 from ++ spread gap items (drop 1 from)
spread gap (Gap ordinal width ∷ items) from = gap ordinal ++ spread gap items (drop 1 from)

-- the text of this number that `cl` fills a gap with, the first being number 1
abbrev pub text_from : Performed → ℕ → List Origin
text_from d zero = []
text_from d (suc k) = get_or (drop 2 d.from.arguments) k []

-- `cl`: bytes of the form, and of the texts in its gaps
abbrev pub called_from : Form → Performed → List Origin
called_from form d = spread (text_from d) form.after (drop (length form.before) (items_from d))

-- `ss`: the items `new`, which were the items `old`. A gap that was not there is made, and took the place
-- of as many bytes as it is wide
abbrev pub recut : List Item → List Item → List Origin → List Origin
recut [] old from = []
recut (Byte b ∷ new) old from = take 1 from ++ recut new (drop 1 old) (drop 1 from)
recut (Gap ordinal width ∷ new) old from =
    if begins_with_gap old
    then take 1 from ++ recut new (drop 1 old) (drop 1 from)
    else Made ∷ recut new (drop width old) (drop width from)

abbrev pub segmented_from : Form → Performed → List Origin
segmented_from form d = recut (all_items (segmented (drop 2 d.call.arguments) form)) (all_items form) (items_from d)

-- the default argument of a reading
abbrev pub default_from : FormReading → Performed → List Origin
default_from ReadSegment d = argument_from 2 d
default_from ReadChar d = argument_from 2 d
default_from ReadCount d = argument_from 3 d
default_from ReadUntil d = argument_from 3 d

-- a gap gives nothing
abbrev pub nothing_for : ℕ → List Origin
nothing_for ordinal = []

-- `cs`, `cc`, `cn` and `in`: so many bytes as the value has, from the old or the new pointer on, whichever stands
-- before the other; gaps are passed. If nothing is read, the second argument
abbrev pub piece_from : Option Piece → List Origin → Form → List Origin → List Origin
piece_from None other form from = other
piece_from (Some piece) other form from =
    let first = min (length form.before) piece.place in
    take (length piece.value) (spread nothing_for (drop first (all_items form)) (drop first from))

abbrev pub reading_from : FormReading → Form → Performed → List Origin
reading_from reading form d = piece_from (piece_read reading d.environment.width d.call.arguments form)
    (default_from reading d) form (items_from d)

-- `ln`: each name is made, and the text before it carried
abbrev pub listed_from : Forms → Performed → List Origin
listed_from forms d = flat_map (λ name. argument_from 1 d ++ all_made name) (names_of forms)

-- `pf`: the bytes are carried, and the marks of gaps and pointer made
abbrev pub mark_from : ℕ → List Origin
mark_from ordinal = all_made (shown_item (Gap ordinal 1))

abbrev pub shown_from : Form → List Origin → List Origin
shown_from form from =
    spread mark_from form.before (take (length form.before) from)
    ++ (all_made (codes "<^>") ++ spread mark_from form.after (drop (length form.before) from))

-- a form, if there is one, acted upon
abbrev pub on_form_from : Option Form → (Form → EffectOrigins) → Performed → EffectOrigins
on_form_from None act d = leaves_from d
on_form_from (Some form) act d = act form

-- `dd`, `da` and `cr` carry nothing
abbrev pub handled_from : FormAction → Performed → EffectOrigins
handled_from action.Define d = puts_from (argument_from 2 d) d
handled_from action.Segment d =
    on_form_from (named_form d.call.arguments (storage_of d.call.state)) (λ form. puts_from (segmented_from form d) d) d
handled_from action.Call d =
    on_form_from (named_form d.call.arguments (storage_of d.call.state)) (λ form. gives_from (called_from form d) d) d
handled_from (action.Read reading) d = on_form_from (named_form d.call.arguments (storage_of d.call.state))
    (λ form. gives_from (reading_from reading form d) d) d
handled_from action.ListNames d = gives_from (listed_from d.call.state.forms d) d
handled_from action.PrintForm d = on_form_from (named_form d.call.arguments (storage_of d.call.state))
    (λ form. prints_from (shown_from form (items_from d)) d) d
handled_from action d = leaves_from d

-- ---- blocks

-- `sb`: the new block, which has the number after the last, holds forms as they were; the form of its address is made
abbrev pub stored_from : Performed → EffectOrigins
stored_from d = let number = length d.call.state.blocks in record (puts_from (all_made (decimal number)) d) {
  blocks = λ k. if k == number then d.from.others.forms else d.from.others.blocks k;
}

-- `fb`: copies of the forms of this block
abbrev pub fetched_from : ℕ → Performed → EffectOrigins
fetched_from number d = record (leaves_from d) {
  forms = λ name. if is_some (held_form name (block_at number d.call.state.blocks))
      then d.from.others.blocks number name else d.from.others.forms name;
}

abbrev pub on_block_from : Option ℕ → (ℕ → EffectOrigins) → Performed → EffectOrigins
on_block_from None act d = leaves_from d
on_block_from (Some number) act d = act number

abbrev pub block_handled_from : BlockAction → Performed → EffectOrigins
block_handled_from StoreBlock d = stored_from d
block_handled_from FetchBlock d =
    on_block_from (named_block_number d.call.arguments (storage_of d.call.state)) (λ number. fetched_from number d) d
block_handled_from EraseBlock d = leaves_from d

-- ---- a call

-- `hl`, `cm`, `tn`, `tf` and unknown names carry nothing
abbrev pub effect_from : Primitive → Performed → EffectOrigins
effect_from PrintString d = prints_from (argument_from 1 d) d
effect_from ReadString d = gives_from (all_read d.call.state.position d.effect.value) d
effect_from ReadByte d = gives_from (all_read d.call.state.position d.effect.value) d
effect_from (Compute computation) d = gives_from (computed_from computation d) d
effect_from (Handle action) d = handled_from action d
effect_from (HandleBlock action) d = block_handled_from action d
effect_from primitive d = leaves_from d

-- the line of the trace is made
abbrev pub traced_from : List ℕ → EffectOrigins → EffectOrigins
traced_from line e = record e { printed = all_made line ++ e.printed }

abbrev pub performed_from : Performed → EffectOrigins
performed_from d = traced_from (trace_line d.call.state.trace d.call.kind d.call.arguments)
    (effect_from (primitive_of (text_given 0 d)) d)

-- where the value goes
abbrev pub placed_from : Kind → Bool → List Origin → Origins → Origins
placed_from Active forced value o = record o { active = value ++ o.active }
placed_from Neutral true value o = record o { active = value ++ o.active }
placed_from Neutral false value o = gather_from o.frames value o

abbrev pub changed_from : EffectOrigins → Origins → Origins
changed_from e o = record o { forms = e.forms; blocks = e.blocks; output = o.output ++ e.printed }

abbrev pub after_call_from : Performed → Origins
after_call_from d =
    placed_from d.call.kind d.effect.forced (performed_from d).value (changed_from (performed_from d) d.from.others)
