-- What a call destroys of forms and blocks, and how they are got back from that and what stands there afterwards.
-- Nothing is kept that still stands there: of a form whose pointer moved the old pointer is kept, of one that was
-- segmented which of its gaps are new, and of forms that went into a block nothing.
use Rattle.std.specs.Prelude.{ℕ, ◌-◌, ◌&&◌, not, nat_le, nat_lt, List, length, map, take, drop, slice_set, Bool, Option}
use Rattle.std.specs.Prelude.{None, Some, is_some, option_and_then}
use Rattle.std.specs.Bool.{then_some}
use Rattle.std.specs.FinMap as finite
use Rattle.std.specs.List.{list_all}
use Rattle.trac_rules.specs.declared.item.CutGap.{CutGap}
use Rattle.trac_rules.specs.declared.item.Item.{Item}
use Rattle.trac_rules.specs.declared.primitive.BlockAction.{BlockAction}
use Rattle.trac_rules.specs.declared.primitive.BlockAction.TheVariants.{StoreBlock, FetchBlock, EraseBlock}
use Rattle.trac_rules.specs.declared.primitive.FormAction.{FormAction}
use Rattle.trac_rules.specs.declared.primitive.FormAction.TheVariants as action
use Rattle.trac_rules.specs.declared.primitive.Primitive.{Primitive}
use Rattle.trac_rules.specs.declared.primitive.Primitive.TheVariants.{Handle, HandleBlock}
use Rattle.trac_rules.specs.Blocks.{block_at, forms_in, moved_out, named_block_number, with_all}
use Rattle.trac_rules.specs.Cuts.{cut_of, joined}
use Rattle.trac_rules.specs.Effect.{argument}
use Rattle.trac_rules.specs.Form.{Form, all_items, pointed_at}
use Rattle.trac_rules.specs.Handling.{keeping, named_form, without}
use Rattle.trac_rules.specs.Performing.{primitive_of}
use Rattle.trac_rules.specs.State.{Block, Forms, Held, Storage}

pub data Undone : Type 0 where
  -- nothing of forms and blocks was destroyed
  Nothing : Undone
  -- a form was restored or read, whose pointer stood at this place
  Point : ℕ → Undone
  -- these gaps were made in a form, whose pointer stood at this place
  Join : List CutGap → ℕ → Undone
  -- a form was defined in place of this one, if there was one
  Swap : Option Form → Undone
  -- these forms were deleted
  Restore : Held → Undone
  -- forms went into a new block, and its number became a form in place of this one, if there was
  -- one that did not go there
  MoveOut : Option Form → Undone
  -- copies of the forms of the block of this number were put among the forms, in place of these
  Unbring : ℕ → Held → Undone
  -- the block of this number was erased, which held these forms, and this form deleted, which was its address
  Unerase : ℕ → Held → Form → Undone

-- ---- what a call destroys

-- the old pointer of a form, if there is one
abbrev pub pointer_lost : Option Form → Undone
pointer_lost None = Nothing
pointer_lost (Some form) = Point (length form.before)

-- the gaps that segmenting with these texts makes in a form, and its old pointer, if there is one
abbrev pub bytes_lost : List (List ℕ) → Option Form → Undone
bytes_lost texts None = Nothing
bytes_lost texts (Some form) = Join (cut_of texts form) (length form.before)

-- the replaced form, the deleted ones, or the old pointer, whether it moves or not; calling,
-- listing and printing destroy nothing
abbrev pub handling_lost : FormAction → List (List ℕ) → Storage → Undone
handling_lost action.Define arguments storage = Swap (named_form arguments storage)
handling_lost action.Delete arguments storage = Restore (moved_out (drop 1 arguments) storage.forms)
handling_lost action.DeleteAll arguments storage = Restore (finite.entries storage.forms)
handling_lost action.Segment arguments storage = bytes_lost (drop 2 arguments) (named_form arguments storage)
handling_lost action.Restore arguments storage = pointer_lost (named_form arguments storage)
handling_lost (action.Read reading) arguments storage = pointer_lost (named_form arguments storage)
handling_lost other arguments storage = Nothing

-- the names of forms that are held
abbrev pub names_in : Held → List (List ℕ)
names_in held = map (λ entry. entry.0) held

-- the forms that copies of those of the block of this number replace, if there is such a block
abbrev pub replaced_lost : Option ℕ → Storage → Undone
replaced_lost None storage = Nothing
replaced_lost (Some number) storage =
    Unbring number (moved_out (names_in (forms_in (block_at number storage.blocks))) storage.forms)

-- what the block of this number holds, and the form that is its address, if there is such a block
abbrev pub block_lost : Option ℕ → Option Form → List Block → Undone
block_lost (Some number) (Some address) blocks = Unerase number (forms_in (block_at number blocks)) address
block_lost number address blocks = Nothing

-- the form that the address of a new block replaces, unless it goes into that block itself; or what the
-- block's copies replace; or the block
abbrev pub block_handling_lost : BlockAction → List (List ℕ) → Storage → Undone
block_handling_lost StoreBlock arguments storage =
    MoveOut (finite.get (without (drop 2 arguments) storage.forms) (argument 1 arguments))
block_handling_lost FetchBlock arguments storage = replaced_lost (named_block_number arguments storage) storage
block_handling_lost EraseBlock arguments storage =
    block_lost (named_block_number arguments storage) (named_form arguments storage) storage.blocks

-- what a primitive with these arguments destroys of forms and blocks
abbrev pub undone_by : Primitive → List (List ℕ) → Storage → Undone
undone_by (Handle action) arguments storage = handling_lost action arguments storage
undone_by (HandleBlock action) arguments storage = block_handling_lost action arguments storage
undone_by primitive arguments storage = Nothing

-- ---- what stands where

-- whether no form stands under a name
abbrev pub is_free : List ℕ → Forms → Bool
is_free name forms = not (is_some (finite.get forms name))

-- whether no form stands under any of these names
abbrev pub are_free : List (List ℕ) → Forms → Bool
are_free names forms = list_all (λ name. is_free name forms) names

-- whether no form stands that a call of this primitive with these arguments deletes. That is none at all if it deletes
-- all forms, or else none under the names that it is given
abbrev pub are_deleted : Primitive → List (List ℕ) → Forms → Bool
are_deleted (Handle action.DeleteAll) arguments forms = nat_le (finite.len forms) 0
are_deleted primitive arguments forms = are_free (drop 1 arguments) forms

-- whether a form stands under each of these names
abbrev pub are_there : List (List ℕ) → Forms → Bool
are_there names forms = list_all (λ name. is_some (finite.get forms name)) names

-- ---- how forms and blocks are got back

-- forms with this one under a name again, or with none under it
abbrev pub swapped_back : List ℕ → Option Form → Forms → Forms
swapped_back name None forms = finite.remove forms name
swapped_back name (Some form) forms = finite.insert forms name form

-- under a name the form of these items with its pointer at a place; none if it has fewer items
abbrev pub pointed_back : List ℕ → ℕ → List Item → Storage → Option Storage
pointed_back name place items storage = then_some (nat_le place (length items))
    (keeping (finite.insert storage.forms name (pointed_at place items)) storage)

-- the pointer of a form, if there is one, at a place
abbrev pub pointer_back : List ℕ → ℕ → Option Form → Storage → Option Storage
pointer_back name place found storage = option_and_then (λ form. pointed_back name place (all_items form) storage) found

-- the gaps of a cut filled with their texts in a form, if there is one, and its pointer at a place
abbrev pub joined_back : List (List ℕ) → List CutGap → List ℕ → ℕ → Option Form → Storage → Option Storage
joined_back texts cut name place found storage = option_and_then
    (λ form. option_and_then (λ items. pointed_back name place items storage) (joined texts cut (all_items form))) found

-- the form under a name is gone again, or this one is there in its place; none if no form stands under that name
abbrev pub undefined : List ℕ → Option Form → Storage → Option Storage
undefined name old storage =
    then_some (is_some (finite.get storage.forms name)) (keeping (swapped_back name old storage.forms) storage)

-- these forms are put among the others, after a call of these arguments deleted them. None if a form stands that such a
-- call deletes, or one under the name of one of these forms
abbrev pub undeleted : List (List ℕ) → Held → Storage → Option Storage
undeleted arguments held storage = then_some (are_deleted (primitive_of (argument 0 arguments)) arguments storage.forms
    && are_free (names_in held) storage.forms) (keeping (with_all held storage.forms) storage)

-- the last block; if there are none, it is as if erased
abbrev pub last_block : List Block → Block
last_block blocks = block_at (length blocks - 1) blocks

-- the last block is off the list, and the form under a name is gone or an old one is there in its place. Then what the
-- block held is put among the forms, after these names were given for the block. None if the last block is erased, or
-- if no form stands under that name. None also if a form stands already under one of those names, or under the name of
-- one that the block held
abbrev pub moved_out_again : List ℕ → List (List ℕ) → Option Form → Storage → Option Storage
moved_out_again name names old storage = let left : Forms = swapped_back name old storage.forms in
    option_and_then (λ held. then_some
    (is_some (finite.get storage.forms name) && (are_free names left && are_free (names_in held) left)) (record {
      forms = with_all held left;
      blocks = take (length storage.blocks - 1) storage.blocks;
    })) (last_block storage.blocks)

-- the forms of the names in the block of this number are gone, and these ones put among the forms, in whose places they
-- were. None if that block is erased, or if no form stands under the name of one that it holds or of one of these. None
-- also if a form stands under such a name that the block does not hold
abbrev pub unbrought : ℕ → Held → Storage → Option Storage
unbrought number replaced storage = option_and_then (λ held. let left : Forms = without (names_in held) storage.forms in
    then_some (are_there (names_in held) storage.forms && (are_there (names_in replaced) storage.forms
    && are_free (names_in replaced) left)) (keeping (with_all replaced left) storage)) (block_at number storage.blocks)

-- whether there was a block of this number and it is erased
abbrev pub is_erased : ℕ → List Block → Bool
is_erased number blocks = nat_lt number (length blocks) && not (is_some (block_at number blocks))

-- the erased block of this number holds these forms again, and this form is under a name. None if the block is not an
-- erased one, or if a form stands under that name
abbrev pub unerased : ℕ → Held → List ℕ → Form → Storage → Option Storage
unerased number held name address storage =
    then_some (is_erased number storage.blocks && is_free name storage.forms)
    (record { forms = finite.insert storage.forms name address; blocks = slice_set storage.blocks number (Some held) })

-- forms and blocks before a call of these arguments, from what it destroyed and those after it. None if these do not
-- show what is named
abbrev pub storage_before : List (List ℕ) → Undone → Storage → Option Storage
storage_before arguments Nothing storage = Some storage
storage_before arguments (Point place) storage =
    pointer_back (argument 1 arguments) place (named_form arguments storage) storage
storage_before arguments (Join cut place) storage =
    joined_back (drop 2 arguments) cut (argument 1 arguments) place (named_form arguments storage) storage
storage_before arguments (Swap old) storage = undefined (argument 1 arguments) old storage
storage_before arguments (Restore held) storage = undeleted arguments held storage
storage_before arguments (MoveOut old) storage = moved_out_again (argument 1 arguments) (drop 2 arguments) old storage
storage_before arguments (Unbring number replaced) storage = unbrought number replaced storage
storage_before arguments (Unerase number held address) storage =
    unerased number held (argument 1 arguments) address storage
