-- Blocks: forms that are put aside together under a number, of which copies are brought back. The first block has
-- number 0; no call takes a block off the list, it is only erased, so no number is used again. All that is said
-- here is this project's profile.
use Rattle.std.specs.Prelude.{◌≡◌, ◌<◌, ◌≤◌, ◌⊎◌, ℕ, ◌+◌, ◌&&◌, nat_le, List, [], ◌∷◌, ◌++◌, length, drop, get_or}
use Rattle.std.specs.Prelude.{slice_set, if◌then◌else◌, Bool, Option, None, Some, is_some, Result, Ok, Err, decimal}
use Rattle.std.specs.FinMap as map
use Rattle.std.specs.Option.{option_and_then}
use Rattle.std.specs.Str.{bytes_eq}
use Rattle.trac_rules.specs.declared.limit.TheConstants.{BLOCK_LIMIT, FORM_COUNT_LIMIT}
use Rattle.trac_rules.specs.declared.primitive.BlockAction.{BlockAction}
use Rattle.trac_rules.specs.declared.primitive.BlockAction.TheVariants.{StoreBlock, FetchBlock, EraseBlock}
use Rattle.trac_rules.specs.declared.refusal.Refusal.{Refusal}
use Rattle.trac_rules.specs.declared.refusal.Refusal.TheVariants.{TooLong}
use Rattle.trac_rules.specs.Bytes.{first_place}
use Rattle.trac_rules.specs.Form.{Form, all_items, defined}
use Rattle.trac_rules.specs.Handling.{keeping, named_form, putting, without}
use Rattle.trac_rules.specs.Pieces.{bytes_in}
use Rattle.trac_rules.specs.State.{Block, Forms, Held, Storage}
use Rattle.trac_rules.specs.Effect.{Effect, argument, leaves}

-- ---- `sb`

-- a form, if there is one, with its name
abbrev pub with_name : List ℕ → Option Form → Held
with_name name None = []
with_name name (Some form) = (name, form) ∷ []

-- the forms of these names, with their names, as they are taken out of the forms one after another. A name without a
-- form is passed over; so is a name that is given again, since its form has gone
abbrev pub moved_out : List (List ℕ) → Forms → Held
moved_out [] forms = []
moved_out (name ∷ names) forms = with_name name (map.get forms name) ++ moved_out names (map.remove forms name)

-- the storage when the forms of these names have gone into a new block, perhaps of no forms, at the end of the blocks
abbrev pub put_aside : List (List ℕ) → Storage → Storage
put_aside names storage =
    record { forms = without names storage.forms; blocks = storage.blocks ++ Some (moved_out names storage.forms) ∷ [] }

-- whether a new block of these forms is within the limits: its forms are counted, and all blocks, erased ones too. In a
-- proper state there are no more forms than a block may hold, so there the number of blocks decides
abbrev pub block_fits : Held → List Block → Bool
block_fits held blocks = nat_le (length held) FORM_COUNT_LIMIT && nat_le (length blocks + 1) BLOCK_LIMIT

-- these forms are put aside; then the form of this name becomes the number of their block, in place of an earlier one
-- if that is still there, unless a limit would be passed
abbrev pub storing : List ℕ → List (List ℕ) → Storage → Result Effect Refusal
storing name names storage =
    if block_fits (moved_out names storage.forms) storage.blocks
    then putting name (defined (decimal (length storage.blocks))) (put_aside names storage)
    else Err TooLong

-- ---- the block of a form

-- the block of this number; past the last one it is as if erased
abbrev pub block_at : ℕ → List Block → Block
block_at number blocks = get_or blocks number None

-- whether a form is the address of the block of this number: the block is not erased, and its number in decimal is just
-- the bytes of the form, on both sides of the pointer, its gaps left out
abbrev pub is_address : Form → List Block → ℕ → Bool
is_address form blocks number =
    is_some (block_at number blocks) && bytes_eq (decimal number) (bytes_in (all_items form))

-- the number of the block whose address a form is, if there is one; no form is the address of two
-- (the law `one_block_is_addressed`)
abbrev pub number_addressed : Form → List Block → Option ℕ
number_addressed form blocks = first_place (is_address form blocks) (length blocks)

-- the number of the block whose address is the form that the first argument after the name names, if there is one
abbrev pub named_block_number : List (List ℕ) → Storage → Option ℕ
named_block_number arguments storage =
    option_and_then (λ form. number_addressed form storage.blocks) (named_form arguments storage)

-- each block of a list stands in another at its number, as it was or erased; there may be others after them
pub record AreKept (old new : List Block) : Type 0 where
  pub count : length old ≤ length new
  pub each : (number : ℕ) → number < length old →
      (block_at number new ≡ block_at number old) ⊎ (block_at number new ≡ None)

-- ---- `fb`

-- what a block holds; nothing if it is erased
abbrev pub forms_in : Block → Held
forms_in None = []
forms_in (Some held) = held

-- forms put among others in their order, each in place of an earlier one of its name
abbrev pub with_all : Held → Forms → Forms
with_all [] forms = forms
with_all (entry ∷ held) forms = with_all held (map.insert forms entry.0 entry.1)

-- the forms, with copies of those of the block of this number put among them
abbrev pub fetched : ℕ → Storage → Forms
fetched number storage = with_all (forms_in (block_at number storage.blocks)) storage.forms

-- these are the forms then, unless there would be too many; the blocks stay as they are
abbrev pub fetching : ℕ → Storage → Result Effect Refusal
fetching number storage = if nat_le (map.len (fetched number storage)) FORM_COUNT_LIMIT
    then Ok (leaves (keeping (fetched number storage) storage)) else Err TooLong

-- ---- `eb`

-- the block of this number is erased, and the form of this name deleted; another form that is the
-- address of that block stays
abbrev pub erased : ℕ → List ℕ → Storage → Storage
erased number name storage =
    record { forms = map.remove storage.forms name; blocks = slice_set storage.blocks number None }

-- ---- calls

-- a block, if there is one, acted upon by its number; if there is none, the value is empty and nothing changes
abbrev pub on_block : Option ℕ → (ℕ → Result Effect Refusal) → Storage → Result Effect Refusal
on_block None act storage = Ok (leaves storage)
on_block (Some number) act storage = act number

-- argument 0 is the primitive's own name, argument 1 the name of the form that is or becomes the address; a missing one
-- is the empty name. After it `sb` takes the names that the call gives, and no others
abbrev pub block_handled : BlockAction → List (List ℕ) → Storage → Result Effect Refusal
block_handled StoreBlock arguments storage = storing (argument 1 arguments) (drop 2 arguments) storage
block_handled FetchBlock arguments storage =
    on_block (named_block_number arguments storage) (λ number. fetching number storage) storage
block_handled EraseBlock arguments storage = on_block (named_block_number arguments storage)
    (λ number. Ok (leaves (erased number (argument 1 arguments) storage))) storage
