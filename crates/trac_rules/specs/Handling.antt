-- What the primitives do with forms. What they do without a form, and which names `dd` deletes, is this project's
-- profile.
use Rattle.std.specs.Prelude.{ℕ, List, [], ◌∷◌, drop, if◌then◌else◌, Option, None, Some, Result, Ok, Err}
use Rattle.std.specs.FinMap as map
use Rattle.trac_rules.specs.declared.primitive.FormAction.{FormAction}
use Rattle.trac_rules.specs.declared.primitive.FormAction.TheVariants.{Define, Delete, DeleteAll, Segment, Restore}
use Rattle.trac_rules.specs.declared.primitive.FormAction.TheVariants.{Call, Read, ListNames, PrintForm}
use Rattle.trac_rules.specs.declared.primitive.FormReading.{FormReading}
use Rattle.trac_rules.specs.declared.primitive.FormReading.TheVariants.{ReadSegment, ReadChar, ReadCount, ReadUntil}
use Rattle.trac_rules.specs.declared.refusal.Refusal.{Refusal}
use Rattle.trac_rules.specs.declared.refusal.Refusal.TheVariants.{TooLong}
use Rattle.trac_rules.specs.declared.width.Width.{Width}
use Rattle.trac_rules.specs.Filling.{called}
use Rattle.trac_rules.specs.Form.{Form, all_items, defined, pointed_at}
use Rattle.trac_rules.specs.Limits.{may_be_put}
use Rattle.trac_rules.specs.Computing.{number_argument}
use Rattle.trac_rules.specs.Listing.{listed}
use Rattle.trac_rules.specs.Pieces.{Piece, char_read, fitting_count_read, segment_read, until_read}
use Rattle.trac_rules.specs.Segmenting.{segmented}
use Rattle.trac_rules.specs.Showing.{shown}
use Rattle.trac_rules.specs.State.{Forms, Storage}
use Rattle.trac_rules.specs.Effect.{Effect, argument, forces, gives, leaves, prints}

-- storage with these forms
abbrev pub keeping : Forms → Storage → Storage
keeping forms storage = record storage { forms = forms }

-- a form put under a name, in place of an earlier one, if there is one, unless a limit on forms would be passed
abbrev pub putting : List ℕ → Form → Storage → Result Effect Refusal
putting name form storage = if may_be_put name form storage.forms
    then Ok (leaves (keeping (map.insert storage.forms name form) storage)) else Err TooLong

-- the forms without those of these names; names without a form are passed over
abbrev pub without : List (List ℕ) → Forms → Forms
without [] forms = forms
without (name ∷ names) forms = without names (map.remove forms name)

-- a form, if there is one, acted upon; if there is none, the value is empty and nothing changes
abbrev pub on_form : Option Form → (Form → Result Effect Refusal) → Storage → Result Effect Refusal
on_form None act storage = Ok (leaves storage)
on_form (Some form) act storage = act form

-- the storage with this form under its name, its pointer at a place; its items stay, so no limit is looked at
abbrev pub pointing : List ℕ → ℕ → Form → Storage → Storage
pointing name place form storage = keeping (map.insert storage.forms name (pointed_at place (all_items form))) storage

-- the form that the first argument after the name names, if there is one
abbrev pub named_form : List (List ℕ) → Storage → Option Form
named_form arguments storage = map.get storage.forms (argument 1 arguments)

-- what is read of a form at its pointer, none in the case of the default argument: argument 2 is the number of `cn`, of
-- this width, and the text of `in`
abbrev pub piece_read : FormReading → Width → List (List ℕ) → Form → Option Piece
piece_read ReadSegment width arguments form = segment_read form
piece_read ReadChar width arguments form = char_read form
piece_read ReadCount width arguments form = fitting_count_read (number_argument width 2 arguments) form
piece_read ReadUntil width arguments form = until_read (argument 2 arguments) form

-- the default argument: argument 2, or argument 3 if argument 2 is a number or a text
abbrev pub default_argument : FormReading → List (List ℕ) → List ℕ
default_argument ReadSegment arguments = argument 2 arguments
default_argument ReadChar arguments = argument 2 arguments
default_argument ReadCount arguments = argument 3 arguments
default_argument ReadUntil arguments = argument 3 arguments

-- a piece given, and the pointer of the form of this name at its place. If there is no piece, the default argument
-- is given and forced, and the pointer is unmoved
abbrev pub gives_piece : Option Piece → List ℕ → List ℕ → Form → Storage → Effect
gives_piece (Some piece) other name form storage = gives piece.value (pointing name piece.place form storage)
gives_piece None other name form storage = forces other storage

-- what reading a form at its pointer does with these arguments
abbrev pub form_read : FormReading → Width → List (List ℕ) → Form → Storage → Effect
form_read reading width arguments form storage = gives_piece (piece_read reading width arguments form)
    (default_argument reading arguments) (argument 1 arguments) form storage

-- argument 0 is the primitive's own name. `ln` is given a text, `dd` names, and the others but `da` the name of a form,
-- then texts. A missing argument is empty; but `dd` deletes only the names that the call gives
abbrev pub handled : FormAction → Width → List (List ℕ) → Storage → Result Effect Refusal
handled Define width arguments storage = putting (argument 1 arguments) (defined (argument 2 arguments)) storage
handled Delete width arguments storage = Ok (leaves (keeping (without (drop 1 arguments) storage.forms) storage))
handled DeleteAll width arguments storage = Ok (leaves (keeping map.empty storage))
handled Segment width arguments storage = on_form (named_form arguments storage)
    (λ form. putting (argument 1 arguments) (segmented (drop 2 arguments) form) storage) storage
handled Restore width arguments storage = on_form (named_form arguments storage)
    (λ form. Ok (leaves (pointing (argument 1 arguments) 0 form storage))) storage
handled Call width arguments storage =
    on_form (named_form arguments storage) (λ form. Ok (gives (called (drop 2 arguments) form) storage)) storage
handled (Read reading) width arguments storage =
    on_form (named_form arguments storage) (λ form. Ok (form_read reading width arguments form storage)) storage
handled ListNames width arguments storage = Ok (gives (listed (argument 1 arguments) storage.forms) storage)
handled PrintForm width arguments storage =
    on_form (named_form arguments storage) (λ form. Ok (prints (shown form) storage)) storage
