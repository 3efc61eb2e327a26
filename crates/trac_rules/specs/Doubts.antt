-- Doubts: what the next step would do that a person is unlikely to have meant. All that is said here is this project's
-- profile, and changes nothing of the language: a doubtful step is a step like any other.
use Rattle.std.specs.Prelude.{ℕ, ◌+◌, ◌==◌, ◌&&◌, ◌||◌, not, nat_lt, nat_le, max, is_some, List, [], ◌∷◌, ◌++◌, length}
use Rattle.std.specs.Prelude.{map, drop, Bool, true, false, Option, None, Some, option_map}
use Rattle.std.specs.FinMap as map
use Rattle.std.specs.List.{filter, list_any}
use Rattle.std.specs.Option.{is_none}
use Rattle.trac_rules.specs.declared.doubt.Doubt.{Doubt}
use Rattle.trac_rules.specs.declared.doubt.Doubt.TheVariants.{NoPrimitive, FormUncalled, NoForm, NoBlock, Unused}
use Rattle.trac_rules.specs.declared.doubt.Doubt.TheVariants.{NoNumber, NoResult, Nowhere, Unended, Unclosed}
use Rattle.trac_rules.specs.declared.doubt.Doubt.TheVariants.{EndsNothing}
use Rattle.trac_rules.specs.declared.item.Item.{Item}
use Rattle.trac_rules.specs.declared.item.Item.TheVariants.{Byte, Gap}
use Rattle.trac_rules.specs.declared.primitive.BlockAction.TheVariants.{StoreBlock, FetchBlock, EraseBlock}
use Rattle.trac_rules.specs.declared.primitive.Computation.TheVariants.{Equal, Greater, Calculate, Union, Meet}
use Rattle.trac_rules.specs.declared.primitive.Computation.TheVariants.{Complement, Shift, Rotate}
use Rattle.trac_rules.specs.declared.primitive.FormAction.TheVariants.{Define, Delete, DeleteAll, Segment, Restore}
use Rattle.trac_rules.specs.declared.primitive.FormAction.TheVariants.{Call, Read, ListNames, PrintForm}
use Rattle.trac_rules.specs.declared.primitive.FormReading.TheVariants.{ReadSegment, ReadChar, ReadCount, ReadUntil}
use Rattle.trac_rules.specs.declared.primitive.Primitive.{Primitive}
use Rattle.trac_rules.specs.declared.primitive.Primitive.TheVariants.{PrintString, ReadString, ReadByte, Halt, SetMeta}
use Rattle.trac_rules.specs.declared.primitive.Primitive.TheVariants.{SetTrace, Compute, Handle, HandleBlock, Unknown}
use Rattle.trac_rules.specs.declared.scan.Front.{Front}
use Rattle.trac_rules.specs.declared.scan.Front.TheVariants.{Nothing, Opening, Closing}
use Rattle.trac_rules.specs.declared.width.Width.{Width}
use Rattle.trac_rules.specs.Blocks.{named_block_number}
use Rattle.trac_rules.specs.Computing.{result_of}
use Rattle.trac_rules.specs.Effect.{argument}
use Rattle.trac_rules.specs.Form.{Form, all_items}
use Rattle.trac_rules.specs.Goals.{next_call}
use Rattle.trac_rules.specs.Handling.{named_form}
use Rattle.trac_rules.specs.Matching.{match_of}
use Rattle.trac_rules.specs.Number.{calculated, numeral_of}
use Rattle.trac_rules.specs.Performing.{primitive_of}
use Rattle.trac_rules.specs.Scanning.{front_of}
use Rattle.trac_rules.specs.Segmenting.{Runs, leftmost, runs_of}
use Rattle.trac_rules.specs.Session.{Goal}
use Rattle.trac_rules.specs.State.{State, Storage, storage_of}

-- a doubt, if it is one
abbrev pub said : Bool → Doubt → List Doubt
said true doubt = doubt ∷ []
said false doubt = []

abbrev pub is_null : List ℕ → Bool
is_null text = length text == 0

-- ---- the name

-- of a name that is no primitive's, by the form of that name
abbrev pub unknown_name : Option Form → Doubt
unknown_name None = NoPrimitive
unknown_name (Some form) = FormUncalled

-- of what a name stands for, by the form of that name
abbrev pub name_doubts : Primitive → Option Form → List Doubt
name_doubts Unknown form = unknown_name form ∷ []
name_doubts primitive form = []

-- ---- the form and the block that argument 1 names

abbrev pub needs_form : Primitive → Bool
needs_form (Handle Segment) = true
needs_form (Handle Restore) = true
needs_form (Handle Call) = true
needs_form (Handle (Read reading)) = true
needs_form (Handle PrintForm) = true
needs_form (HandleBlock FetchBlock) = true
needs_form (HandleBlock EraseBlock) = true
needs_form primitive = false

abbrev pub needs_block : Primitive → Bool
needs_block (HandleBlock FetchBlock) = true
needs_block (HandleBlock EraseBlock) = true
needs_block primitive = false

abbrev pub form_doubts : Primitive → Option Form → List Doubt
form_doubts primitive form = said (needs_form primitive && is_none form) NoForm

-- the number is that of the form's block, if there is one
abbrev pub block_doubts : Primitive → Option Form → Option ℕ → List Doubt
block_doubts primitive form number = said (needs_block primitive && is_some form && is_none number) NoBlock

-- ---- arguments that nothing uses

-- a byte has none
abbrev pub ordinal_of : Item → ℕ
ordinal_of (Byte b) = 0
ordinal_of (Gap ordinal width) = ordinal

-- the highest ordinal of the gaps among items; 0 without a gap
abbrev pub highest_ordinal : List Item → ℕ
highest_ordinal [] = 0
highest_ordinal (item ∷ items) = max (ordinal_of item) (highest_ordinal items)

-- how many arguments after its name a primitive uses at most, by the form that argument 1 names;
-- none: all that there are
abbrev pub arguments_used : Primitive → Option Form → Option ℕ
arguments_used PrintString form = Some 1
arguments_used ReadString form = Some 0
arguments_used ReadByte form = Some 0
arguments_used Halt form = Some 0
arguments_used SetMeta form = Some 1
arguments_used (SetTrace trace) form = Some 0
arguments_used (Compute Equal) form = Some 4
arguments_used (Compute Greater) form = Some 4
arguments_used (Compute (Calculate operation)) form = Some 3
arguments_used (Compute Union) form = Some 2
arguments_used (Compute Meet) form = Some 2
arguments_used (Compute Complement) form = Some 1
arguments_used (Compute Shift) form = Some 2
arguments_used (Compute Rotate) form = Some 2
arguments_used (Handle Define) form = Some 2
arguments_used (Handle Delete) form = None
arguments_used (Handle DeleteAll) form = Some 0
arguments_used (Handle Segment) form = None
arguments_used (Handle Restore) form = Some 1
-- the name of the form, and a text for each of its gaps
arguments_used (Handle Call) form = option_map (λ f. 1 + highest_ordinal (all_items f)) form
arguments_used (Handle (Read ReadSegment)) form = Some 2
arguments_used (Handle (Read ReadChar)) form = Some 2
arguments_used (Handle (Read ReadCount)) form = Some 3
arguments_used (Handle (Read ReadUntil)) form = Some 3
arguments_used (Handle ListNames) form = Some 1
arguments_used (Handle PrintForm) form = Some 1
arguments_used (HandleBlock StoreBlock) form = None
arguments_used (HandleBlock FetchBlock) form = Some 1
arguments_used (HandleBlock EraseBlock) form = Some 1
arguments_used Unknown form = None

-- the first argument that nothing uses, if the call gives one: so many are used, and there are so many with the name
abbrev pub unused_doubts : Option ℕ → ℕ → List Doubt
unused_doubts None count = []
unused_doubts (Some used) count = said (nat_lt (used + 1) count) (Unused (used + 1))

-- ---- numbers

-- which arguments count as decimals
abbrev pub numbers_read : Primitive → List ℕ
numbers_read (Compute Greater) = 1 ∷ 2 ∷ []
numbers_read (Compute (Calculate operation)) = 1 ∷ 2 ∷ []
numbers_read (Compute Shift) = 1 ∷ []
numbers_read (Compute Rotate) = 1 ∷ []
numbers_read (Handle (Read ReadCount)) = 2 ∷ []
numbers_read primitive = []

-- whether a text is not null, and has no numeral at its end
abbrev pub has_no_number : List ℕ → Bool
has_no_number text = not (is_null text) && is_null (numeral_of text)

abbrev pub number_doubts : Primitive → List (List ℕ) → List Doubt
number_doubts primitive arguments =
    map NoNumber (filter (λ k. has_no_number (argument k arguments)) (numbers_read primitive))

-- whether these arguments of an operation give no result, and none in its place
abbrev pub lacks_result : Primitive → Width → List (List ℕ) → Bool
lacks_result (Compute (Calculate operation)) width arguments =
    is_none (calculated (result_of operation) width (argument 1 arguments) (argument 2 arguments))
    && nat_le (length arguments) 3
lacks_result primitive width arguments = false

abbrev pub result_doubts : Primitive → Width → List (List ℕ) → List Doubt
result_doubts primitive width arguments = said (lacks_result primitive width arguments) NoResult

-- ---- texts that `ss` does not find

-- whether a text stands in one of these runs
abbrev pub stands_in : List ℕ → Runs → Bool
stands_in text runs =
    is_some (leftmost text runs.first) || list_any (λ piece. is_some (leftmost text piece.1)) runs.others

-- of these texts, the first of them being argument k, those that are not null and stand in none of the runs
abbrev pub nowhere_from : ℕ → List (List ℕ) → Runs → List Doubt
nowhere_from k [] runs = []
nowhere_from k (text ∷ texts) runs =
    said (not (is_null text) && not (stands_in text runs)) (Nowhere k) ++ nowhere_from (k + 1) texts runs

-- the form is as it is before the cut
abbrev pub nowhere_doubts : Primitive → List (List ℕ) → Option Form → List Doubt
nowhere_doubts (Handle Segment) arguments (Some form) = nowhere_from 2 (drop 2 arguments) (runs_of (all_items form))
nowhere_doubts primitive arguments form = []

-- ---- all of them

-- what a call finds among forms and blocks: the form of its own name, the one that argument 1 names, and
-- the number of that form's block
pub record Found : Type 0 where
  pub own : Option Form
  pub named : Option Form
  pub block : Option ℕ

abbrev pub found_by : List (List ℕ) → Storage → Found
found_by arguments storage = record {
  own = map.get storage.forms (argument 0 arguments);
  named = named_form arguments storage;
  block = named_block_number arguments storage;
}

-- of a call of a primitive that finds this, in the order of the table
abbrev pub doubts_of_primitive : Primitive → Width → List (List ℕ) → Found → List Doubt
doubts_of_primitive primitive width arguments found =
    name_doubts primitive found.own
    ++ form_doubts primitive found.named
    ++ block_doubts primitive found.named found.block
    ++ unused_doubts (arguments_used primitive found.named) (length arguments)
    ++ number_doubts primitive arguments
    ++ result_doubts primitive width arguments
    ++ nowhere_doubts primitive arguments found.named

-- of the call that the next step performs, if it performs one
abbrev pub doubts_of_call : Width → Option (List (List ℕ)) → Storage → List Doubt
doubts_of_call width None storage = []
doubts_of_call width (Some arguments) storage =
    doubts_of_primitive (primitive_of (argument 0 arguments)) width arguments (found_by arguments storage)

-- of scanning, by what the active text begins with, that text, and how many calls are begun
abbrev pub doubts_of_scanning : Front → List ℕ → ℕ → List Doubt
-- the idle program is loaded
doubts_of_scanning Nothing active depth = said (nat_lt 0 depth) (Unended depth)
doubts_of_scanning Opening active depth = said (is_none (match_of (drop 1 active))) Unclosed
doubts_of_scanning Closing active depth = said (depth == 0) EndsNothing
doubts_of_scanning front active depth = []

-- the doubts of a state, in the order of the table; the tape decides nothing
unfoldable pub doubts : Width → State → List Doubt
doubts width s =
    doubts_of_call width (option_map (λ call. call.arguments) (next_call s)) (storage_of s)
    ++ doubts_of_scanning (front_of s.active) s.active (length s.frames)

-- whether there is a doubt
abbrev pub is_doubtful : Width → Goal
is_doubtful width s = nat_lt 0 (length (doubts width s))
