-- Words for the worked rows: runs, numbers, bits, what a session is and has replied after a list of commands, and what
-- a call does with forms and blocks. Numbers are of 128 bits if no width is given.
use Rattle.std.specs.Prelude.{◌≡◌, ℕ, ◌+◌, ◌==◌, ℤ, List, [], ◌∷◌, ◌++◌, Bool, replicate, Option, None, Some, Ok, codes}
use Prim.Native.String.{String}
use Rattle.std.specs.FinMap as map
use Rattle.std.specs.List.{slice_split}
use Rattle.trac_rules.specs.declared.byte.TheConstants.{COMMA}
use Rattle.trac_rules.specs.declared.reply.Reply.{Reply}
use Rattle.trac_rules.specs.declared.item.CutGap.{CutGap}
use Rattle.trac_rules.specs.declared.item.Item.{Item}
use Rattle.trac_rules.specs.declared.item.Item.TheVariants.{Byte, Gap}
use Rattle.trac_rules.specs.declared.kind.Kind.{Kind}
use Rattle.trac_rules.specs.declared.width.Width.{Width}
use Rattle.trac_rules.specs.declared.width.Width.TheVariants.{W64, W128}
use Rattle.trac_rules.specs.Effect.{argument, forces, leaves}
use Rattle.trac_rules.specs.Form.{Form, as_items, defined, pointed_at}
use Rattle.trac_rules.specs.Number.{calculated, difference_of, number_of, numeral_of, prefix_of, product_of}
use Rattle.trac_rules.specs.Number.{quotient_of, sum_of}
use Rattle.trac_rules.specs.Octal.{bits_of, octal_tail, text_of}
use Rattle.trac_rules.specs.Performing.{effect_of, primitive_of}
use Rattle.trac_rules.specs.Running.{BudgetSpent, InputEnded, output_of}
use Rattle.trac_rules.specs.State.{Block, Environment, Frame, Held, State, Tape, initial, storage_of}
use Rattle.trac_rules.specs.Session.{Back, Command, Commit, End, Feed, PlainSession, Step, answer, new_session, over}

-- a text cut at its commas: a call's name and arguments, if none of them is protected
abbrev pub texts_of : String → List (List ℕ)
texts_of text = slice_split (λ b. b == COMMA) (codes text)

-- ---- runs

-- a run over this input with numbers of a width prints this, up to the end of the input
abbrev pub Writes : Width → List ℕ → List ℕ → Type 0
Writes width input printed = output_of width input 1000000000 ≡ record { bytes = printed; stop = InputEnded }

-- the same, with numbers of 128 bits and of 64
abbrev pub WritesBoth : List ℕ → List ℕ → List ℕ → Type 0
WritesBoth input wide narrow = Writes W128 input wide × Writes W64 input narrow

-- the same, after so many steps and no fewer
abbrev pub EndsAfter : ℕ → String → String → Type 0
EndsAfter n input printed =
    (output_of W128 (codes input) n ≡ record { bytes = codes printed; stop = BudgetSpent })
    × (output_of W128 (codes input) (n + 1) ≡ record { bytes = codes printed; stop = InputEnded })

-- ---- numbers and bits

-- what stands at the end of a text: after this prefix this numeral, of this number
abbrev pub ReadsAs : String → String → String → ℤ → Type 0
ReadsAs text prefix numeral n =
    (prefix_of (codes text) ≡ codes prefix) × (numeral_of (codes text) ≡ codes numeral)
    × (number_of W128 (numeral_of (codes text)) ≡ Some n)

-- an operation gives this text, or none
abbrev pub Calculates : (Width → ℤ → ℤ → Option ℤ) → Width → String → String → String → Type 0
Calculates operation width first second result =
    calculated operation width (codes first) (codes second) ≡ Some (codes result)

abbrev pub Refuses : (Width → ℤ → ℤ → Option ℤ) → Width → String → String → Type 0
Refuses operation width first second = calculated operation width (codes first) (codes second) ≡ None

-- sums and differences at the ends of a range: from one below the greatest number to one past it, and from one above
-- the least number to one beyond it
abbrev pub SumsEnd : Width → String → String → String → String → String → String → Type 0
SumsEnd width below greatest past above least beyond =
    Calculates sum_of width below "1" greatest × Refuses sum_of width greatest "1"
    × Calculates sum_of width above "-1" least × Refuses sum_of width least "-1"
    × Calculates difference_of width below "-1" greatest × Refuses difference_of width greatest "-1"
    × Calculates difference_of width above "1" least × Refuses difference_of width least "1"
    × Refuses sum_of width past "-1" × Refuses difference_of width "0" beyond

-- products: a root and a half make one past the greatest number, and the root below zero and the half the least
abbrev pub ProductsEnd : Width → String → String → String → String → String → String → Type 0
ProductsEnd width root half minus_root greatest past least =
    Calculates product_of width greatest "1" greatest × Refuses product_of width root half
    × Calculates product_of width minus_root half least × Refuses product_of width least "2"
    × Refuses product_of width least "-1" × Refuses product_of width past "0"

abbrev pub QuotientsEnd : Width → String → String → String → String → Type 0
QuotientsEnd width greatest past minus_greatest least =
    Calculates quotient_of width greatest "-1" minus_greatest × Calculates quotient_of width least "1" least
    × Refuses quotient_of width least "-1" × Refuses quotient_of width "1" "0" × Refuses quotient_of width "0" past

-- an operation on bits of the octal strings of texts gives this text
abbrev pub OfOne : (List Bool → List Bool) → String → String → Type 0
OfOne operation text result = text_of (operation (bits_of (octal_tail (codes text)))) ≡ codes result

abbrev pub OfTwo : (List Bool → List Bool → List Bool) → String → String → String → Type 0
OfTwo operation first second result = OfOne (operation (bits_of (octal_tail (codes first)))) second result

-- ---- sessions

-- the session after these commands, refused ones included
abbrev pub session_after : List Command → PlainSession → PlainSession
session_after [] p = p
session_after (command ∷ commands) p = session_after commands (answer command p).session

-- the replies to these commands, one after another
abbrev pub replies_to : List Command → PlainSession → List Reply
replies_to [] p = []
replies_to (command ∷ commands) p = (answer command p).reply ∷ replies_to commands (answer command p).session

-- the last state after these commands
abbrev pub state_after : List Command → PlainSession → State
state_after commands p = (session_after commands p).last

-- the same of a new session, whose journal holds up to 64 records
abbrev pub session_of : List Command → PlainSession
session_of commands = session_after commands (new_session 64 W128)

abbrev pub replies_of : List Command → List Reply
replies_of commands = replies_to commands (new_session 64 W128)

abbrev pub state_of : List Command → State
state_of commands = (session_of commands).last

-- a text is fed, and then so many steps
abbrev pub fed : String → ℕ → List Command
fed text steps = Feed (codes text) ∷ replicate steps Step

-- every kind of command; if a journal holds up to four records, there are refusals between them
abbrev pub all_kinds : List Command
all_kinds = fed "AB'" 5 ++ Back ∷ End ∷ Feed (codes "C") ∷ Commit 0 ∷ Back ∷ []

-- the session after nineteen steps over a text of two bytes, and then these commands
abbrev pub after_nineteen : List Command → PlainSession
after_nineteen commands = session_of (fed "AB'" 19 ++ commands)

-- a begun function, and the first state with other texts and begun functions
abbrev pub begun : Kind → List (List ℕ) → List ℕ → Frame
begun kind arguments gathered = record { kind = kind; arguments = arguments; gathered = gathered }

abbrev pub standing : String → String → List Frame → State
standing active base frames = record initial { active = codes active; base = codes base; frames = frames }

-- ---- forms

-- forms with their names, in any order and no name twice
abbrev pub Named : Type 0
Named = Held

-- a text as a form, its pointer at a place
abbrev pub text_at : ℕ → String → Form
text_at place text = pointed_at place (as_items (codes text))

-- a form of this name and of these items or this text, its pointer at a place
abbrev pub pointing_at : ℕ → String → List Item → Named
pointing_at place name items = (codes name, pointed_at place items) ∷ []

abbrev pub named_at : ℕ → String → String → Named
named_at place name text = (codes name, text_at place text) ∷ []

-- the same, its pointer at the start
abbrev pub named : String → String → Named
named name text = (codes name, defined (codes text)) ∷ []

-- the items `a<1>bc<2>`, and forms under the name `F` or `G` with the pointer at a place: of these items, of
-- `<1>a<1><2>b`, of `a<1>b<1>c`, and of a text
abbrev pub example : List Item
example = Byte 97 ∷ Gap 1 1 ∷ Byte 98 ∷ Byte 99 ∷ Gap 2 1 ∷ []

abbrev pub example_at : ℕ → Named
example_at place = pointing_at place "F" example

abbrev pub gapped_at : ℕ → Named
gapped_at place = pointing_at place "F" (Gap 1 1 ∷ Byte 97 ∷ Gap 1 2 ∷ Gap 2 1 ∷ Byte 98 ∷ [])

abbrev pub parted_at : ℕ → Named
parted_at place = pointing_at place "G" (Byte 97 ∷ Gap 1 1 ∷ Byte 98 ∷ Gap 1 1 ∷ Byte 99 ∷ [])

abbrev pub letters_at : ℕ → Named
letters_at place = named_at place "F" "abcde"

-- `A<1>B`; what is left of `abcabc` without `b` and `ca`, and of `banana` without its `a`, the second text
abbrev pub halves_at : ℕ → Named
halves_at place = pointing_at place "F" (Byte 65 ∷ Gap 1 1 ∷ Byte 66 ∷ [])

abbrev pub cut_twice : Named
cut_twice = pointing_at 0 "F" (Byte 97 ∷ Gap 1 1 ∷ Gap 2 2 ∷ Gap 1 1 ∷ Byte 99 ∷ [])

abbrev pub cut_thrice : Named
cut_thrice = pointing_at 0 "F" (Byte 98 ∷ Gap 2 1 ∷ Byte 110 ∷ Gap 2 1 ∷ Byte 110 ∷ Gap 2 1 ∷ [])

-- a procedure without the name of its argument
abbrev pub factorial : Named
factorial =
    pointing_at 0 "Factorial" (as_items (codes "#(eq,") ++ Gap 1 1 ∷ as_items (codes ",1,1,(#(ml,")
    ++ Gap 1 1 ∷ as_items (codes ",#(cl,Factorial,#(su,") ++ Gap 1 1 ∷ as_items (codes ",1)))))"))

-- a gap that segmenting makes
abbrev pub gap_at : ℕ → ℕ → CutGap
gap_at place ordinal = record { place = place; ordinal = ordinal }

-- ---- calls on forms

-- a state with these forms in place of its own
abbrev pub with_forms : Named → State → State
with_forms forms s = record s { forms = map.from_entries forms }

-- a state with these forms and these blocks in place of its own
abbrev pub with_storage : Named → List Block → State → State
with_storage forms blocks s = record (with_forms forms s) { blocks = blocks }

-- what a call does in every state with the forms `before`, if numbers are of a width: its value, which is not forced,
-- what it prints, and the forms after it. Nothing else changes
abbrev pub DoesIn : Width → List (List ℕ) → Named → List ℕ → List ℕ → Named → Type 0
DoesIn width arguments before value printed after =
    (tape : Tape) → (s : State) →
    effect_of (primitive_of (argument 0 arguments)) (over width tape) arguments (with_forms before s)
    ≡ Ok (record (leaves (storage_of (with_forms after s))) { value = value; printed = printed })

-- the same, whatever the width
abbrev pub Does : List (List ℕ) → Named → List ℕ → List ℕ → Named → Type 0
Does arguments before value printed after = (width : Width) → DoesIn width arguments before value printed after

-- a call with an empty value that prints nothing turns these forms into those
abbrev pub Leaves : List (List ℕ) → Named → Named → Type 0
Leaves arguments before after = Does arguments before [] [] after

-- a call gives this value and changes nothing
abbrev pub Gives : List (List ℕ) → Named → List ℕ → Type 0
Gives arguments forms value = Does arguments forms value [] forms

-- a call with an empty value prints this and changes nothing
abbrev pub Prints : List (List ℕ) → Named → List ℕ → Type 0
Prints arguments forms text = Does arguments forms [] text forms

-- a call gives this value, which is forced, and changes nothing, if numbers are of a width
abbrev pub ForcesIn : Width → List (List ℕ) → Named → List ℕ → Type 0
ForcesIn width arguments forms value = (tape : Tape) → (s : State) →
    effect_of (primitive_of (argument 0 arguments)) (over width tape) arguments (with_forms forms s)
    ≡ Ok (forces value (storage_of (with_forms forms s)))

-- the same, whatever the width
abbrev pub Forces : List (List ℕ) → Named → List ℕ → Type 0
Forces arguments forms value = (width : Width) → ForcesIn width arguments forms value

-- ---- calls on blocks

-- a call with an empty value that prints nothing turns these forms and blocks into those
abbrev pub Turns : List (List ℕ) → Named → List Block → Named → List Block → Type 0
Turns arguments before blocks after blocks_after =
    (environment : Environment) → (s : State) →
    effect_of (primitive_of (argument 0 arguments)) environment arguments (with_storage before blocks s)
    ≡ Ok (leaves (storage_of (with_storage after blocks_after s)))

-- a call leaves these forms and blocks as they are
abbrev pub TurnsNothing : List (List ℕ) → Named → List Block → Type 0
TurnsNothing arguments forms blocks = Turns arguments forms blocks forms blocks
