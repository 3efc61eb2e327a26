-- Places and origins as the definitions see them.
use Rattle.std.specs.Prelude.{◌≡◌, ◌⊎◌, ℕ, ◌+◌, ◌^◌, ◌<◌, ◌≤◌, ◌==◌, List, length, Bool, true, false, not, Option, None}
use Rattle.std.specs.Prelude.{Some, Ok}
use Rattle.trac_rules.specs.declared.item.Item.{Item}
use Rattle.trac_rules.specs.declared.primitive.Computation.{Computation}
use Rattle.trac_rules.specs.declared.primitive.FormAction.TheVariants.{ListNames}
use Rattle.trac_rules.specs.declared.primitive.Primitive.TheVariants.{Compute, Handle}
use Rattle.trac_rules.specs.declared.width.Width.{Width}
use Rattle.trac_rules.specs.Effect.{Effect, argument}
use Rattle.trac_rules.specs.Performing.{performed, primitive_of}
use Rattle.trac_rules.specs.Scanning.{Call, Calls, Scanned, scan}
use Rattle.trac_rules.specs.State.{Environment, State}
use Rattle.trac_rules.specs.Stepping.{step}
use Rattle.trac_origins.specs.Places.{Place, InActive, InBase, InArgument, InForm, InHeld, InOutput, Origin, Carried}
use Rattle.trac_origins.specs.Places.{Read, Made, found_at}
use Rattle.trac_origins.specs.Lengths.{IsCallOf, value_at}
use Rattle.trac_origins.specs.Stepping.{origin}
use Rattle.trac_follow_step.specs.declared.place.After.{After}
use Rattle.trac_follow_step.specs.Items.{IsMeasured}
use Rattle.trac_follow_step.specs.declared.place.Place as code_place
use Rattle.trac_follow_step.specs.declared.place.Origin as code_origin

abbrev pub place_of : code_place.Place → Place
place_of (code_place.TheVariants.Active i) = InActive i
place_of (code_place.TheVariants.Base i) = InBase i
place_of (code_place.TheVariants.Argument function argument byte) = InArgument function argument byte
place_of (code_place.TheVariants.Form name i) = InForm name.now i
place_of (code_place.TheVariants.Held number name i) = InHeld number name.now i
place_of (code_place.TheVariants.Output i) = InOutput i

-- whether a step that scans this performs the call of the function of this number, the innermost of so many
abbrev pub calls : ℕ → ℕ → Scanned → Bool
calls function depth (Calls call) = function + 1 == depth
calls function depth other = false

-- the step from a state performs a call that has these arguments
abbrev pub IsCalling : State → List (List ℕ) → Type 0
IsCalling s arguments = (call : Call) × (scan s ≡ Calls call) × (call.arguments ≡ arguments)

-- it performs a call of `ln`
abbrev pub IsListing : State → Type 0
IsListing s =
    (call : Call) × (scan s ≡ Calls call) × (primitive_of (argument 0 call.arguments) ≡ Handle ListNames)

-- whether a place is in a form; and whether it is in a form or in a block
abbrev pub is_in_form : Place → Bool
is_in_form (InForm name i) = true
is_in_form place = false

abbrev pub is_in_storage : Place → Bool
is_in_storage (InHeld number name i) = true
is_in_storage place = is_in_form place

-- The step from a state carried a byte here from there. Whether its call passed the byte on, and did not just leave it
-- where it was, or move it with the text around it: from an argument of that call to wherever it is now; from a block
-- into a form; or out of a form, as into its value, the output or a block
abbrev pub is_passed : State → Place → Place → Bool
is_passed s here (InArgument function argument byte) = calls function (length s.frames) (scan s)
is_passed s here (InHeld number name i) = is_in_form here
is_passed s here (InForm name i) = not (is_in_form here)
is_passed s here there = false

-- it passed the byte on
abbrev pub IsPassed : State → Place → Place → Type 0
IsPassed s here there = is_passed s here there ≡ true

-- what is told in a state is this origin of what stands somewhere after the step from it
abbrev pub Tells : State → code_origin.Origin → Origin → Type 0
Tells s (code_origin.TheVariants.Carried place) o = o ≡ Carried (place_of place)
Tells s (code_origin.TheVariants.OfForm i) o =
    (call : Call) × (scan s ≡ Calls call) × (o ≡ Carried (InForm (argument 1 call.arguments) i))
Tells s (code_origin.TheVariants.Read n) o = o ≡ Read n
Tells s code_origin.TheVariants.Made o = o ≡ Made
Tells s code_origin.TheVariants.Nothing o = ⊥

-- whether an item of a form is said to be one that a call took out of it, and whether it is said to
-- be carried from there
abbrev pub is_of_form : code_origin.Origin → Bool
is_of_form (code_origin.TheVariants.OfForm i) = true
is_of_form o = false

abbrev pub is_from_form : code_origin.Origin → Bool
is_from_form (code_origin.TheVariants.Carried place) = is_in_form (place_of place)
is_from_form o = false

-- the one is said of no place in a form or in a block, and the other of no other place
abbrev pub IsTakenOut : Place → code_origin.Origin → Type 0
IsTakenOut place o =
    (is_of_form o ≡ true → is_in_storage place ≡ false) × (is_from_form o ≡ true → is_in_storage place ≡ true)

-- this is told of a state and of a place in it: lengths, how much stands before an item of a form,
-- and whether a gap stands there
pub record AreLengths (after : After) (t : State) (place : Place) : Type 0 where
  pub active : after.active ≡ length t.active
  pub output : after.output ≡ length t.output
  -- a machine counts what it read in 64 bits
  pub read : t.position < 2 ^ 64
  pub measured : IsMeasured after.extent after.is_gap t place

-- what is told in the state `s` of a place. It is the origin of what stands there after the step, of whatever input, if
-- that step leads to texts of these lengths
abbrev pub TellsOf : State → Width → After → Place → code_origin.Origin → Type 0
TellsOf s width after place told =
    (environment : Environment) (t : State) (item : Item) → environment.width ≡ width → step environment s ≡ Ok t →
    AreLengths after t place → found_at t place ≡ Some item → Tells s told (origin environment s place)

-- what the state after a call tells of its value: if it is scanned, how long it is; if it is not, that it is not forced
abbrev pub IsSeen : Option ℕ → Effect → Type 0
IsSeen (Some len) e = length e.value ≡ len
IsSeen None e = e.forced ≡ false

-- what is told in the state `s` of the byte of this number of the value of the call that the step performs, if so much
-- is known of the value
abbrev pub TellsValue : State → Width → Option ℕ → ℕ → code_origin.Origin → Type 0
TellsValue s width seen i told =
    (environment : Environment) (t : State) (call : Call) (e : Effect) (item : Item) → environment.width ≡ width →
    step environment s ≡ Ok t → t.position < 2 ^ 64 → scan s ≡ Calls call → performed environment call ≡ Ok e →
    IsSeen seen e → found_at t (value_at call.kind e.forced call.state i) ≡ Some item → i < length e.value →
    Tells s told (origin environment s (value_at call.kind e.forced call.state i))

-- the same, if the call is of this computation, has these arguments, and is that of the function of this number
abbrev pub TellsComputed : Computation → List (List ℕ) → ℕ → Width → ℕ → code_origin.Origin → Type 0
TellsComputed computation arguments function width i told =
    (environment : Environment) (s : State) (call : Call) (e : Effect) →
    environment.width ≡ width → IsCallOf environment s call (Compute computation) e → call.arguments ≡ arguments →
    length call.state.frames ≡ function → i < length e.value →
    Tells s told (origin environment s (value_at call.kind e.forced call.state i))

-- read from this position on, which no machine passes
abbrev pub ToldAsRead : ℕ → ℕ → code_origin.Origin → Type 0
ToldAsRead position i (code_origin.TheVariants.Read n) = n ≡ position + i
ToldAsRead position i code_origin.TheVariants.Nothing = 2 ^ 64 ≤ position + i
ToldAsRead position i told = ⊥

-- a place is in no function from this number on
abbrev pub IsOutside : ℕ → Place → Type 0
IsOutside function (InArgument number argument byte) = number < function
IsOutside function place = Unit {0}

-- whether a place is in the base text or in an argument
abbrev pub is_in_text : Place → Bool
is_in_text (InBase i) = true
is_in_text (InArgument number argument byte) = true
is_in_text place = false

-- of a text of this length, an argument 1, that ends the output at `end`, and of the line that is made before it
abbrev pub ToldAsPrinted : ℕ → ℕ → ℕ → ℕ → code_origin.Origin → Type 0
ToldAsPrinted text function end i (code_origin.TheVariants.Carried (code_place.TheVariants.Argument n k j)) =
    (n ≡ function) × (k ≡ 1) × (j + end ≡ i + text) × (j < text)
ToldAsPrinted text function end i code_origin.TheVariants.Made = i + text < end
ToldAsPrinted text function end i code_origin.TheVariants.Nothing = (end < text) ⊎ (end ≤ i)
ToldAsPrinted text function end i told = ⊥

-- something stands at a place
abbrev pub Stands : State → Place → Type 0
Stands s place = (item : Item) × (found_at s place ≡ Some item)

-- and nothing does
abbrev pub IsBare : State → Place → Type 0
IsBare s place = (item : Item) → found_at s place ≡ Some item → ⊥
