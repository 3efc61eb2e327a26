-- Words for the law of origins by lengths: where the bytes that a step moves are told by numbers
-- alone, whatever bytes they are.
use Rattle.std.specs.Prelude.{◌≡◌, ℕ, ◌+◌, ◌-◌, ◌==◌, ◌&&◌, not, nat_lt, if◌then◌else◌, List, [], ◌∷◌, length, Bool}
use Rattle.std.specs.Prelude.{true, false, Option, None, Some, Ok}
use Rattle.std.specs.Str.{bytes_eq}
use Rattle.trac_rules.specs.declared.item.Item.{Item}
use Rattle.trac_rules.specs.declared.item.Item.TheVariants.{Byte, Gap}
use Rattle.trac_rules.specs.declared.kind.Kind.{Kind}
use Rattle.trac_rules.specs.declared.kind.Kind.TheVariants.{Active, Neutral}
use Rattle.trac_rules.specs.declared.primitive.BlockAction.TheVariants.{StoreBlock, FetchBlock}
use Rattle.trac_rules.specs.declared.primitive.Computation.{Computation}
use Rattle.trac_rules.specs.declared.primitive.Computation.TheVariants.{Equal, Greater, Calculate}
use Rattle.trac_rules.specs.declared.primitive.FormAction.TheVariants.{Define, Segment, PrintForm}
use Rattle.trac_rules.specs.declared.primitive.FormReading.{FormReading}
use Rattle.trac_rules.specs.declared.primitive.FormReading.TheVariants.{ReadSegment, ReadChar, ReadCount, ReadUntil}
use Rattle.trac_rules.specs.declared.primitive.Primitive.{Primitive}
use Rattle.trac_rules.specs.declared.primitive.Primitive.TheVariants.{PrintString, Handle, HandleBlock}
use Rattle.trac_rules.specs.declared.scan.Front.{Front}
use Rattle.trac_rules.specs.declared.scan.Front.TheVariants.{Opening, Sharp, Plain}
use Rattle.trac_rules.specs.Effect.{Effect, argument}
use Rattle.trac_rules.specs.Performing.{performed, primitive_of, trace_line}
use Rattle.trac_rules.specs.Scanning.{Call, Calls, scan}
use Rattle.trac_rules.specs.State.{Environment, Frame, State}
use Rattle.trac_origins.specs.Following.{Followed}
use Rattle.trac_origins.specs.Places.{Place, InActive, InBase, InArgument, InForm, InHeld, InOutput, Origin, Carried}
use Rattle.trac_origins.specs.Places.{Made}

-- the current text, and the place of its byte of a number; the first argument is the functions
abbrev pub current_text : List Frame → State → List ℕ
current_text [] s = s.base
current_text (f ∷ fs) s = f.gathered

abbrev pub in_current : List Frame → ℕ → Place
in_current [] i = InBase i
in_current (f ∷ fs) i = InArgument (length fs) (length f.arguments) i

-- whether a place is outside the active text
abbrev pub is_outside : Place → Bool
is_outside (InActive i) = false
is_outside place = true

-- and also in no form
abbrev pub is_of_text : Place → Bool
is_of_text (InForm name i) = false
is_of_text (InHeld number name i) = false
is_of_text place = is_outside place

-- whether a place is in the output, a form or a block
abbrev pub is_stored : Place → Bool
is_stored (InActive i) = false
is_stored (InBase i) = false
is_stored (InArgument f k i) = false
is_stored place = true

-- whether a rule of scanning moves bytes to the current text
abbrev pub moves_bytes : Front → Bool
moves_bytes Opening = true
moves_bytes Sharp = true
moves_bytes Plain = true
moves_bytes front = false

-- and where the first of them stood in the active text
abbrev pub first_moved : Front → ℕ
first_moved Opening = 1
first_moved front = 0

-- whether a primitive with this argument 1 may put a form under a name
abbrev pub may_put : Primitive → List ℕ → List ℕ → Bool
may_put (Handle Define) given name = bytes_eq name given
may_put (Handle Segment) given name = bytes_eq name given
may_put (HandleBlock StoreBlock) given name = bytes_eq name given
may_put (HandleBlock FetchBlock) given name = true
may_put primitive given name = false

-- ---- over several steps

-- how far a place is past the current text, if it is; the first argument is the functions
abbrev pub past_in : List Frame → State → Place → Option ℕ
past_in [] s (InBase i) = if nat_lt i (length s.base) then None else Some (i - length s.base)
past_in (f ∷ fs) s (InArgument n k i) =
    if (n == length fs) && (k == length f.arguments) && not (nat_lt i (length f.gathered))
    then Some (i - length f.gathered) else None
past_in fs s place = None

-- a byte of the active text, if there is one, else another place
abbrev pub in_active : Option ℕ → Place → Place
in_active None place = place
in_active (Some i) place = InActive i

-- where what stands at a place stood before the first n bytes of the active text of this state went to the current text
abbrev pub before_moved : ℕ → State → Place → Place
before_moved n s (InActive i) = InActive (n + i)
before_moved n s place = in_active (past_in s.frames s place) place

-- what was carried over n steps, and then followed further
abbrev pub after_carried : ℕ → Followed → Followed
after_carried n f = record { carried = n + f.carried; origin = f.origin }

-- ---- what a call makes

-- a state stands at a call of this primitive, and this is what it does, its line of the trace printed first
pub record IsCallOf
    (environment : Environment) (s : State) (call : Call) (primitive : Primitive) (e : Effect) : Type 0 where
  pub scans : scan s ≡ Calls call
  pub named : primitive_of (argument 0 call.arguments) ≡ primitive
  pub does : performed environment call ≡ Ok e

-- where the byte of this number of a value stands after the call: if the value is scanned, before what is left of
-- the active text, else after the current text. The state is that without the function
abbrev pub value_at : Kind → Bool → State → ℕ → Place
value_at Active forced s i = InActive i
value_at Neutral true s i = InActive i
value_at Neutral false s i = in_current s.frames (length (current_text s.frames s) + i)

-- and of what is printed by the primitive: after the output and the line of the trace
abbrev pub printed_at : Call → ℕ → Place
printed_at call i =
    InOutput (length call.state.output + (length (trace_line call.state.trace call.kind call.arguments) + i))

-- carried from an argument of the call, and from the form that argument 1 names
abbrev pub of_argument : Call → ℕ → ℕ → Origin
of_argument call k i = Carried (InArgument (length call.state.frames) k i)

abbrev pub of_form : Call → ℕ → Origin
of_form call i = Carried (InForm (argument 1 call.arguments) i)

-- which argument a decision gives
abbrev pub number_chosen : Bool → ℕ
number_chosen true = 3
number_chosen false = 4

-- whether a computation gives bits
abbrev pub gives_bits : Computation → Bool
gives_bits Equal = false
gives_bits Greater = false
gives_bits (Calculate operation) = false
gives_bits computation = true

-- which argument is the default of a reading
abbrev pub number_of_default : FormReading → ℕ
number_of_default ReadSegment = 2
number_of_default ReadChar = 2
number_of_default ReadCount = 3
number_of_default ReadUntil = 3

-- an item of a form that was segmented, which stands where this item of the form from before stood, and how that one is
-- carried: a gap over a byte is made
abbrev pub cut_from : Item → Item → Origin → Origin
cut_from (Gap ordinal width) (Byte b) carried = Made
cut_from item old carried = carried

-- whether a primitive prints nothing
abbrev pub is_silent : Primitive → Bool
is_silent PrintString = false
is_silent (Handle PrintForm) = false
is_silent primitive = true
