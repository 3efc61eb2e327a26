-- What is true of an origin: the law of a step, and of many.
use Rattle.std.specs.Prelude.{◌≡◌, ℕ, suc, ◌<◌, ◌≤◌, ◌||◌, List, length, Bool, true, false, Some}
use Rattle.trac_rules.specs.declared.item.Item.{Item}
use Rattle.trac_rules.specs.declared.item.Item.TheVariants.{Byte, Gap}
use Rattle.trac_rules.specs.declared.primitive.BlockAction.TheVariants.{StoreBlock}
use Rattle.trac_rules.specs.declared.primitive.Computation.{Computation}
use Rattle.trac_rules.specs.declared.primitive.Computation.TheVariants.{Equal, Greater}
use Rattle.trac_rules.specs.declared.primitive.FormAction.TheVariants.{Segment, ListNames, PrintForm}
use Rattle.trac_rules.specs.declared.primitive.Primitive.{Primitive}
use Rattle.trac_rules.specs.declared.primitive.Primitive.TheVariants.{Compute, Handle, HandleBlock}
use Rattle.trac_rules.specs.declared.scan.Front.{Front}
use Rattle.trac_rules.specs.declared.scan.Front.TheVariants.{Nothing}
use Rattle.trac_rules.specs.Effect.{argument}
use Rattle.trac_rules.specs.Performing.{primitive_of}
use Rattle.trac_rules.specs.Scanning.{Scanned, Moves, Calls, front_of, scan}
use Rattle.trac_rules.specs.State.{Environment, State}
use Rattle.trac_origins.specs.Places.{Origin, Carried, Read, Made, byte_at, found_at}
use Rattle.trac_origins.specs.Following.{state_back}

-- ---- which steps make something

-- whether a computation makes digits
abbrev pub makes_digits : Computation → Bool
makes_digits Equal = false
makes_digits Greater = false
makes_digits computation = true

-- whether a primitive makes bytes: digits, listed names, the marks of a form, the number of a block
abbrev pub makes_bytes : Primitive → Bool
makes_bytes (Compute computation) = makes_digits computation
makes_bytes (Handle ListNames) = true
makes_bytes (Handle PrintForm) = true
makes_bytes (HandleBlock StoreBlock) = true
makes_bytes primitive = false

-- whether a primitive makes gaps
abbrev pub makes_gaps : Primitive → Bool
makes_gaps (Handle Segment) = true
makes_gaps primitive = false

-- whether a rule of scanning makes bytes: if the active text is empty, the idle program
abbrev pub makes_idle : Front → Bool
makes_idle Nothing = true
makes_idle front = false

-- whether a step makes items like this one: a byte by the idle program, the line of the trace or a
-- primitive; a gap by a primitive
abbrev pub made_in : Item → State → Scanned → Bool
made_in (Byte b) s (Moves t) = makes_idle (front_of s.active)
made_in (Byte b) s (Calls call) = call.state.trace || makes_bytes (primitive_of (argument 0 call.arguments))
made_in (Gap ordinal width) s (Moves t) = false
made_in (Gap ordinal width) s (Calls call) = makes_gaps (primitive_of (argument 0 call.arguments))

abbrev pub makes : Item → State → Bool
makes item s = made_in item s (scan s)

-- ---- the law of a step

-- what is true of an item that stands in the state `t` after the step from `s`. If it is said to be carried from a
-- place, it stood there. If it is said to be read, it is that byte of the tape, which was not read before and is read
-- now. If it is said to be made, the step makes such items
abbrev pub Accounts : Environment → State → State → Origin → Item → Type 0
Accounts environment s t (Carried place) item = found_at s place ≡ Some item
Accounts environment s t (Read n) item =
    (s.position ≤ n) × (n < t.position) × (byte_at n environment.tape.bytes ≡ Some item)
Accounts environment s t Made item = makes item s ≡ true

-- ---- the law of many steps

-- what is true of an item of the state `t` that was followed back over the steps from the states before it: it stood at
-- that place of the first state, or was read or made by the step before those that carried it
abbrev pub IsSource : Environment → List State → State → ℕ → Origin → Item → Type 0
IsSource environment earlier t carried (Carried place) item =
    (carried ≡ length earlier) × (found_at (state_back carried t earlier) place ≡ Some item)
IsSource environment earlier t carried source item = (carried < length earlier)
    × Accounts environment (state_back (suc carried) t earlier) (state_back carried t earlier) source item
