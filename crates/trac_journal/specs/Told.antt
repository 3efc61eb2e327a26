-- What a record says, and of what kind the newest is.
use Rattle.std.specs.Prelude.{◌≡◌, ℕ, ◌+◌, ◌<◌, ◌^◌, List, [], ◌∷◌}
use Rattle.trac_rules.specs.Records.{CallRecord, Record, Moved, Idle, Called}
use Rattle.trac_rules.specs.Undone as rules
use Rattle.trac_journal.specs.declared.called.Called as code
use Rattle.trac_text.specs.declared.scanning.Short.{Short}
use Rattle.trac_text.specs.declared.scanning.Short.TheVariants as short

-- the record of a call of these arguments, from what it destroyed of forms and blocks, and what is said beside them
abbrev pub record_with : code.Called → List (List ℕ) → rules.Undone → CallRecord
record_with called arguments undone = record {
  kind = called.kind;
  arguments = arguments;
  value = called.value;
  scanned = called.scanned;
  printed = called.printed;
  read = called.read;
  meta = called.meta;
  trace = called.trace;
  undone = undone;
}

-- a number that a short record names fits 32 bits
abbrev pub FitsEntry : Short → Type 0
FitsEntry (short.Quoted inner closed) = inner < 2 ^ 32
FitsEntry other = Unit {0}

-- ---- the newest of the records

-- it is short
abbrev pub IsShortFirst : List Record → Type 0
IsShortFirst [] = ⊥
IsShortFirst (Called call ∷ older) = ⊥
IsShortFirst (Idle base frames ∷ older) = ⊥
IsShortFirst (newest ∷ older) = Unit {0}

-- it is of a call
abbrev pub IsCallFirst : List Record → Type 0
IsCallFirst [] = ⊥
IsCallFirst (Called call ∷ older) = Unit {0}
IsCallFirst (newest ∷ older) = ⊥

-- it is of a step that emptied all texts
abbrev pub IsIdleFirst : List Record → Type 0
IsIdleFirst [] = ⊥
IsIdleFirst (Idle base frames ∷ older) = Unit {0}
IsIdleFirst (newest ∷ older) = ⊥

-- it is of a byte that was moved
abbrev pub IsMovedFirst : List Record → Type 0
IsMovedFirst [] = ⊥
IsMovedFirst (Moved ∷ older) = Unit {0}
IsMovedFirst (newest ∷ older) = ⊥

-- it is of a call of these arguments, and this is said beside them
pub record HasCallFirst (called : code.Called) (arguments : List (List ℕ)) (records : List Record) : Type 0 where
  pub undone : rules.Undone
  pub older : List Record
  pub first : records ≡ Called (record_with called arguments undone) ∷ older

-- it was of a call and is taken out, and this is what it destroyed of forms and blocks
pub record HasCallOut (undone : rules.Undone) (old new : List Record) : Type 0 where
  pub call : CallRecord
  pub taken : old ≡ Called call ∷ new
  pub destroyed : undone ≡ call.undone

-- ---- sums

-- how many bytes of the tape the step of a record read
abbrev pub read_by : Record → ℕ
read_by (Called call) = call.read
read_by other = 0

-- how many bytes it printed
abbrev pub printed_by : Record → ℕ
printed_by (Called call) = call.printed
printed_by other = 0

-- the sum of what is so counted of each record: of what they weigh, say
abbrev pub sum_by : (Record → ℕ) → List Record → ℕ
sum_by count [] = 0
sum_by count (r ∷ records) = count r + sum_by count records
