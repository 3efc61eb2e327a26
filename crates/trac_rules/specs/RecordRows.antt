-- Words for the worked rows of records.
use Rattle.std.specs.Prelude.{◌≡◌, ℕ, ◌+◌, max, List, [], ◌∷◌, true, false, None, Some}
use Prim.Native.String.{String}
use Rattle.std.specs.FinMap as finite
use Rattle.trac_rules.specs.declared.kind.Kind.TheVariants.{Active}
use Rattle.trac_rules.specs.declared.width.Width.TheVariants.{W128}
use Rattle.trac_rules.specs.Effect.{argument}
use Rattle.trac_rules.specs.Performing.{primitive_of}
use Rattle.trac_rules.specs.Records.{CallRecord, Called, Record, record_of, records_from, restored}
use Rattle.trac_rules.specs.Rows.{Named, texts_of}
use Rattle.trac_rules.specs.Session.{PlainSession, over}
use Rattle.trac_rules.specs.State.{Block, State, Storage, Tape}
use Rattle.trac_rules.specs.Undone.{Undone, storage_before, undone_by}
use Rattle.trac_rules.specs.Weights.{call_loss, losses_from, weight}

-- the records of the steps of a session that began with one state and was fed before its first step, the newest first
abbrev pub records_of : PlainSession → List Record
records_of p = records_from (over p.width p.tape) p.earlier

-- a tape of no bytes that has not ended
abbrev pub no_tape : Tape
no_tape = record { bytes = []; ended = false }

-- what all steps of such a session may lose
abbrev pub losses_of : PlainSession → ℕ
losses_of p = losses_from p.earlier

-- a call of these arguments may lose so much if there are these forms and blocks
abbrev pub Costs : List (List ℕ) → Named → List Block → ℕ → Type 0
Costs arguments forms blocks n = call_loss arguments (record { forms = finite.from_entries forms; blocks = blocks }) ≡ n

-- the greatest measure of these states
abbrev pub most_of : (State → ℕ) → List State → ℕ
most_of measure [] = 0
most_of measure (s ∷ states) = max (measure s) (most_of measure states)

-- the most that any state of such a session takes by a measure, as of the room of a machine
abbrev pub most_in : (State → ℕ) → PlainSession → ℕ
most_in measure p = most_of measure (p.last ∷ p.earlier)

-- ---- records of calls

-- what records weigh together
abbrev pub weights_of : List Record → ℕ
weights_of [] = 0
weights_of (r ∷ records) = weight r + weights_of records

-- the record of a call of an active function with an empty value that prints nothing, reads nothing and sets no meta
-- character, while the trace is off
abbrev pub silent_call : List (List ℕ) → Undone → CallRecord
silent_call arguments undone = record {
  kind = Active;
  arguments = arguments;
  value = 0;
  scanned = true;
  printed = 0;
  read = 0;
  meta = None;
  trace = false;
  undone = undone;
}

-- the storage of these forms and blocks
abbrev pub stored : Named → List Block → Storage
stored forms blocks = record { forms = finite.from_entries forms; blocks = blocks }

-- a call of these arguments destroys this if there are these forms and blocks
abbrev pub Destroys : List (List ℕ) → Named → List Block → Undone → Type 0
Destroys arguments forms blocks undone =
    undone_by (primitive_of (argument 0 arguments)) arguments (stored forms blocks) ≡ undone

-- if a call of these arguments destroyed this and left these forms and blocks, those were there before
abbrev pub GivesBack : List (List ℕ) → Undone → Named → List Block → Named → List Block → Type 0
GivesBack arguments undone forms blocks before blocks_before =
    storage_before arguments undone (stored forms blocks) ≡ Some (stored before blocks_before)

-- no call of these arguments that left these forms and blocks destroyed this
abbrev pub GivesNothingBack : List (List ℕ) → Undone → Named → List Block → Type 0
GivesNothingBack arguments undone forms blocks = storage_before arguments undone (stored forms blocks) ≡ None

-- the record of such a call that destroys this weighs so much
abbrev pub Weighs : String → Undone → ℕ → Type 0
Weighs text undone n = weight (Called (silent_call (texts_of text) undone)) ≡ n

-- the step from the first state, over an empty tape, has this record, which leads from the second one back to the first
abbrev pub IsLedBack : State → Record → State → Type 0
IsLedBack s r t = (record_of (over W128 no_tape) s ≡ Some r) × (restored r t ≡ Some s)
