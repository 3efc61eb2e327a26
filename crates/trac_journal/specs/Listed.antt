-- The lists of a journal, in which its records stand one after another.
use Rattle.std.specs.Prelude.{◌≡◌, ℕ, ◌<◌, ◌≤◌, ◌^◌, List, [], ◌∷◌, length, map, drop, reverse, sum}
use Rattle.trac_rules.specs.Records.{Record, Moved, Comma, Begun, Quoted, Deleted, Idle, Called, all_before_last}
use Rattle.trac_rules.specs.Records.{last_of}
use Rattle.trac_rules.specs.State.{Frame}
use Rattle.trac_rules.specs.Undone.{Undone, Nothing, Point}
use Rattle.trac_text.specs.Pieces.{all_texts, cut_at}
use Rattle.trac_journal.specs.Told.{record_with}
use Rattle.trac_journal.specs.Emptied.{texts_in}
use Rattle.trac_change.specs.Undone.{undone_in}
use Rattle.trac_journal.specs.declared.called.Called as code
use Rattle.trac_journal.specs.declared.emptied.Emptied.{Emptied}
use Rattle.trac_change.specs.declared.undone.Undone as destroyed
use Rattle.trac_journal.specs.declared.entry.CallEntry.{CallEntry}
use Rattle.trac_journal.specs.declared.entry.Kept.{Kept}
use Rattle.trac_journal.specs.declared.entry.Kept.TheVariants as kept

-- what the lists hold
pub record Listed : Type 0 where
  -- the calls, the newest first
  pub calls : List CallEntry
  -- the bytes of their arguments, one after another, those of the newest call last; and how long
  -- each argument is that a `,` ended
  pub bytes : List ℕ
  pub commas : List ℕ
  -- what calls destroyed of forms and blocks, if an entry does not hold it, the newest first
  pub undone : List Undone
  -- what idle steps emptied, base text and frames, the newest first
  pub emptied : List (List ℕ × List Frame)

abbrev pub nothing_listed : Listed
nothing_listed = record { calls = []; bytes = []; commas = []; undone = []; emptied = [] }

-- what a call says beside its arguments, and what was destroyed of forms and blocks
abbrev pub called_in : CallEntry → code.Called
called_in c = record {
  kind = c.kind;
  value = c.value;
  scanned = c.scanned;
  printed = c.printed;
  read = c.read;
  meta = c.meta;
  trace = c.trace;
}

-- what these lists of the code hold
abbrev pub listed_by : {A : Type 0} → List CallEntry → List ℕ → List ℕ → List (destroyed.Undone A) →
    List (Emptied A) → Listed
listed_by calls bytes commas undone emptied = record {
  calls = reverse calls;
  bytes = bytes;
  commas = commas;
  undone = map undone_in (reverse undone);
  emptied = map texts_in (reverse emptied);
}

-- what a call says beside its arguments, their bytes and how many they are: each number fits 32 bits
pub record AreSmall (called : code.Called) (len count : ℕ) : Type 0 where
  pub value : called.value < 2 ^ 32
  pub printed : called.printed < 2 ^ 32
  pub read : called.read < 2 ^ 32
  pub bytes : len < 2 ^ 32
  pub arguments : count < 2 ^ 32

-- ---- the newest record

-- that of the first of these calls, which destroyed this: it has the last of the bytes, cut by the last of the lengths.
-- If there is no call, any record
abbrev pub call_of : List CallEntry → Undone → List ℕ → List ℕ → Record
call_of [] undone bytes commas = Moved
call_of (c ∷ calls) undone bytes commas =
    Called (record_with (called_in c) (all_texts (cut_at (last_of c.commas commas) (last_of c.bytes bytes))) undone)

-- the first of these; if there is none, nothing
abbrev pub first_undone : List Undone → Undone
first_undone [] = Nothing
first_undone (undone ∷ older) = undone

-- what the newest call destroyed, by what its entry keeps: from the list of these, if it stands there
abbrev pub newest_undone : Kept → List Undone → Undone
newest_undone (kept.Pointed place) undone = Point place
newest_undone kept.Changed undone = first_undone undone
newest_undone other undone = Nothing

abbrev pub idle_of : List (List ℕ × List Frame) → Record
idle_of [] = Idle [] []
idle_of (texts ∷ older) = Idle texts.0 texts.1

-- the record of which an entry keeps this, if it is the newest one in the lists
abbrev pub newest_in : Kept → Listed → Record
newest_in kept.Comma l = Comma
newest_in kept.Begun l = Begun
newest_in (kept.Quoted closed inner) l = Quoted inner closed
newest_in (kept.Deleted b) l = Deleted b
newest_in kept.Idle l = idle_of l.emptied
newest_in call l = call_of l.calls (newest_undone call l.undone) l.bytes l.commas

-- an entry that keeps this holds all of its record
abbrev pub IsBrief : Kept → Type 0
IsBrief kept.Comma = Unit {0}
IsBrief kept.Begun = Unit {0}
IsBrief (kept.Quoted closed inner) = Unit {0}
IsBrief (kept.Deleted b) = Unit {0}
IsBrief other = ⊥

-- ---- the others

-- the lists without the first of these calls
abbrev pub without_call : List CallEntry → Listed → Listed
without_call [] l = l
without_call (c ∷ calls) l =
    record l { calls = calls; bytes = all_before_last c.bytes l.bytes; commas = all_before_last c.commas l.commas }

-- what is left of that list without the newest call's own
abbrev pub older_undone : Kept → List Undone → List Undone
older_undone kept.Changed undone = drop 1 undone
older_undone other undone = undone

-- the lists without what is the newest record's own, of which an entry keeps this
abbrev pub older_in : Kept → Listed → Listed
older_in kept.Comma l = l
older_in kept.Begun l = l
older_in (kept.Quoted closed inner) l = l
older_in (kept.Deleted b) l = l
older_in kept.Idle l = record l { emptied = drop 1 l.emptied }
older_in call l = without_call l.calls (record l { undone = older_undone call l.undone })

-- there is a call, and all bytes and lengths of its arguments
abbrev pub HasCall : List CallEntry → List ℕ → List ℕ → Type 0
HasCall [] bytes commas = ⊥
HasCall (c ∷ calls) bytes commas =
    (c.bytes ≤ length bytes) × (c.commas ≤ length commas) × (sum (last_of c.commas commas) ≤ c.bytes)

-- the newest record, of which an entry keeps this, is there
abbrev pub Holds : Kept → Listed → Type 0
Holds kept.Call l = HasCall l.calls l.bytes l.commas
Holds (kept.Pointed place) l = HasCall l.calls l.bytes l.commas
Holds kept.Changed l = HasCall l.calls l.bytes l.commas × (1 ≤ length l.undone)
Holds kept.Idle l = 1 ≤ length l.emptied
Holds other l = Unit {0}

-- an entry keeps this of a call that destroyed this of forms and blocks, and what it cannot hold
-- stands before the list of these then
abbrev pub IsKept : Kept → Undone → List Undone → List Undone → Type 0
IsKept kept.Call undone old new = (undone ≡ Nothing) × (new ≡ old)
IsKept (kept.Pointed place) undone old new = (undone ≡ Point place) × (new ≡ old)
IsKept kept.Changed undone old new = new ≡ undone ∷ old
IsKept other undone old new = ⊥

-- the lists have one record more, the newest, of which an entry keeps this
pub record HasMore (k : Kept) (r : Record) (old new : Listed) : Type 0 where
  pub is_there : Holds k new
  pub newest : newest_in k new ≡ r
  pub others : older_in k new ≡ old
