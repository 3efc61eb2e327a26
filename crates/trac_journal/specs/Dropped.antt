-- The oldest record in the lists of a journal, and what is to be known of it when it is dropped.
use Rattle.std.specs.Prelude.{◌≡◌, ℕ, ◌+◌, ◌-◌, ◌≤◌, nat_le, List, [], ◌∷◌, ◌++◌, length, drop, if◌then◌else◌}
use Rattle.trac_rules.specs.Records.{Record}
use Rattle.trac_rules.specs.Weights.{meta_weight, weight}
use Rattle.trac_journal.specs.Listed.{Listed, nothing_listed, older_in, Holds}
use Rattle.trac_journal.specs.Told.{printed_by, read_by}
use Rattle.trac_journal.specs.declared.entry.CallEntry.{CallEntry}
use Rattle.trac_journal.specs.declared.entry.Entry.{Entry}
use Rattle.trac_journal.specs.declared.entry.Kept.{Kept}
use Rattle.trac_journal.specs.declared.entry.Kept.TheVariants as kept
use Rattle.trac_journal.specs.declared.lists.Gone.{Gone}

-- lists with older ones after them
abbrev pub joined : Listed → Listed → Listed
joined older l = record {
  calls = l.calls ++ older.calls;
  bytes = older.bytes ++ l.bytes;
  commas = older.commas ++ l.commas;
  undone = l.undone ++ older.undone;
  emptied = l.emptied ++ older.emptied;
}

-- these are the oldest record's own, of which an entry keeps this, and these the others
pub record IsOldest (k : Kept) (own others all : Listed) : Type 0 where
  pub is_there : Holds k own
  pub alone : older_in k own ≡ nothing_listed
  pub together : all ≡ joined own others

-- the oldest of the calls is this, after these, and its bytes and lengths stand first
pub record EndsWithCall (call : CallEntry) (newer : List CallEntry) (l : Listed) : Type 0 where
  pub last : l.calls ≡ newer ++ call ∷ []
  pub bytes : call.bytes ≤ length l.bytes
  pub commas : call.commas ≤ length l.commas

-- the lists without it
abbrev pub without_oldest : CallEntry → List CallEntry → Listed → Listed
without_oldest call newer l =
    record l { calls = newer; bytes = drop call.bytes l.bytes; commas = drop call.commas l.commas }

-- what is to be known of a record that is dropped: what it weighs, and how much its step read and printed
pub record IsGone (gone : Gone) (r : Record) : Type 0 where
  pub weighs : gone.weight ≡ weight r
  pub reads : gone.read ≡ read_by r
  pub prints : gone.printed ≡ printed_by r

-- and of a call, beside what it destroyed of forms and blocks
pub record IsGoneCall (gone : Gone) (call : CallEntry) : Type 0 where
  pub weighs : gone.weight ≡ call.bytes + call.commas + meta_weight call.meta
  pub reads : gone.read ≡ call.read
  pub prints : gone.printed ≡ call.printed

-- ---- what the oldest records printed, told by their calls, the oldest first

-- how many of the calls are an entry's own that keeps this
abbrev pub calls_of : Kept → ℕ
calls_of kept.Call = 1
calls_of (kept.Pointed place) = 1
calls_of kept.Changed = 1
calls_of other = 0

-- what the first of these calls printed
abbrev pub printed_at : List CallEntry → ℕ
printed_at [] = 0
printed_at (c ∷ calls) = c.printed

-- what the step printed of whose record an entry keeps this; its call, if it has one, is the first of these
abbrev pub printed_in : Kept → List CallEntry → ℕ
printed_in kept.Call calls = printed_at calls
printed_in (kept.Pointed place) calls = printed_at calls
printed_in kept.Changed calls = printed_at calls
printed_in other calls = 0

-- what the steps of so many of the oldest records printed, of these entries and calls, the oldest first
abbrev pub printed_first : ℕ → List Entry → List CallEntry → ℕ
printed_first count [] calls = 0
printed_first count (e ∷ entries) calls = if nat_le count e.moved then 0
    else (printed_in e.kept calls + printed_first (count - (e.moved + 1)) entries (drop (calls_of e.kept) calls))
