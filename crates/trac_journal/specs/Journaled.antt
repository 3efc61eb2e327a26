-- A journal as its fields show it.
use Rattle.std.specs.List.{All}
use Rattle.std.specs.Prelude.{◌≡◌, ℕ, ◌≤◌, ◌^◌, List, [], ◌∷◌, ◌++◌, length, replicate}
use Rattle.trac_rules.specs.Records.{Record, Moved}
use Rattle.trac_rules.specs.Weights.{weight}
use Rattle.trac_journal.specs.Listed.{Listed, Holds, newest_in, nothing_listed, older_in}
use Rattle.trac_journal.specs.Told.{sum_by}
use Rattle.trac_journal.specs.declared.entry.Entry.{Entry}

-- how much more the lists have places for: calls, bytes and lengths of their arguments, what was
-- destroyed, and what was emptied
pub record Room : Type 0 where
  pub calls : ℕ
  pub bytes : ℕ
  pub commas : ℕ
  pub undone : ℕ
  pub emptied : ℕ

-- the lists as they are seen
pub record Lists : Type 0 where
  pub listed : Listed
  pub room : Room

-- a journal as it is seen: its records, the newest first; how many more entries have a place; and the room in its lists
pub record Journaled : Type 0 where
  pub records : List Record
  pub places : ℕ
  pub room : Room

-- there is room for a call with so many bytes and commas
pub record HasRoom (len count : ℕ) (room : Room) : Type 0 where
  pub calls : 1 ≤ room.calls
  pub bytes : len ≤ room.bytes
  pub commas : count ≤ room.commas
  pub undone : 1 ≤ room.undone

-- there is room for the record of such a call in a journal
pub record HasPlaceForCall (len count : ℕ) (j : Journaled) : Type 0 where
  pub place : 1 ≤ j.places
  pub lists : HasRoom len count j.room

-- and for that of an idle step
pub record HasPlaceForIdle (j : Journaled) : Type 0 where
  pub place : 1 ≤ j.places
  pub emptied : 1 ≤ j.room.emptied

-- the records of so many moved bytes, and then those of entries, the newest first, with the lists in which they stand
abbrev pub unpacked : ℕ → List Entry → Listed → List Record
unpacked moved [] l = replicate moved Moved
unpacked moved (entry ∷ entries) l =
    replicate moved Moved ++ newest_in entry.kept l ∷ unpacked entry.moved entries (older_in entry.kept l)

-- each entry has its own in the lists, the newest entry first, and nothing else stands there
abbrev pub AreListed : List Entry → Listed → Type 0
AreListed [] l = l ≡ nothing_listed
AreListed (entry ∷ entries) l = Holds entry.kept l × AreListed entries (older_in entry.kept l)

-- no record weighs more than a step from a proper state may destroy
abbrev pub IsLight : Record → Type 0
IsLight r = weight r ≤ 2 ^ 42

-- so many records there are, and they weigh so much together
pub record AreCounted (records : List Record) (count weighed : ℕ) : Type 0 where
  pub all : count ≡ length records
  pub together : weighed ≡ sum_by weight records
  pub light : All IsLight records
