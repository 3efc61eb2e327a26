-- What a faulty writer takes, and when it fails.
use Rattle.std.specs.Prelude.{◌≡◌, ℕ, ◌^◌, ◌-◌, Bool, min, if◌then◌else◌, List, [], None, Some, vec_items}
use Rattle.std.specs.declared.io.ErrorKind.{ErrorKind}
use Rattle.std.specs.declared.io.ErrorKind.TheVariants.{Other}
use Rattle.trac_faults.specs.declared.faulty_writer.FaultyWriter.{FaultyWriter}
use Rattle.trac_faults.specs.Schedule.{counted, is_chosen}

-- the bytes that it took, in order
abbrev pub bytes_taken : {A : Type 0} → FaultyWriter A → List ℕ
bytes_taken w = vec_items w.taken

-- how many calls of `write`, and of `flush`, were made
abbrev pub write_count : {A : Type 0} → FaultyWriter A → ℕ
write_count w = w.writes

abbrev pub flush_count : {A : Type 0} → FaultyWriter A → ℕ
flush_count w = w.flushes

-- what sort of error a failed call answers
abbrev pub kind_of : {A : Type 0} → FaultyWriter A → ErrorKind
kind_of w = w.kind

-- a writer that holds nothing, takes whole texts and has no fault to come
pub record IsFirstWriter {A : Type 0} (w : FaultyWriter A) : Type 0 where
  pub taken : vec_items w.taken ≡ []
  pub most : w.most ≡ 2 ^ 64 - 1
  pub writes : w.writes ≡ 0
  pub flushes : w.flushes ≡ 0
  pub fails_at : w.fails_at ≡ None
  pub takes_none_at : w.takes_none_at ≡ None
  pub flush_fails_at : w.flush_fails_at ≡ None
  pub kind : w.kind ≡ Other

-- the same writer with one option changed
abbrev pub with_most : {A : Type 0} → FaultyWriter A → ℕ → FaultyWriter A
with_most w most = record w { most = most }

abbrev pub with_fault : {A : Type 0} → FaultyWriter A → ℕ → FaultyWriter A
with_fault w write = record w { fails_at = Some write }

abbrev pub with_empty_write : {A : Type 0} → FaultyWriter A → ℕ → FaultyWriter A
with_empty_write w write = record w { takes_none_at = Some write }

abbrev pub with_flush_fault : {A : Type 0} → FaultyWriter A → ℕ → FaultyWriter A
with_flush_fault w flush = record w { flush_fails_at = Some flush }

abbrev pub with_kind : {A : Type 0} → FaultyWriter A → ErrorKind → FaultyWriter A
with_kind w kind = record w { kind = kind }

-- whether the next call of `write`, and of `flush`, fails by its number
abbrev pub write_fails_next : {A : Type 0} → FaultyWriter A → Bool
write_fails_next w = is_chosen w.fails_at (counted w.writes)

abbrev pub flush_fails_next : {A : Type 0} → FaultyWriter A → Bool
flush_fails_next w = is_chosen w.flush_fails_at (counted w.flushes)

-- how many bytes of a text of this length the next call takes if it does not fail
abbrev pub taken_count : {A : Type 0} → FaultyWriter A → ℕ → ℕ
taken_count w n = if is_chosen w.takes_none_at (counted w.writes) then 0 else min n w.most

-- a call leaves the options as they were
pub record KeepsOptions {A : Type 0} (old new : FaultyWriter A) : Type 0 where
  pub most : new.most ≡ old.most
  pub fails_at : new.fails_at ≡ old.fails_at
  pub takes_none_at : new.takes_none_at ≡ old.takes_none_at
  pub flush_fails_at : new.flush_fails_at ≡ old.flush_fails_at
  pub kind : new.kind ≡ old.kind

-- a write is counted as a write, and a flush as a flush
pub record IsAfterWrite {A : Type 0} (old new : FaultyWriter A) : Type 0 where
  pub writes : new.writes ≡ counted old.writes
  pub flushes : new.flushes ≡ old.flushes
  pub options : KeepsOptions old new

pub record IsAfterFlush {A : Type 0} (old new : FaultyWriter A) : Type 0 where
  pub writes : new.writes ≡ old.writes
  pub flushes : new.flushes ≡ counted old.flushes
  pub options : KeepsOptions old new
