-- What a faulty reader gives, and when it fails.
use Rattle.std.specs.Prelude.{◌≡◌, ℕ, ◌^◌, ◌-◌, Bool, true, false, ◌&&◌, ◌||◌, ◌==◌, not, if◌then◌else◌, nat_lt, min}
use Rattle.std.specs.Prelude.{max, List, length, None, Some}
use Rattle.std.specs.Borrow.{Bor}
use Rattle.std.specs.declared.io.ErrorKind.{ErrorKind}
use Rattle.std.specs.declared.io.ErrorKind.TheVariants.{Other}
use Rattle.trac_faults.specs.declared.faulty_reader.FaultyReader.{FaultyReader}
use Rattle.trac_faults.specs.Lines.{first_line_len}
use Rattle.trac_faults.specs.Schedule.{counted, is_chosen}

-- the bytes that no call has given yet
abbrev pub bytes_left : FaultyReader → List ℕ
bytes_left r = r.rest.now

-- how many calls were made
abbrev pub read_count : FaultyReader → ℕ
read_count r = r.reads

-- what sort of error a failed call answers
abbrev pub kind_of : FaultyReader → ErrorKind
kind_of r = r.kind

-- a reader that gives as much as there is room for, and never fails
abbrev pub first_reader : Bor (List ℕ) → FaultyReader
first_reader bytes = record {
  rest = bytes;
  most = 2 ^ 64 - 1;
  by_lines = false;
  reads = 0;
  fails_at = None;
  fails_at_end = false;
  kind = Other;
}

-- the same reader with one option changed
abbrev pub with_most : FaultyReader → ℕ → FaultyReader
with_most r most = record r { most = most }

abbrev pub with_lines : FaultyReader → FaultyReader
with_lines r = record r { by_lines = true }

abbrev pub with_fault : FaultyReader → ℕ → FaultyReader
with_fault r call = record r { fails_at = Some call }

abbrev pub with_fault_at_end : FaultyReader → FaultyReader
with_fault_at_end r = record r { fails_at_end = true }

abbrev pub with_kind : FaultyReader → ErrorKind → FaultyReader
with_kind r kind = record r { kind = kind }

-- whether the next call fails by its number
abbrev pub fails_by_number : FaultyReader → Bool
fails_by_number r = is_chosen r.fails_at (counted r.reads)

-- whether the next call fails since it would see the end
abbrev pub fails_by_end : FaultyReader → ℕ → Bool
fails_by_end r room = r.fails_at_end && (length r.rest.now == 0) && nat_lt 0 room

-- whether the next call fails, with room for so many bytes
abbrev pub fails_next : FaultyReader → ℕ → Bool
fails_next r room = fails_by_number r || fails_by_end r room

-- how many bytes may be given at once, whatever the other options
abbrev pub piece_len : FaultyReader → ℕ
piece_len r = if r.by_lines then first_line_len r.rest.now else length r.rest.now

-- how many bytes the next call gives if it does not fail
abbrev pub given_count : FaultyReader → ℕ → ℕ
given_count r room = min (min (piece_len r) (max r.most 1)) room

-- the call is counted, a fault at the end comes once, and the other options stay
pub record IsAfterRead (old new : FaultyReader) (room : ℕ) : Type 0 where
  pub reads : new.reads ≡ counted old.reads
  pub most : new.most ≡ old.most
  pub by_lines : new.by_lines ≡ old.by_lines
  pub fails_at : new.fails_at ≡ old.fails_at
  pub fails_at_end : new.fails_at_end ≡ (old.fails_at_end && (fails_by_number old || not (fails_by_end old room)))
  pub kind : new.kind ≡ old.kind
