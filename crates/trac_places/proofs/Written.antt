-- What is written of a report, whole or in part.
use Rattle.std.proofs.Common.{ℕ, List, refl}
use Rattle.std.specs.Prelude.{Option}
use Rattle.std.specs.Io.KnownBytes.{Appends, Keeps}
use Rattle.trac_streams.proofs.Known.{Appends-kept, empty_front}
use Rattle.trac_streams.specs.Written.{WritesFront}
use Rattle.trac_places.specs.declared.report.Halt.{Halt}
use Rattle.trac_places.specs.declared.report.Halt.TheVariants.{Write}
use Rattle.trac_places.specs.Findings.{IsReport, IsWritten}

-- all of it, and then nothing
pub all_is_written : (a b c : Option (List ℕ)) (told : ℕ) (text : List ℕ) (halt : Halt) → IsReport told text → Appends a b text → Keeps b c → IsWritten a c (record { told = told; halt = halt })
all_is_written a b c told text halt report gave kept = record {
  written = text;
  gave = Appends-kept a b c text gave kept;
  none = report.none;
  some = λ positive wrote. report.some positive;
}

-- a front of it, by a writer that failed
pub front_is_written : (a b : Option (List ℕ)) (told : ℕ) (text : List ℕ) → IsReport told text → WritesFront a b text → IsWritten a b (record { told = told; halt = Write })
front_is_written a b told text report wrote = record {
  written = wrote.written;
  gave = wrote.gave;
  none = λ zero. empty_front wrote.written text wrote.front (report.none zero);
  some = λ positive other. absurd (other refl);
}
