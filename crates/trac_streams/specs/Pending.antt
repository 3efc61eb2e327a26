-- Bytes of a text that were read.
use Rattle.std.specs.Prelude.{ℕ, List, Bool, refl}
use Rattle.std.specs.Coded.{Coded, code_by, coded×, coded_bool}
use Rattle.trac_rules.specs.Codes.{text_code}

-- bytes that were read and are not taken yet, and whether the text ends after them
pub record Pending : Type 0 where
  pub bytes : List ℕ
  pub ended : Bool

abbrev pub pending_code : Coded Pending
pending_code = code_by (List ℕ × Bool) (coded× text_code coded_bool) (λ p. (p.bytes, p.ended))
    (λ p. record { bytes = p.0; ended = p.1 }) (λ _. refl)
