-- The code of a session, by which a proof tells two sessions apart. Nothing of the language stands here.
use Rattle.std.specs.Prelude.{ℕ, List, refl}
use Rattle.std.specs.Coded.{Coded, code_by, coded×, coded_list, coded_ℕ}
use Rattle.trac_rules.specs.declared.width.Width.{Width}
use Rattle.trac_rules.specs.State.{State, Tape}
use Rattle.trac_rules.specs.Session.{PlainSession}
use Rattle.trac_rules.specs.Codes.{state_code, tape_code, width_code}

abbrev pub session_code : Coded PlainSession
session_code =
    code_by
    (ℕ × (Width × (Tape × (List State × State))))
    (coded× coded_ℕ (coded× width_code (coded× tape_code (coded× (coded_list state_code) state_code))))
    (λ s. (s.limit, (s.width, (s.tape, (s.earlier, s.last)))))
    (λ p. record { limit = p.0; width = p.1.0; tape = p.1.1.0; earlier = p.1.1.1.0; last = p.1.1.1.1 })
    (λ _. refl)
