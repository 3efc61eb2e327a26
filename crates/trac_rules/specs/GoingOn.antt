-- What a run still writes from a session, however its input goes on.
use Rattle.std.specs.Prelude.{ℕ, List, ◌++◌, true}
use Rattle.trac_rules.specs.State.{Tape}
use Rattle.trac_rules.specs.Session.{PlainSession, over}
use Rattle.trac_rules.specs.Running.{Output, output_from}

-- the tape once this much more is fed, and the end
abbrev pub whole : Tape → List ℕ → Tape
whole tape more = record { bytes = tape.bytes ++ more; ended = true }

-- an output with a text before it
abbrev pub prepended : List ℕ → Output → Output
prepended text o = record { bytes = text ++ o.bytes; stop = o.stop }

-- what a run of at most n more steps still writes from here, its pending output first
abbrev pub going_on_from : PlainSession → List ℕ → ℕ → Output
going_on_from p more n = prepended p.last.output (output_from n (over p.width (whole p.tape more)) p.last)
