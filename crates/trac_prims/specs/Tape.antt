-- A tape as the definitions see it.
use Rattle.trac_rules.specs.declared.width.Width.{Width}
use Rattle.trac_rules.specs.State.{Environment, Tape}
use Rattle.trac_prims.specs.declared.tape.Tape as code

abbrev pub tape_of : code.Tape → Tape
tape_of t = record { bytes = t.bytes.now; ended = t.ended }

-- what a step over this tape is given beside the state, if numbers are of this width
abbrev pub environment_of : Width → code.Tape → Environment
environment_of width t = record { tape = tape_of t; width = width }
