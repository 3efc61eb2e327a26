-- From here on there are octal digits alone.
use Rattle.std.proofs.Common.{◌≤◌, length, drop}
use Rattle.trac_rules.specs.Octal.{IsOctal}
use Rattle.trac_num.proofs.octal.octal_tail.Given as goal

abbrev pub invariant-loop-from : goal.invariant-loop-from
invariant-loop-from l = record { within : l.from ≤ length l.text; octal : IsOctal (drop l.from l.text) }

abbrev pub decreases-loop-from : goal.decreases-loop-from
decreases-loop-from l = l.from
