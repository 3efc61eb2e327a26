use Rattle.std.proofs.Common.{◌≡◌, ◌≤◌, length, drop, true}
use Rattle.std.specs.Str.{all_ascii_digits}
use Rattle.trac_num.proofs.tail.numeral_place.Given as goal

-- from there on there are digits alone
abbrev pub invariant-loop-digits : goal.invariant-loop-digits
invariant-loop-digits l = record { within : l.digits ≤ length l.text; digits : all_ascii_digits (drop l.digits l.text) ≡ true }

abbrev pub decreases-loop-digits : goal.decreases-loop-digits
decreases-loop-digits l = l.digits
