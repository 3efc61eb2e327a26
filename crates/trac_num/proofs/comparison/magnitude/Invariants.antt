use Rattle.std.proofs.Common.{◌≡◌, ◌≤◌, ◌-◌, length, drop}
use Rattle.std.specs.Str.Parse.{digits_value}
use Rattle.trac_num.proofs.comparison.magnitude.Given as goal

-- the digits from the place on write the same number
abbrev pub invariant-loop-place : goal.invariant-loop-place
invariant-loop-place l = record {
  within : l.place ≤ length l.digits;
  value : digits_value 10 (drop l.place l.digits) ≡ digits_value 10 l.digits;
}

abbrev pub decreases-loop-place : goal.decreases-loop-place
decreases-loop-place l = length l.digits - l.place
