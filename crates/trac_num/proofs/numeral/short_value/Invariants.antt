-- The number that the digits so far write.
use Rattle.std.proofs.Common.{◌≡◌, take}
use Rattle.std.specs.Str.Parse.{digits_value}
use Rattle.trac_num.proofs.numeral.short_value.Given as goal

abbrev pub invariant-loop-digit : goal.invariant-loop-digit
invariant-loop-digit l = l.sum ≡ digits_value 10 (take l.digit-index l.digits)
