use Rattle.std.proofs.Common.{◌≡◌, ◌<◌, ◌^◌, drop}
use Rattle.std.specs.Str.{all_ascii_digits}
use Rattle.std.specs.Str.Parse.{digits_value, digits_value_after}
use Rattle.trac_messages.proofs.header.number_of.Given as goal

-- the digits that are left write the number on
abbrev pub invariant-loop-digit : goal.invariant-loop-digit
invariant-loop-digit l = record {
  value : digits_value_after 10 l.number (drop l.digit-index l.digits) ≡ digits_value 10 l.digits;
  left : all_ascii_digits (drop l.digit-index l.digits) ≡ all_ascii_digits l.digits;
  small : l.number < 10 ^ l.digit-index;
}
