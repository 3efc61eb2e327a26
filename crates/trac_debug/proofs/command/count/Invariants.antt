use Rattle.std.proofs.Common.{◌≡◌, ◌<◌, ◌^◌, true, take}
use Rattle.std.specs.Str.{all_ascii_digits}
use Rattle.std.specs.Str.Parse.{digits_value}
use Rattle.trac_debug.proofs.command.count.Given as goal

-- the number that the digits so far write
abbrev pub invariant-loop-byte : goal.invariant-loop-byte
invariant-loop-byte l = record {
  value : l.number ≡ digits_value 10 (take l.byte-index l.word);
  digits : all_ascii_digits (take l.byte-index l.word) ≡ true;
  small : l.number < 10 ^ l.byte-index;
}
