use Rattle.std.proofs.Common.{rules}
use Rattle.trac_origins.proofs.ToldValues.{bits_told, byte_told, default_told, digits_told, equal_told, greater_told, prefix_told, string_told}
use Rattle.trac_origins.proofs.lengths.values_are_told_by_lengths.Goals as goal

pub returns : goal.returns
returns c = search (rules, bits_told, byte_told, default_told, digits_told, equal_told, greater_told, prefix_told, string_told)
