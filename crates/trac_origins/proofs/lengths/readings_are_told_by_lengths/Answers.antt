use Rattle.std.proofs.Common.{rules}
use Rattle.trac_origins.proofs.ToldValues.{called_told, filled_told, listed_told, name_told, other_told, piece_told}
use Rattle.trac_origins.proofs.lengths.readings_are_told_by_lengths.Goals as goal

pub returns : goal.returns
returns c = search (rules, called_told, filled_told, listed_told, name_told, other_told, piece_told)
