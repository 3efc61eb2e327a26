use Rattle.trac_rules.proofs.Numerals.{prefix_and_numeral, numeral_or_null, no_longer_numeral}
use Rattle.trac_rules.proofs.numbers.numeral_is_longest.Goals as goal

pub returns : goal.returns
returns c = record { parts = prefix_and_numeral; form = numeral_or_null; longest = no_longer_numeral }
