use Rattle.trac_rules.proofs.Calculated.{quotient_is_cut}
use Rattle.trac_rules.proofs.numbers.quotient_is_cut.Goals as goal

pub returns : goal.returns
returns c = quotient_is_cut
