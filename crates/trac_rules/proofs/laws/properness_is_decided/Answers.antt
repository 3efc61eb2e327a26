use Rattle.trac_rules.proofs.ProperDecided.{proper_decided}
use Rattle.trac_rules.proofs.laws.properness_is_decided.Goals as goal

pub returns : goal.returns
returns c = record { sufficient = λ s. (proper_decided s).0; necessary = λ s. (proper_decided s).1 }
