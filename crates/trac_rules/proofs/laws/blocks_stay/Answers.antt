use Rattle.trac_rules.proofs.BlocksStay as stay
use Rattle.trac_rules.proofs.laws.blocks_stay.Goals as goal

pub returns : goal.returns
returns c = stay.blocks_stay
