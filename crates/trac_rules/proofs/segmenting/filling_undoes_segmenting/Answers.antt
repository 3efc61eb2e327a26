use Rattle.trac_rules.proofs.Cutting.{filled-segmented}
use Rattle.trac_rules.proofs.segmenting.filling_undoes_segmenting.Goals as goal

pub returns : goal.returns
returns c = filled-segmented
