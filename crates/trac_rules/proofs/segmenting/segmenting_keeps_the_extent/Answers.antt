use Rattle.trac_rules.proofs.Cutting.{extent-segmented}
use Rattle.trac_rules.proofs.segmenting.segmenting_keeps_the_extent.Goals as goal

pub returns : goal.returns
returns c = extent-segmented
