use Rattle.trac_rules.proofs.Cutting.{part_found, part_without, part_null}
use Rattle.trac_rules.proofs.segmenting.leftmost_is_cut_first.Goals as goal

pub returns : goal.returns
returns c = record { cut = part_found; nowhere = part_without; null = part_null }
