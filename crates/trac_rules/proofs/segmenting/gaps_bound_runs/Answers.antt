use Rattle.trac_rules.proofs.Cutting.{cut_out_gap, cut_out_last}
use Rattle.trac_rules.proofs.segmenting.gaps_bound_runs.Goals as goal

pub returns : goal.returns
returns c = record { gap = cut_out_gap; last = cut_out_last }
