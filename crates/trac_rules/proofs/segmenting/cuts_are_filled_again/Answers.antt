use Rattle.trac_rules.proofs.Cuts.{count_is, cut_joined, joined_extent, joined_wide, made_is}
use Rattle.trac_rules.proofs.segmenting.cuts_are_filled_again.Goals as goal

pub returns : goal.returns
returns c = record { back = cut_joined; count = count_is; made = made_is; extent = joined_extent; wide = joined_wide }
