use Rattle.trac_origins.proofs.ToldSteps.{scanning_idle, scanning_idle_stays, scanning_moved, scanning_rest, scanning_stays}
use Rattle.trac_origins.proofs.lengths.scanning_is_told_by_lengths.Goals as goal

pub returns : goal.returns
returns c = record { rest = scanning_rest; stays = scanning_stays; moved = scanning_moved; idle = scanning_idle; idle_stays = scanning_idle_stays }
