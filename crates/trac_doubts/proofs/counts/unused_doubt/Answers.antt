use Rattle.std.proofs.Common.{rules}
use Rattle.trac_doubts.proofs.counts.unused_doubt.Goals as goal

pub returns : goal.returns
returns g c = search rules
