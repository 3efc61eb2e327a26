use Rattle.std.proofs.Common.{refl}
use Rattle.trac_walk.proofs.SaidOfWays.{tells_no_more}
use Rattle.trac_walk.proofs.calls_told.WayWitness.passed.Goals as goal

pub returns-then-count-ge-LINE_COUNT-clause-ok : goal.returns-then-count-ge-LINE_COUNT-clause-ok
returns-then-count-ge-LINE_COUNT-clause-ok g c =
    tells_no_more c.args.self.now _ _ refl c.saturating_add-count.ensures c.if-count-ge-LINE_COUNT.true c.truncate.ensures.items
