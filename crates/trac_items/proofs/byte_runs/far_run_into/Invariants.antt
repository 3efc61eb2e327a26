use Rattle.std.proofs.Common.{length, ◌-◌}
use Rattle.std.specs.Prelude.{vec_len, vec_capacity}
use Rattle.trac_items.proofs.ByteRuns.{IsRead}
use Rattle.trac_items.proofs.byte_runs.far_run_into.Given as goal

abbrev pub invariant-chunks : goal.invariant-chunks
invariant-chunks g l = IsRead l.items l.run l.fn.out.items l.out.items (vec_len l.out) (vec_capacity l.out)

abbrev pub decreases-chunks : goal.decreases-chunks
decreases-chunks g l = length l.items - l.run
