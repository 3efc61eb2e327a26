use Rattle.std.proofs.Common.{length, ◌-◌}
use Rattle.std.specs.Prelude.{vec_len, vec_capacity}
use Rattle.trac_items.proofs.ByteRuns.{IsRead}
use Rattle.trac_items.proofs.byte_runs.first_run_into.Given as goal

abbrev pub invariant-groups : goal.invariant-groups
invariant-groups g l = IsRead l.items l.run l.fn.out.items l.out.items (vec_len l.out) (vec_capacity l.out)

abbrev pub decreases-groups : goal.decreases-groups
decreases-groups g l = length l.items - l.run

abbrev pub invariant-items : goal.invariant-items
invariant-items g l = IsRead l.items l.run l.fn.out.items l.out.items (vec_len l.out) (vec_capacity l.out)

abbrev pub decreases-items : goal.decreases-items
decreases-items g l = length l.items - l.run
