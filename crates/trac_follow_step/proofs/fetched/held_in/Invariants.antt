-- What is left of the block decides.
use Rattle.std.proofs.Common.{◌≡◌, drop}
use Rattle.std.specs.List.{list_any}
use Rattle.trac_follow_step.specs.Fetched.{is_entry}
use Rattle.trac_follow_step.proofs.fetched.held_in.Given as goal

abbrev pub invariant-loop-i : goal.invariant-loop-i
invariant-loop-i g l = list_any (is_entry l.name) (drop l.i l.block.held) ≡ list_any (is_entry l.name) l.block.held
