-- What was counted so far.
use Rattle.std.proofs.Common.{◌≡◌, take}
use Rattle.trac_rules.specs.Form.{all_items, extent}
use Rattle.trac_follow_step.proofs.items.extent_before.Given as goal

abbrev pub invariant-loop-i : goal.invariant-loop-i
invariant-loop-i g l = l.bytes ≡ extent (take l.i (all_items l.form))
