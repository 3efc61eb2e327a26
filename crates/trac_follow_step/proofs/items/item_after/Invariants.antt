-- What is left to be passed.
use Rattle.std.proofs.Common.{◌≡◌, ◌+◌, take}
use Rattle.trac_rules.specs.Form.{all_items, extent}
use Rattle.trac_follow_step.proofs.items.item_after.Given as goal

abbrev pub invariant-loop-place : goal.invariant-loop-place
invariant-loop-place g l = l.left + extent (take l.place (all_items l.form)) ≡ l.bytes
