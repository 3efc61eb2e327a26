use Rattle.std.proofs.Common.{◌≡◌, ◌-◌, ◌++◌, take, drop}
use Rattle.trac_rules.specs.Form.{all_items}
use Rattle.trac_state_lines.specs.StateLines.{escaped_items}
use Rattle.trac_state_lines.proofs.form_lines.items_into.Given as goal

-- what is shown so far
abbrev pub invariant-loop-place : goal.invariant-loop-place
invariant-loop-place g l = l.out.items ≡ l.fn.out.items ++ escaped_items (take (l.place - l.fn.from) (drop l.fn.from (all_items l.fn.form)))
