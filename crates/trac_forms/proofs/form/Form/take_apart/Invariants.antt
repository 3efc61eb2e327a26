use Rattle.std.proofs.Common.{take}
use Rattle.trac_rules.specs.Form.{all_items}
use Rattle.trac_items.proofs.RunGaps.{IsRead}
use Rattle.trac_forms.proofs.form.Form.take_apart.Given as goal

abbrev pub invariant-loop-i : goal.invariant-loop-i
invariant-loop-i g l = IsRead (take l.i (all_items l.self)) l.run.items l.gaps.items l.before
