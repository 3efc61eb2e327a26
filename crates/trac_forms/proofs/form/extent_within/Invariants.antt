use Rattle.std.proofs.Common.{◌≡◌, ◌≤◌, take}
use Rattle.trac_rules.specs.Form.{extent}
use Rattle.trac_forms.proofs.form.extent_within.Given as goal

abbrev pub invariant-loop-item : goal.invariant-loop-item
invariant-loop-item l = (l.total ≡ extent (take l.item-index l.items)) × (l.total ≤ l.most)
