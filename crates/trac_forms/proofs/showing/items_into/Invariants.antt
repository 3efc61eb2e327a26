use Rattle.std.proofs.Common.{◌≡◌, ◌++◌, take}
use Rattle.trac_rules.specs.Showing.{shown_items}
use Rattle.trac_forms.proofs.showing.items_into.Given as goal

abbrev pub invariant-loop-item : goal.invariant-loop-item
invariant-loop-item g l = l.out.items ≡ l.fn.out.items ++ shown_items (take l.item-index l.items)
