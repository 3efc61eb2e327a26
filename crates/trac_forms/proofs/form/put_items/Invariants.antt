use Rattle.std.proofs.Common.{◌≡◌, ◌++◌, take}
use Rattle.trac_forms.proofs.form.put_items.Given as goal

abbrev pub invariant-loop-item : goal.invariant-loop-item
invariant-loop-item g l = l.items ≡ record l.fn.items { left = l.fn.items.left ++ take l.item-index l.from }
