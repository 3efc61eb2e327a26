use Rattle.std.proofs.Common.{◌≡◌, ◌≤◌, length, take}
use Rattle.trac_rules.specs.Showing.{shown_items}
use Rattle.trac_forms.proofs.showing.items_len.Given as goal

abbrev pub invariant-loop-item : goal.invariant-loop-item
invariant-loop-item l = (l.total ≡ length (shown_items (take l.item-index l.items))) × (l.total ≤ l.most)
