use Rattle.std.proofs.Common.{◌≡◌, ◌+◌, ◌++◌, ◌≤◌, drop, length}
use Rattle.trac_gap.specs.Ends.{item_count}
use Rattle.trac_rules.specs.Form.{as_items}
use Rattle.trac_forms.proofs.packing.put_text.Given as goal

abbrev pub invariant-chunks : goal.invariant-chunks
invariant-chunks g l = record {
  put : l.items.left ++ as_items l.rest ≡ l.fn.items.left ++ as_items l.text;
  right : l.items.right ≡ l.fn.items.right;
  capacity : l.items.capacity ≡ l.fn.items.capacity;
  room : item_count l.items + length l.rest ≤ l.items.capacity;
}

abbrev pub decreases-chunks : goal.decreases-chunks
decreases-chunks g l = length l.rest

abbrev pub invariant-loop-b : goal.invariant-loop-b
invariant-loop-b g l = record {
  put : l.items.left ++ as_items (drop l.b-index l.b-items) ≡ l.fn.items.left ++ as_items l.text;
  right : l.items.right ≡ l.fn.items.right;
  capacity : l.items.capacity ≡ l.fn.items.capacity;
  room : item_count l.items + length (drop l.b-index l.b-items) ≤ l.items.capacity;
}
