use Rattle.std.proofs.Common.{◌≡◌, length, take}
use Rattle.trac_rules.specs.Form.{as_items}
use Rattle.trac_forms.specs.declared.packing.TheConstants.{CHUNK}
use Rattle.trac_forms.proofs.packing.packed.Given as goal

abbrev pub invariant-loop-i : goal.invariant-loop-i
invariant-loop-i l = record {
  so_far : take l.i l.items ≡ as_items (take l.i l.bytes);
  all : length l.items ≡ CHUNK;
}
