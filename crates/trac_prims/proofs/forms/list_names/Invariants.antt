-- The names that were put so far.
use Rattle.std.proofs.Common.{◌≡◌, ◌++◌, take, flat_map}
use Rattle.trac_prims.proofs.forms.list_names.Given as goal

abbrev pub invariant-loop-name : goal.invariant-loop-name
invariant-loop-name g l =
    (l.made.value.items ≡ l.fn.made.value.items ++ flat_map (λ name. l.text ++ name.now) (take l.name-index l.names)) × (l.made.print ≡ l.fn.made.print)
