use Rattle.std.proofs.Common.{◌≡◌, ◌++◌, map}
use Rattle.trac_forms.specs.Table.{full_keys}
use Rattle.trac_forms.proofs.store.full_names.Given as goal

abbrev pub invariant-loop-name : goal.invariant-loop-name
invariant-loop-name g l = map (λ name. name.now) l.names.items ++ full_keys l.name-iterator ≡ full_keys l.table.entries
