-- What was counted so far.
use Rattle.std.proofs.Common.{◌≡◌, ◌≤◌, ◌++◌, length, take, flat_map}
use Rattle.trac_rules.specs.declared.limit.TheConstants.{TEXT_LIMIT}
use Rattle.trac_prims.proofs.forms.list_len.Given as goal

abbrev pub invariant-loop-name : goal.invariant-loop-name
invariant-loop-name l = (l.total ≡ length (flat_map (λ name. l.text ++ name.now) (take l.name-index l.names))) × (l.total ≤ TEXT_LIMIT)
