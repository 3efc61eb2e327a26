use Rattle.std.proofs.Common.{◌≡◌, ◌++◌, take}
use Rattle.std.specs.FinMap as finite
use Rattle.std.specs.Prelude.{codes}
use Rattle.std.specs.List.{flat_map}
use Rattle.trac_state_lines.specs.StateLines.{form_line}
use Rattle.trac_state_lines.proofs.states.forms_into.Given as goal

-- the forms so far are shown
abbrev pub invariant-loop-name : goal.invariant-loop-name
invariant-loop-name g l = l.out.items ≡ l.fn.out.items ++ flat_map (form_line (codes "form")) (take l.name-index (finite.entries l.store.forms))
