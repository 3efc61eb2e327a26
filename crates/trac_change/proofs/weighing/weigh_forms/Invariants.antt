-- The forms so far, and those that are left, weigh as much as all.
use Rattle.std.proofs.Common.{◌≡◌, ◌+◌, drop}
use Rattle.trac_rules.specs.Weights.{held_weight}
use Rattle.trac_change.specs.Changed.{named_forms}
use Rattle.trac_change.proofs.weighing.weigh_forms.Given as goal

abbrev pub invariant-loop-name : goal.invariant-loop-name
invariant-loop-name g l = l.weight + held_weight (named_forms (drop l.name-index l.forms)) ≡ held_weight (named_forms l.forms)
