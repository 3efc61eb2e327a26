-- The functions so far, and those that are left, weigh as much as all.
use Rattle.std.proofs.Common.{◌≡◌, ◌+◌, drop}
use Rattle.trac_rules.specs.Weights.{frames_weight}
use Rattle.trac_text.specs.Pieces.{frames_in}
use Rattle.trac_journal.proofs.emptied_weight.weigh_functions.Given as goal

abbrev pub invariant-loop-function : goal.invariant-loop-function
invariant-loop-function g l = l.weight + frames_weight (frames_in (drop l.function-index l.functions)) ≡ frames_weight (frames_in l.functions)
