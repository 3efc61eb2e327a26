use Rattle.std.proofs.Common.{◌≡◌, ◌++◌, drop}
use Rattle.trac_rules.specs.Form.{all_items}
use Rattle.trac_rules.specs.Segmenting.{runs_of}
use Rattle.trac_rules.specs.Doubts.{nowhere_from}
use Rattle.trac_doubts.proofs.texts.nowhere_into.Given as goal

abbrev pub invariant-loop-k : goal.invariant-loop-k
invariant-loop-k g l =
    l.out.items ++ nowhere_from l.k (drop l.k l.args) (runs_of (all_items l.form))
    ≡ l.initial.out.items ++ nowhere_from 2 (drop 2 l.args) (runs_of (all_items l.form))
