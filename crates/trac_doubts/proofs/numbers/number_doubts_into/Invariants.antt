use Rattle.std.proofs.Common.{◌≡◌, ◌++◌, map, take}
use Rattle.std.specs.List.{filter}
use Rattle.trac_rules.specs.Effect.{argument}
use Rattle.trac_rules.specs.declared.doubt.Doubt.TheVariants.{NoNumber}
use Rattle.trac_rules.specs.Doubts.{has_no_number}
use Rattle.trac_doubts.proofs.numbers.number_doubts_into.Given as goal

abbrev pub invariant-loop-k : goal.invariant-loop-k
invariant-loop-k g l = l.out.items ≡ l.initial.out.items ++ map NoNumber (filter (λ k. has_no_number (argument k l.args)) (take l.k-index l.k-items))
