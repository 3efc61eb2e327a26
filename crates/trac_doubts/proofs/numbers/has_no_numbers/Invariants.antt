use Rattle.std.proofs.Common.{◌≡◌, [], take}
use Rattle.std.specs.List.{filter}
use Rattle.trac_rules.specs.Effect.{argument}
use Rattle.trac_rules.specs.Doubts.{has_no_number}
use Rattle.trac_doubts.proofs.numbers.has_no_numbers.Given as goal

abbrev pub invariant-loop-k : goal.invariant-loop-k
invariant-loop-k l = filter (λ k. has_no_number (argument k l.args)) (take l.k-index l.k-items) ≡ []
