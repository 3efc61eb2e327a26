use Rattle.trac_rules.proofs.Bounded.{loss_bounded, losses_bounded, weights_within_losses}
use Rattle.trac_rules.proofs.CallsWeighed.{record_weighs, step_weight_within}
use Rattle.trac_rules.proofs.records.weights_are_told_by_states.Goals as goal

pub returns : goal.returns
returns c = record { of_records = record_weighs; within = step_weight_within; together = weights_within_losses; bounded = loss_bounded; all_bounded = losses_bounded }
