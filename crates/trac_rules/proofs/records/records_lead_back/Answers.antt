-- The laws are those of `CallsBack`, `Restored` and `StepsBack`.
use Rattle.trac_rules.proofs.CallsBack.{record_is_there, record_leads_back}
use Rattle.trac_rules.proofs.Restored.{before_proper}
use Rattle.trac_rules.proofs.StepsBack.{steps_go_back}
use Rattle.trac_rules.proofs.records.records_lead_back.Goals as goal

pub returns : goal.returns
returns c = record { is_there = record_is_there; each_step = record_leads_back; only_proper = before_proper; all_steps = steps_go_back }
