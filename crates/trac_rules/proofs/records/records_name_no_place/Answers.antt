use Rattle.trac_rules.proofs.FurtherOn.{restored-further_on}
use Rattle.trac_rules.proofs.Restored.{restored-elsewhere}
use Rattle.trac_rules.proofs.records.records_name_no_place.Goals as goal

pub returns : goal.returns
returns c = record { elsewhere = restored-elsewhere; further = restored-further_on }
