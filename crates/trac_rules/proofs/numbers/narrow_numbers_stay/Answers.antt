use Rattle.trac_rules.proofs.Calculated.{narrow_fits, narrow_number, narrow_result}
use Rattle.trac_rules.proofs.numbers.narrow_numbers_stay.Goals as goal

pub returns : goal.returns
returns c = record { fitting = narrow_fits; read = narrow_number; calculated = narrow_result }
