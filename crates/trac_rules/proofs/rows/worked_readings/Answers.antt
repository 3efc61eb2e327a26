-- Each clause is computed with the forms in a list.
use Rattle.std.proofs.Common.{rules}
use Rattle.trac_rules.proofs.FormCalls.{does, does_in, forces_in, forces_value}
use Rattle.trac_rules.proofs.Opened.{number_of, numeral_of, whole_number}
use Rattle.trac_rules.proofs.rows.worked_readings.Goals as goal

pub returns : goal.returns
unfolding number_of numeral_of whole_number
returns c = search (rules, does, does_in, forces_in, forces_value)
