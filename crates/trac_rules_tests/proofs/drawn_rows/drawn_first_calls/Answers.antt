-- Each clause is computed with the forms in a list.
use Rattle.std.proofs.Common.{rules}
use Rattle.trac_rules.proofs.FormCalls.{does, does_in, forces_value}
use Rattle.trac_rules.proofs.Opened.{cut_out, digits, number_of, numeral_of, part, whole_number}
use Rattle.trac_rules_tests.proofs.drawn_rows.drawn_first_calls.Goals as goal

pub returns : goal.returns
unfolding part cut_out digits number_of numeral_of whole_number
returns c = search (rules, does, does_in, forces_value)
