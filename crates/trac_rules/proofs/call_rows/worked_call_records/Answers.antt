-- Each clause is computed from the definitions.
use Rattle.std.proofs.Common.{rules}
use Rattle.trac_rules.proofs.Opened.{answer, calculated, match_of, number_of, numeral_of, performed, prefix_of, quotient_of, scan, state_before, step, texts_fit, whole_number}
use Rattle.trac_rules.proofs.call_rows.worked_call_records.Goals as goal

pub returns : goal.returns
unfolding match_of scan texts_fit performed step answer state_before calculated prefix_of numeral_of number_of whole_number quotient_of
returns c = search rules
