-- Each clause is computed from the definitions.
use Rattle.std.proofs.Common.{rules}
use Rattle.trac_origins.specs.Stepping.{origins}
use Rattle.trac_rules.proofs.Opened.{calculated, difference_of, digits, is_greater, match_of, number_of, numeral_of, performed, prefix_of, product_of, quotient_of, scan, sum_of, whole_number}
use Rattle.trac_origins.proofs.rows.worked_calls.Goals as goal

pub returns : goal.returns
unfolding origins match_of scan performed calculated prefix_of numeral_of number_of whole_number is_greater sum_of difference_of product_of quotient_of digits
returns c = search rules
