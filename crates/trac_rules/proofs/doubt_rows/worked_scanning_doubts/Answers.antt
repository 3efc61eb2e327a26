-- Each clause is computed from the definitions.
use Rattle.std.proofs.Common.{rules}
use Rattle.trac_rules.proofs.Opened.{answer, calculated, difference_of, doubts, match_of, number_of, numeral_of, performed, prefix_of, product_of, quotient_of, scan, step, sum_of, texts_fit, whole_number}
use Rattle.trac_rules.proofs.doubt_rows.worked_scanning_doubts.Goals as goal

pub returns : goal.returns
unfolding doubts match_of scan texts_fit performed step answer calculated prefix_of numeral_of number_of whole_number quotient_of sum_of difference_of product_of
returns c = search rules
