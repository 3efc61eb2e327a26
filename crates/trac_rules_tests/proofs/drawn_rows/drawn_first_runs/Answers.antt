-- Each clause is computed from the definitions.
use Rattle.std.proofs.Common.{rules}
use Rattle.trac_rules.proofs.Opened.{calculated, difference_of, digits, is_greater, match_of, number_of, numeral_of, output_from, performed, prefix_of, product_of, quotient_of, scan, step, sum_of, texts_fit, whole_number}
use Rattle.trac_rules_tests.proofs.drawn_rows.drawn_first_runs.Goals as goal

pub returns : goal.returns
unfolding match_of scan texts_fit performed step output_from calculated prefix_of numeral_of number_of whole_number is_greater sum_of difference_of product_of quotient_of digits
returns c = search rules
