-- Each clause is computed from the definitions.
use Rattle.std.proofs.Common.{rules}
use Rattle.trac_rules.proofs.Opened.{calculated, difference_of, digits, number_of, numeral_of, prefix_of, product_of, quotient_of, sum_of, whole_number}
use Rattle.trac_rules.proofs.numbers.worked_widths.Goals as goal

pub returns : goal.returns
unfolding calculated prefix_of numeral_of number_of whole_number sum_of difference_of product_of quotient_of digits
returns c = search rules
