-- Each clause is computed from the definitions.
use Rattle.std.proofs.Common.{rules}
use Rattle.trac_rules.proofs.Opened.{calculated, difference_of, digits, is_greater, number_of, numeral_of, prefix_of, product_of, quotient_of, sum_of, whole_number}
use Rattle.trac_rules.proofs.numbers.worked_numerals.Goals as goal

pub returns : goal.returns
unfolding numeral_of prefix_of number_of whole_number calculated difference_of digits sum_of product_of quotient_of is_greater
returns c = search rules
