-- Each clause is computed with the forms in a list.
use Rattle.std.proofs.Common.{rules}
use Rattle.trac_rules.proofs.DoubtRows.{raises}
use Rattle.trac_rules.proofs.Opened.{calculated, difference_of, digits, number_of, numeral_of, prefix_of, product_of, quotient_of, sum_of, whole_number}
use Rattle.trac_rules.proofs.doubt_rows.worked_name_doubts.Goals as goal

pub returns : goal.returns
unfolding digits calculated difference_of number_of numeral_of prefix_of product_of quotient_of sum_of whole_number
returns c = search (rules, raises)
