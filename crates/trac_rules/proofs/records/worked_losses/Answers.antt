-- Each clause is computed, those of forms and blocks where the forms stand in a list.
use Rattle.std.proofs.Common.{rules}
use Rattle.trac_rules.proofs.CallRows.{costs}
use Rattle.trac_rules.proofs.Opened.{answer, cut_out, digits, match_of, part, performed, scan, step, texts_fit}
use Rattle.trac_rules.proofs.records.worked_losses.Goals as goal

pub returns : goal.returns
unfolding match_of scan texts_fit performed step answer cut_out part digits
returns c = search (rules, costs)
