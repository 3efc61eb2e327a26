-- Each clause is computed with the forms in a list.
use Rattle.std.proofs.Common.{rules}
use Rattle.trac_rules.proofs.FormCalls.{does}
use Rattle.trac_rules.proofs.Opened.{cut_out, digits, part}
use Rattle.trac_rules.proofs.rows.worked_form_calls.Goals as goal

pub returns : goal.returns
unfolding part cut_out digits
returns c = search (rules, does)
