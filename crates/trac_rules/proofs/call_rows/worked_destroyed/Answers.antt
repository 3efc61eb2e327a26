-- Each clause is computed with the forms in a list.
use Rattle.std.proofs.Common.{rules}
use Rattle.trac_rules.proofs.CallRows.{destroys}
use Rattle.trac_rules.proofs.Opened.{cut_out, digits, part}
use Rattle.trac_rules.proofs.call_rows.worked_destroyed.Goals as goal

pub returns : goal.returns
unfolding cut_out part digits
returns c = search (rules, destroys)
