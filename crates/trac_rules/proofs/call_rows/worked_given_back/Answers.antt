-- Each clause is computed with the forms in a list.
use Rattle.std.proofs.Common.{rules}
use Rattle.trac_rules.proofs.CallRows.{gives_back, gives_nothing}
use Rattle.trac_rules.proofs.call_rows.worked_given_back.Goals as goal

pub returns : goal.returns
returns c = search (rules, gives_back, gives_nothing)
