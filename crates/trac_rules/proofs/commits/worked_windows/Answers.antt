-- Each clause is computed from the definitions.
use Rattle.std.proofs.Common.{rules}
use Rattle.trac_rules.proofs.Opened.{answer, match_of, performed, scan, step, texts_fit}
use Rattle.trac_rules.proofs.commits.worked_windows.Goals as goal

pub returns : goal.returns
unfolding match_of scan texts_fit performed step answer
returns c = search rules
