-- The lists of the calls, one after another.
use Rattle.std.proofs.Common.{append_assoc, rules}
use Rattle.std.proofs.lemmas.Result.{IfOk-equal}
use Rattle.trac_doubts.proofs.calls.call_doubts_into.Goals as goal

pub returns-clause-ok : goal.returns-clause-ok
returns-clause-ok g c = search (rules, IfOk-equal, append_assoc)
