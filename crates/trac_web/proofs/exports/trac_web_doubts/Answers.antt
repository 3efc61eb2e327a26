use Rattle.trac_web_requests.proofs.Told.{told_refused, told_taken}
use Rattle.trac_web.proofs.exports.trac_web_doubts.Goals as goal

pub returns-in-Ok-clause-told : goal.returns-in-Ok-clause-told
returns-in-Ok-clause-told c = told_taken c.width_for_run.ensures c.in-Ok.is (record { outcome = c.doubts_text.result; gives = c.doubts_text.ensures.gives; told = c.status.ensures })

pub returns-in-Err-clause-told : goal.returns-in-Err-clause-told
returns-in-Err-clause-told c = told_refused c.width_for_run.ensures c.in-Err.is c.status-in-Err.ensures
