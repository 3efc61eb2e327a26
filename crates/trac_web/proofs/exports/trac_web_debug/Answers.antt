use Rattle.trac_web_requests.proofs.Told.{told_refused, told_taken}
use Rattle.trac_web.proofs.exports.trac_web_debug.Goals as goal

pub returns-in-Ok : goal.returns-in-Ok
returns-in-Ok c = told_taken c.width_for_walk.ensures c.in-Ok.is (record { outcome = c.replies_text.result; gives = c.replies_text.ensures; told = c.status.ensures })

pub returns-in-Err : goal.returns-in-Err
returns-in-Err c = told_refused c.width_for_walk.ensures c.in-Err.is c.status-in-Err.ensures
