use Rattle.std.proofs.Common.{inl, inr, refl}
use Rattle.trac_web_requests.proofs.Told.{told_refused, told_taken}
use Rattle.trac_web_requests.proofs.Whole.{gives_all}
use Rattle.trac_web.proofs.exports.trac_web_way.Goals as goal

pub returns-in-Ok-way_text : goal.returns-in-Ok-way_text
returns-in-Ok-way_text c =
    told_taken c.width_for_walk.ensures c.in-Ok.is (record { outcome = c.deliver.result; gives = inl (gives_all c.as_slice.ensures.value (refl, c.in-Ok-way_text.ensures.way) c.deliver.ensures); told = c.status.ensures })

pub returns-in-Err-way_text : goal.returns-in-Err-way_text
returns-in-Err-way_text c =
    told_taken c.width_for_walk.ensures c.in-Ok.is (record { outcome = c.in-Err-way_text.why; gives = inr (record { why = c.in-Err-way_text.ensures.none; none = refl; same = refl }); told = c.status-in-Err-way_text.ensures })

pub returns-in-Err : goal.returns-in-Err
returns-in-Err c = told_refused c.width_for_walk.ensures c.in-Err.is c.status-in-Err.ensures
