use Rattle.trac_web_requests.proofs.Whole.{gives_all, whole_replies}
use Rattle.trac_web_requests.proofs.debugging.replies_text.Goals as goal

pub returns : goal.returns
returns g c =
    gives_all c.text.ensures
    (whole_replies _ _ _ _ _ _ _ c.debug-ending.result c.new-reply.ensures c.debug-ending.ensures.debugs c.debug-ending.ensures.too_long)
    c.deliver.ensures
