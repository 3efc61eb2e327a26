use Rattle.std.proofs.Common.{sym, subst}
use Rattle.trac_web_requests.proofs.Whole.{gives_all}
use Rattle.trac_web.specs.Requests.{WritesDoubts}
use Rattle.trac_web.proofs.Whole.{whole_doubts}
use Rattle.trac_web.proofs.doubting.doubts_text.Goals as goal

pub returns-clause-gives : goal.returns-clause-gives
returns-clause-gives g c =
    let found = c.lint-found.result in
    let stated = whole_doubts _ _ found c.new-reply.ensures c.lint-found.ensures.most c.lint-found.ensures.written in
    gives_all c.text.ensures (subst (λ ending. WritesDoubts found.told c.lint-found.new.output.text.items ending) (sym c.ending_of.ensures) stated) c.deliver.ensures
