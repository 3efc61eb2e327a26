use Rattle.std.proofs.Common.{List, ap, length, ◌∙◌}
use Rattle.std.specs.Prelude.{nat_lt}
use Rattle.trac_rules.specs.declared.doubt.Doubt.{Doubt}
use Rattle.trac_session.proofs.goal.is_met.Goals as goal

pub returns-in-Doubtful : goal.returns-in-Doubtful
returns-in-Doubtful g c = rw c.in-Doubtful.is (c.is_doubtful.ensures ∙ ap (λ (ds : List Doubt). nat_lt 0 (length ds)) c.ahead.ensures)
