use Rattle.trac_rules.specs.Session.{over}
use Rattle.trac_rules.proofs.Released.{step_prints_more}
use Rattle.trac_rules.proofs.Steps.{step_onward}
use Rattle.trac_rules.proofs.commits.steps_print_more.Goals as goal

pub returns : goal.returns
returns c = record { onward = λ width tape s t taken. step_onward (over width tape) s t taken; more = λ width tape s t taken. step_prints_more (over width tape) s t taken }
