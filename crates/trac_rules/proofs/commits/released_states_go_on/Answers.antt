use Rattle.trac_rules.specs.Session.{over}
use Rattle.trac_rules.proofs.Released.{before-released, loss-released, refused-released, step-released, step_weight-released}
use Rattle.trac_rules.proofs.commits.released_states_go_on.Goals as goal

pub returns : goal.returns
returns c = record {
  taken = λ width tape s t o k read printed taken. step-released (over width tape) o k s t read printed taken;
  refused = λ width tape s refusal o k read other refused. refused-released (over width tape) o k s refusal read refused other;
  before = λ r s t o k read printed back. before-released o k r s t read printed back;
  weight = λ s o k. step_weight-released o k s;
  loss = λ s o k. loss-released o k s;
}
