-- `GoingOn` says what a settled state is.
use Rattle.std.proofs.Common.{◌∙◌}
use Rattle.trac_rules.specs.Session.{first_kept}
use Rattle.trac_rules.proofs.GoingOn.{settled_is}
use Rattle.trac_rules.proofs.Released.{committed_all, first-committed, length-committed, one_state_more}
use Rattle.trac_rules.proofs.commits.commits_keep_the_last_states.Goals as goal

pub returns-clause-count : goal.returns-clause-count
returns-clause-count c = length-committed

pub returns-clause-first : goal.returns-clause-first
returns-clause-first c = λ keep p. first-committed keep p ∙ settled_is (first_kept keep p)

pub returns-clause-all : goal.returns-clause-all
returns-clause-all c = committed_all

pub returns-clause-one_more : goal.returns-clause-one_more
returns-clause-one_more c = λ keep p q few taken. one_state_more keep p q few taken
