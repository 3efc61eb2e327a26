use Rattle.trac_rules.proofs.TakenAgain.{answered_trail, new_trail, run_trail}
use Rattle.trac_rules.proofs.trails.sessions_are_trails.Goals as goal

pub returns : goal.returns
returns c = record { start = new_trail; each_answer = answered_trail; every_run = run_trail }
