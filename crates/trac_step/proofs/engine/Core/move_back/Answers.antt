use Rattle.trac_rules.specs.Records.{moved_back}
use Rattle.trac_step.proofs.Lifting.{goes_back, is_back, moved_back_lifts, only_texts}
use Rattle.trac_step.proofs.engine.Core.move_back.Goals as goal

pub move_back-requires : goal.move_back-requires
move_back-requires g c = is_back c.self.view_is (moved_back c.args.n) (moved_back_lifts c.args.n) c.requires

pub returns-clause-state : goal.returns-clause-state
returns-clause-state g c = goes_back c.self.view_is (moved_back c.args.n) (moved_back_lifts c.args.n) c.move_back.new.self c.move_back.ensures.back

pub returns-clause-others : goal.returns-clause-others
returns-clause-others g c = only_texts c.self.view_is c.move_back.new.self c.move_back.ensures.rooms
