use Rattle.trac_prims.specs.Tape.{environment_of}
use Rattle.trac_step.specs.Record.{recorded_by}
use Rattle.trac_step.proofs.Recorded.{proper_after, rest_is_back, storage_is_back, taken_and_before, texts_are_back, weighs_within}
use Rattle.trac_step.proofs.Rooms.{held_after}
use Rattle.trac_step.proofs.engine.Core.step.Goals as goal

pub returns-clause-taken : goal.returns-clause-taken
returns-clause-taken g c =
    taken_and_before c.step_alone.result (λ r. recorded_by r) (environment_of c.args.self.now.width c.args.tape) c.args.self.now.state c.step_alone.new.self.state
    c.recall_room.ensures.proper c.step_alone.ensures.taken c.step_alone.ensures.recorded

pub returns-clause-weighs : goal.returns-clause-weighs
returns-clause-weighs g c = weighs_within c.step_alone.result recorded_by (environment_of c.args.self.now.width c.args.tape) c.args.self.now.state c.step_alone.ensures.recorded

pub returns-clause-texts : goal.returns-clause-texts
returns-clause-texts g c =
    texts_are_back recorded_by (environment_of c.args.self.now.width c.args.tape) c.args.self.now.state c.step_alone.new.self.state c.step_alone.result c.step_alone.ensures.taken c.step_alone.ensures.recorded

pub returns-clause-storage : goal.returns-clause-storage
returns-clause-storage g c =
    storage_is_back recorded_by (environment_of c.args.self.now.width c.args.tape) c.args.self.now.state c.step_alone.new.self.state c.step_alone.result c.step_alone.ensures.taken c.step_alone.ensures.recorded

pub returns-clause-rest : goal.returns-clause-rest
returns-clause-rest g c =
    rest_is_back recorded_by (environment_of c.args.self.now.width c.args.tape) c.args.self.now.state c.step_alone.new.self.state c.step_alone.result c.step_alone.ensures.taken c.step_alone.ensures.recorded

pub returns-clause-proper : goal.returns-clause-proper
returns-clause-proper g c = proper_after c.step_alone.result (environment_of c.args.self.now.width c.args.tape) c.args.self.now.state c.step_alone.new.self.state c.recall_room.ensures.proper c.step_alone.ensures.taken

pub returns-clause-held : goal.returns-clause-held
returns-clause-held g c = held_after c.step_alone.result _ c.args.self.now c.step_alone.new.self c.args.self.now.state c.step_alone.ensures.room c.recall_room.ensures.room c.step_alone.ensures.taken
