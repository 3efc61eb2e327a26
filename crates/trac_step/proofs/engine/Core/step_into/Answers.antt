use Rattle.trac_prims.specs.Tape.{environment_of}
use Rattle.trac_step.proofs.Fitting.{kept_by}
use Rattle.trac_step.proofs.Recorded.{proper_after}
use Rattle.trac_step.proofs.Rooms.{held_after}
use Rattle.trac_step.proofs.engine.Core.step_into.Goals as goal

pub next_step-requires : goal.next_step-requires
next_step-requires g c = record {
  proper = c.recall_room.ensures.proper;
  position = c.requires.position;
  not_full = c.requires.not_full;
}

pub returns-clause-kept : goal.returns-clause-kept
returns-clause-kept g c =
    kept_by c.next_step.result (environment_of c.args.self.now.width c.args.tape) c.args.self.now.state c.next_step.new.self.state c.args.journal.now.records c.next_step.new.keeper.records
    c.recall_room.ensures.proper c.next_step.ensures.taken c.next_step.ensures.kept

pub returns-clause-proper : goal.returns-clause-proper
returns-clause-proper g c = proper_after c.next_step.result (environment_of c.args.self.now.width c.args.tape) c.args.self.now.state c.next_step.new.self.state c.recall_room.ensures.proper c.next_step.ensures.taken

pub returns-clause-held : goal.returns-clause-held
returns-clause-held g c = held_after c.next_step.result _ c.args.self.now c.next_step.new.self c.args.self.now.state c.next_step.ensures.room c.recall_room.ensures.room c.next_step.ensures.taken

pub returns-clause-recent : goal.returns-clause-recent
returns-clause-recent g c = λ name h. c.next_step.ensures.room.recent name (c.recall_room.ensures.recent name h)
