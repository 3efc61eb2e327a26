use Rattle.std.proofs.Common.{ap, subst}
use Rattle.trac_rules.specs.Proper.{IsProper}
use Rattle.trac_forms.specs.Stored.{KnowsAll}
use Rattle.trac_step.specs.Layout.{Shown}
use Rattle.trac_step.specs.Room.{HasRoom}
use Rattle.trac_step.proofs.Limited.{proper_state}
use Rattle.trac_step.proofs.engine.Core.recall_room.Goals as goal

pub returns-clause-proper : goal.returns-clause-proper
returns-clause-proper g c =
    let i = c.self.inside in
    subst IsProper (ap (λ (m : Shown). m.state) c.self.view_is) (proper_state i.texts i.store i.meta i.trace i.position i.output c.recall_room.ensures c.self.invariant)

pub returns-clause-room : goal.returns-clause-room
returns-clause-room g c = subst (λ (m : Shown). HasRoom m m.state) c.self.view_is (record {
  text = c.recall_room.ensures.text_room;
  marks = c.recall_room.ensures.mark_room;
  output = c.capacity-room.ensures.within;
  names = c.knows_its_forms.ensures.known;
})

pub returns-clause-recent : goal.returns-clause-recent
returns-clause-recent g c = subst (λ (m : Shown). KnowsAll m.recent m.state.forms) c.self.view_is c.knows_its_forms.ensures.recent
