-- The newest entry is of an idle step, and what this emptied weighs is within what all records weigh.
use Rattle.std.proofs.Common.{◌-◌, refl, sym, ap, subst, ◌∙◌, arith}
use Rattle.std.specs.Prelude.{reverse}
use Rattle.trac_rules.specs.Records.{Idle}
use Rattle.trac_rules.specs.Weights.{weight}
use Rattle.trac_text.specs.Pieces.{frames_in}
use Rattle.trac_journal.specs.Journaled.{Journaled}
use Rattle.trac_journal.specs.Told.{IsIdleFirst}
use Rattle.trac_journal.proofs.Counted.{IsSound, OneLess}
use Rattle.trac_journal.proofs.Ends.{last_out}
use Rattle.trac_journal.proofs.Newest.{idle_less, none_moved}
use Rattle.trac_journal.proofs.journal.JournalKeeper.pop_idle.Given.{Over}
use Rattle.trac_journal.proofs.journal.JournalKeeper.pop_idle.Goals as goal
use Rattle.trac_journal.proofs.journal.JournalKeeper.pop_idle.Goals.{After-pop_back}

pub returns-then-self-gt0 : goal.returns-then-self-gt0
returns-then-self-gt0 g c = (
  λ first.
      let none = none_moved IsIdleFirst (λ older is. is) c.self.inside.moved (reverse c.self.inside.entries.items) c.self.inside.lists.listed
      (subst (λ (j : Journaled). IsIdleFirst j.records) (sym c.self.view_is) first) in
      omega (arith, none, c.if-self-gt0.true),
  refl,
)

-- what is left without it
less : (g : Over) (c : After-pop_back g) →
    let r = Idle c.pop_emptied-emptied.result.base.items (frames_in c.pop_emptied-emptied.result.frames.items) in
    OneLess c.self.inside.moved c.self.inside.len c.self.inside.weight (weight r) c.self.inside.entries.items c.pop_back.new.self.items c.in_ok-entry.field-0.now r
    c.self.inside.lists.listed c.pop_emptied-emptied.new.self.listed
less g c =
    let inside = c.self.inside in
    let last = last_out inside.entries.items _ c.in_ok-entry.field-0.now _ (c.in_ok-entry.ensures.variant.0 refl) inside.entries.ok.0 c.in_ok-entry.ensures.lookup c.pop_back.ensures.rest in
    idle_less (omega (arith, c.if-self-gt0.false)) last c.in-Idle.is c.pop_emptied-emptied.ensures.first c.pop_emptied-emptied.ensures.others c.self.invariant

pub overflow_sub-self : goal.overflow_sub-self
overflow_sub-self g c = (less g (goal.at.overflow_sub-self g c).After-pop_back).few

pub weight-requires : goal.weight-requires
weight-requires g c = omega (arith, (less g (goal.at.weight-requires g c).After-pop_back).within, c.self.ranges)

pub overflow_sub-self-2 : goal.overflow_sub-self-2
overflow_sub-self-2 g c = omega (arith, (less g (goal.at.overflow_sub-self-2 g c).After-pop_back).within, c.weight.ensures)

pub invariant_of-self : goal.invariant_of-self
invariant_of-self g c =
    let inside = c.self.inside in
    subst (λ w. IsSound c.in_ok-entry.field-0.now.moved c.pop_back.new.self.items c.pop_emptied-emptied.new.self.listed (inside.len - 1) (inside.weight - w)) (sym c.weight.ensures)
    (less g (goal.at.invariant_of-self g c).After-pop_back).sound

pub returns : goal.returns
returns g c = sym (ap (λ (j : Journaled). j.records) c.self.view_is) ∙ (less g (goal.at.returns g c).After-pop_back).first
