-- The newest entry is of a call, and what it weighs is within what all records weigh.
use Rattle.std.proofs.Common.{◌+◌, ◌-◌, sym, ap, subst, ◌∙◌, arith}
use Rattle.trac_change.specs.Undone.{undone_in}
use Rattle.trac_journal.specs.Journaled.{Journaled}
use Rattle.trac_journal.specs.Told.{IsCallFirst}
use Rattle.trac_journal.proofs.Counted.{IsSound}
use Rattle.trac_journal.proofs.Newest.{call_less, call_there, CallLess}
use Rattle.trac_journal.proofs.journal.JournalKeeper.pop_call.Given.{Over}
use Rattle.trac_journal.proofs.journal.JournalKeeper.pop_call.Goals as goal
use Rattle.trac_journal.proofs.journal.JournalKeeper.pop_call.Goals.{After-pop_call-weight}

pub pop_call-weight-requires : goal.pop_call-weight-requires
pop_call-weight-requires g c =
    call_there c.self.inside.moved c.self.inside.entries.items c.pop_back.new.self.items c.in-Some.entry c.self.inside.lists.listed
    (subst (λ (j : Journaled). IsCallFirst j.records) (sym c.self.view_is) c.requires) c.in-Some.ensures.items c.self.invariant.0 c.pop_undone-undone.ensures.others

-- what is left without it
less : (g : Over) (c : After-pop_call-weight g) →
    CallLess c.self.inside.moved c.self.inside.len c.self.inside.weight c.pop_call-weight.result c.self.inside.entries.items c.pop_back.new.self.items c.in-Some.entry
    (undone_in c.pop_undone-undone.result) c.self.inside.lists.listed c.pop_call-weight.new.self.listed
less g c =
    call_less (subst (λ (j : Journaled). IsCallFirst j.records) (sym c.self.view_is) c.requires) c.in-Some.ensures.items c.self.invariant c.pop_undone-undone.ensures.others
    c.pop_undone-undone.ensures.own c.pop_call-weight.ensures.others c.pop_call-weight.ensures.weighs

pub weight-requires : goal.weight-requires
weight-requires g c = omega (arith, (less g (goal.at.weight-requires g c).After-pop_call-weight).within, c.self.ranges)

pub overflow_add-self : goal.overflow_add-self
overflow_add-self g c = omega (arith, (less g (goal.at.overflow_add-self g c).After-pop_call-weight).within, c.weight.ensures, c.self.ranges)

pub overflow_sub-self-2 : goal.overflow_sub-self-2
overflow_sub-self-2 g c = omega (arith, (less g (goal.at.overflow_sub-self-2 g c).After-pop_call-weight).within, c.weight.ensures)

pub invariant_of-self : goal.invariant_of-self
invariant_of-self g c =
    let inside = c.self.inside in
    subst (λ w. IsSound c.in-Some.entry.moved c.pop_back.new.self.items c.pop_call-weight.new.self.listed (inside.len - 1) (inside.weight - (c.pop_call-weight.result + w))) (sym c.weight.ensures)
    (less g (goal.at.invariant_of-self g c).After-pop_call-weight).sound

pub returns : goal.returns
returns g c =
    let out = (less g (goal.at.returns g c).After-pop_call-weight).out in
    record { call = out.call; taken = sym (ap (λ (j : Journaled). j.records) c.self.view_is) ∙ out.taken; destroyed = out.destroyed }
