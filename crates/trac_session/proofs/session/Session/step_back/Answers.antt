use Rattle.std.proofs.Common.{length, refl, sym, ap, ◌∙◌}
use Rattle.trac_rules.specs.declared.refusal.Refusal.TheVariants.{AtStart}
use Rattle.trac_rules.specs.declared.reply.Reply.TheVariants.{Done, Refused}
use Rattle.trac_rules.specs.Session.{PlainSession, Back, done}
use Rattle.trac_step.specs.Layout.{Shown}
use Rattle.trac_session.specs.Journal.{plain_of}
use Rattle.trac_session.proofs.Aged.{recent_after_back, recent_stays}
use Rattle.trac_session.proofs.Journaled.{Back_start_of_fields, Back_of_fields, IsSound-back, IsSound-same, can_go_back}
use Rattle.trac_session.proofs.Known.{answered_forgotten, at_start, few_old, own_same, plain_forgotten, recent_trimmed}
use Rattle.trac_session.proofs.Trailed.{answered}
use Rattle.trac_session.proofs.session.Session.step_back.Goals as goal

pub step_back-requires-clause-back : goal.step_back-requires-clause-back
step_back-requires-clause-back g c =
    let m = c.self.inside.machine in
    can_go_back m (length c.self.inside.tape.items) c.self.inside.journal.records c.self.invariant.sound.records

pub step_back-requires-clause-within : goal.step_back-requires-clause-within
step_back-requires-clause-within g c = few_old c.self.inside.journal.records c.self.inside.machine c.self.invariant

pub returns-then-not-step_back : goal.returns-then-not-step_back
returns-then-not-step_back g c =
    let none = c.step_back.ensures.none c.if-not-step_back.true in
    Back_start_of_fields _ _ _ c.self.inside.journal.records c.step_back.new.journal.records c.self.inside.machine c.step_back.new.machine _ c.self.view_is none.0 none.1.0 none.1.1

pub invariant_of-self : goal.invariant_of-self
invariant_of-self g c =
    let none = c.step_back.ensures.none c.if-not-step_back.true in
    let inside = c.self.inside in
    let new = c.step_back.new in
    let sound = IsSound-same _ _ inside.journal.records new.journal.records inside.machine new.machine none.0 none.1.0 none.1.1 c.self.invariant.sound in
    answered Back (Refused AtStart) c.self.invariant (ap (λ (m : Shown). m.width) none.1.1) sound
    (Back_start_of_fields _ _ _ inside.journal.records new.journal.records inside.machine new.machine _ refl none.0 none.1.0 none.1.1)
    (own_same inside.journal.records new.journal.records inside.machine new.machine (none.1.0 ∙ sym none.0) none.1.1 c.self.invariant.names)
    (recent_trimmed inside.mark new.self new.journal.records new.machine sound c.step_back.ensures.trimmed
    (recent_stays inside.mark inside.journal.records new.journal.records inside.machine new.machine (none.1.0 ∙ sym none.0) (ap (λ (m : Shown). m.state) none.1.1) c.step_back.ensures.room.recent
    c.self.invariant.recent).1)

-- ---- back

pub forget_names-requires : goal.forget_names-requires
forget_names-requires g c =
    let back = c.step_back.ensures.back c.if-not-step_back.false in
    at_start
    (IsSound-back _ _ c.self.inside.journal.records c.step_back.new.journal.records back.newest _ _ back.taken back.leads_back c.step_back.ensures.room c.self.invariant.sound)

pub invariant_of-self-2 : goal.invariant_of-self-2
invariant_of-self-2 g c =
    let back = c.step_back.ensures.back c.if-not-step_back.false in
    let inside = c.self.inside in
    let after = c.step_back.new in
    let sound = IsSound-back _ _ inside.journal.records after.journal.records back.newest _ _ back.taken back.leads_back c.step_back.ensures.room c.self.invariant.sound in
    let old : PlainSession = plain_of inside.limit inside.machine.width inside.tape.items inside.ended inside.journal.records inside.machine.state in
    let new : PlainSession = plain_of inside.limit after.machine.width inside.tape.items inside.ended after.journal.records after.machine.state in
    let went = Back_of_fields _ _ _ inside.journal.records after.journal.records back.newest _ _ _ refl back.taken back.leads_back c.step_back.ensures.room.width in
    answered_forgotten Back Done c.self.invariant c.step_back.ensures.room.width sound
    (Back_of_fields _ _ _ inside.journal.records after.journal.records back.newest _ _ _ refl back.taken back.leads_back c.step_back.ensures.room.width)
    c.forget_names.ensures.forgotten
    (recent_trimmed inside.mark after.self after.journal.records after.machine sound c.step_back.ensures.trimmed
    (recent_after_back inside.mark inside.machine.recent after.machine.recent old new went c.step_back.ensures.room.recent c.self.invariant.recent))

pub returns : goal.returns
returns g c =
    let back = c.step_back.ensures.back c.if-not-step_back.false in
    Back_of_fields _ _ _ c.self.inside.journal.records c.step_back.new.journal.records back.newest _ _ _ c.self.view_is back.taken back.leads_back c.step_back.ensures.room.width
    ∙ ap done (sym (plain_forgotten c.step_back.new.journal.records c.step_back.new.machine c.forget_names.new.machine c.forget_names.ensures.forgotten))
