use Rattle.std.proofs.Common.{◌≡◌, ◌<◌, length, subst, sym, arith}
use Rattle.std.specs.Prelude.{Err, Ok}
use Rattle.trac_rules.specs.declared.reply.Reply.TheVariants.{Done, Refused}
use Rattle.trac_rules.specs.Session.{PlainSession, Answers, Step}
use Rattle.trac_session.specs.Journal.{plain_of}
use Rattle.trac_session.proofs.Aged.{recent_after_step, recent_stays}
use Rattle.trac_session.proofs.Journaled.{Step_full_of_fields, Step_of_fields, IsSound-step}
use Rattle.trac_session.proofs.Known.{answered_forgotten, at_start, own_after_step, plain_forgotten}
use Rattle.trac_session.proofs.Trailed.{answered}
use Rattle.trac_session.proofs.session.Session.step.Goals as goal

pub returns-then-len-self : goal.returns-then-len-self
returns-then-len-self g c =
    let count : c.len.result ≡ length c.self.inside.journal.records = c.len.ensures in
    Step_full_of_fields _ _ _ _ c.self.inside.journal.records _ _ c.self.view_is c.self.invariant.sound.records (omega arith)

-- ---- refused

pub forget_names-requires : goal.forget_names-requires
forget_names-requires g c =
    let count : c.len.result ≡ length c.self.inside.journal.records = c.len.ensures in
    let room : length c.self.inside.journal.records < c.self.inside.limit = omega arith in
    at_start
    (IsSound-step _ _ c.self.inside.ended c.self.inside.journal.records c.step_into.new.journal.records _ _ (Err c.in-Err.refusal) room c.self.invariant.sound
    c.step_into.ensures.room tt tt tt c.in-Err.ensures.unchanged)

pub invariant_of-self : goal.invariant_of-self
invariant_of-self g c =
    let count : c.len.result ≡ length c.self.inside.journal.records = c.len.ensures in
    let room : length c.self.inside.journal.records < c.self.inside.limit = omega arith in
    let inside = c.self.inside in
    answered_forgotten Step (Refused c.in-Err.refusal) c.self.invariant c.step_into.ensures.room.width
    (IsSound-step _ _ inside.ended inside.journal.records c.step_into.new.journal.records _ _ (Err c.in-Err.refusal) room c.self.invariant.sound
    c.step_into.ensures.room tt tt tt c.in-Err.ensures.unchanged)
    (Step_of_fields _ _ _ inside.ended inside.journal.records c.step_into.new.journal.records _ _ (Err c.in-Err.refusal) room c.self.invariant.sound.records
    tt tt (rw (← c.as_slice.ensures.items) c.in-Err.ensures.refused) c.in-Err.ensures.unchanged c.step_into.ensures.room.width)
    c.forget_names.ensures.forgotten
    (recent_stays inside.mark inside.journal.records c.step_into.new.journal.records inside.machine c.step_into.new.self c.in-Err.ensures.unchanged.1 c.in-Err.ensures.unchanged.0 c.step_into.ensures.room.recent
    c.self.invariant.recent)

pub returns-in-Err : goal.returns-in-Err
returns-in-Err g c =
    let count : c.len.result ≡ length c.self.inside.journal.records = c.len.ensures in
    let room : length c.self.inside.journal.records < c.self.inside.limit = omega arith in
    subst (λ (q : PlainSession). Answers Step c.args.self.now (Refused c.in-Err.refusal) q)
    (sym (plain_forgotten c.step_into.new.journal.records c.step_into.new.self c.forget_names.new.machine c.forget_names.ensures.forgotten))
    (rw (← c.self.view_is) (Step_of_fields _ _ _ c.self.inside.ended c.self.inside.journal.records c.step_into.new.journal.records _ _ (Err c.in-Err.refusal) room c.self.invariant.sound.records
    tt tt (rw (← c.as_slice.ensures.items) c.in-Err.ensures.refused) c.in-Err.ensures.unchanged c.step_into.ensures.room.width))

-- ---- taken

pub invariant_of-self-in_default : goal.invariant_of-self-in_default
invariant_of-self-in_default g c =
    let count : c.len.result ≡ length c.self.inside.journal.records = c.len.ensures in
    let room : length c.self.inside.journal.records < c.self.inside.limit = omega arith in
    let inside = c.self.inside in
    let taken = Step_of_fields _ _ _ inside.ended inside.journal.records c.step_into.new.journal.records _ _ (Ok (record {})) room c.self.invariant.sound.records
    (rw (← c.as_slice.ensures.items) c.in_default.ensures.taken) (rw (← c.as_slice.ensures.items) c.in_default.ensures.kept)
    tt tt c.step_into.ensures.room.width in
    answered Step Done c.self.invariant c.step_into.ensures.room.width
    (IsSound-step _ _ inside.ended inside.journal.records c.step_into.new.journal.records _ _ (Ok (record {})) room c.self.invariant.sound
    c.step_into.ensures.room c.in_default.ensures.held (rw (← c.as_slice.ensures.items) c.in_default.ensures.taken) (rw (← c.as_slice.ensures.items) c.in_default.ensures.kept) tt)
    taken
    (own_after_step inside.journal.records c.step_into.new.journal.records c.in_default.ensures.kept.newest c.step_into.new.self c.in_default.ensures.kept.added)
    (recent_after_step inside.mark inside.machine.recent c.step_into.new.self.recent (plain_of inside.limit inside.machine.width inside.tape.items inside.ended inside.journal.records inside.machine.state)
    (plain_of inside.limit c.step_into.new.self.width inside.tape.items inside.ended c.step_into.new.journal.records c.step_into.new.self.state) taken c.step_into.ensures.room.recent c.step_into.ensures.recent
    c.self.invariant.recent)

pub returns : goal.returns
returns g c =
    let count : c.len.result ≡ length c.self.inside.journal.records = c.len.ensures in
    let room : length c.self.inside.journal.records < c.self.inside.limit = omega arith in
    rw (← c.self.view_is) (Step_of_fields _ _ _ c.self.inside.ended c.self.inside.journal.records c.step_into.new.journal.records _ _ (Ok (record {})) room c.self.invariant.sound.records
    (rw (← c.as_slice.ensures.items) c.in_default.ensures.taken) (rw (← c.as_slice.ensures.items) c.in_default.ensures.kept)
    tt tt c.step_into.ensures.room.width)
