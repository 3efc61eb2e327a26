use Rattle.std.proofs.Common.{◌≡◌, ◌-◌, arith, inl, refl, ⊎_elim}
use Rattle.std.specs.Prelude.{◌⊎◌}
use Rattle.trac_rules.specs.declared.refusal.Refusal.TheVariants as refusals
use Rattle.trac_streams.specs.declared.ending.Ending.TheVariants.{Ended, Budget, Limit, Memory}
use Rattle.trac_run.proofs.Stepped.{as_far_turn, feeds_walk}
use Rattle.trac_run.proofs.Turned.{after_walk, tape_after_walk, stopped_for, taken_unstopped, closed_run, shows_spent, shows_ended, shows_limit, nothing_pending_unmoved, taken_of_test, none_taken_of_test, released, taken_when_full, walked_on, walked_finish_one, walked_fewer, refused_for_none, still_at_end, at_end_either}
use Rattle.trac_run.proofs.running.take_turn.Goals as goal

pub returns-then-left-gt0 : goal.returns-then-left-gt0
returns-then-left-gt0 g c =
    let after = after_walk {m = c.args.left.now} (omega (arith, c.min.ensures)) c.requires.fresh c.forward_within-walk.ensures in
    let made = c.release.ensures in
    let all = released _ _ _ c.args.reads.now c.release.new.session c.release.result after c.requires.at_end (taken_unstopped c.forward_within-walk.ensures c.in_default.is (omega (arith, c.min.ensures))) made.ok made.committed made.err in
    let steps = as_far_turn _ _ _ _ {m = c.args.left.now} c.release.new.session c.release.result (omega (arith, c.min.ensures, c.forward_within-walk.ensures.walk.within, c.forward_within-walk.ensures.within)) c.forward_within-walk.ensures (made.steps _) in
    record { ok = all.0; err = all.1; within = omega arith; steps = steps; fresh = all.2; fewer = all.3; ended = at_end_either c.release.result c.release.new.session after c.requires.at_end made.ended }

pub returns-in_default-clause-err : goal.returns-in_default-clause-err
returns-in_default-clause-err g c =
    closed_run _ _ _ c.args.reads.now c.pending.result.now Budget c.finish.result refl (after_walk {m = c.args.left.now} (omega (arith, c.min.ensures)) c.requires.fresh c.forward_within-walk.ensures) c.requires.at_end c.pending.ensures c.finish.ensures
    (shows_spent c.forward_within-walk.new.self (c.args.left.now - c.forward_within-walk.result.done) (omega arith))

pub take_input-requires-clause-on_tape : goal.take_input-requires-clause-on_tape
take_input-requires-clause-on_tape g c = (after_walk {m = c.args.left.now} (omega (arith, c.min.ensures)) c.requires.fresh c.forward_within-walk.ensures).on_tape

pub take_input-requires-clause-some_records : goal.take_input-requires-clause-some_records
take_input-requires-clause-some_records g c = (after_walk {m = c.args.left.now} (omega (arith, c.min.ensures)) c.requires.fresh c.forward_within-walk.ensures).some_records

pub returns-in-NeedInput-clause-ok : goal.returns-in-NeedInput-clause-ok
returns-in-NeedInput-clause-ok g c = walked_on _ _ _ _ _ _ c.take_input.new.session c.take_input.result (after_walk {m = c.args.left.now} (omega (arith, c.min.ensures)) c.requires.fresh c.forward_within-walk.ensures) (c.take_input.ensures.ok (c.args.left.now - c.forward_within-walk.result.done))

pub returns-in-NeedInput-clause-err : goal.returns-in-NeedInput-clause-err
returns-in-NeedInput-clause-err g c =
    let stop = stopped_for c.forward_within-walk.ensures c.in-Some.is c.in-NeedInput.is in
    walked_finish_one _ _ _ _ _ _ c.take_input.result (after_walk {m = c.args.left.now} (omega (arith, c.min.ensures)) c.requires.fresh c.forward_within-walk.ensures) (omega (arith, stop.0, c.min.ensures)) c.take_input.ensures.err

pub returns-in-NeedInput-clause-fewer : goal.returns-in-NeedInput-clause-fewer
returns-in-NeedInput-clause-fewer g c = walked_fewer c.args.session.now c.args.left.now c.forward_within-walk.result.done c.forward_within-walk.new.self c.take_input.new.session c.take_input.result c.requires.fresh (after_walk {m = c.args.left.now} (omega (arith, c.min.ensures)) c.requires.fresh c.forward_within-walk.ensures) (c.take_input.ensures.fewer (c.args.left.now - c.forward_within-walk.result.done))

pub returns-in-JournalFull : goal.returns-in-JournalFull
returns-in-JournalFull g c =
    let after = after_walk {m = c.args.left.now} (omega (arith, c.min.ensures)) c.requires.fresh c.forward_within-walk.ensures in
    let made = c.release-in-JournalFull.ensures in
    let all = released _ _ _ c.args.reads.now c.release-in-JournalFull.new.session c.release-in-JournalFull.result after c.requires.at_end (taken_when_full after (stopped_for c.forward_within-walk.ensures c.in-Some.is c.in-JournalFull.is).1) made.ok made.committed made.err in
    let steps = as_far_turn _ _ _ _ {m = c.args.left.now} c.release-in-JournalFull.new.session c.release-in-JournalFull.result (omega (arith, c.min.ensures, c.forward_within-walk.ensures.walk.within, c.forward_within-walk.ensures.within)) c.forward_within-walk.ensures (made.steps _) in
    record { ok = all.0; err = all.1; within = omega arith; steps = steps; fresh = all.2; fewer = all.3; ended = at_end_either c.release-in-JournalFull.result c.release-in-JournalFull.new.session after c.requires.at_end made.ended }

pub returns-in-TooLong : goal.returns-in-TooLong
returns-in-TooLong g c =
    let after = after_walk {m = c.args.left.now} (omega (arith, c.min.ensures)) c.requires.fresh c.forward_within-walk.ensures in
    let made = c.release-in-TooLong.ensures in
    let all = released _ _ _ c.args.reads.now c.release-in-TooLong.new.session c.release-in-TooLong.result after c.requires.at_end (taken_of_test c.is_empty.result after c.is_empty.ensures c.if-not-is_empty.true) made.ok made.committed made.err in
    let steps = as_far_turn _ _ _ _ {m = c.args.left.now} c.release-in-TooLong.new.session c.release-in-TooLong.result (omega (arith, c.min.ensures, c.forward_within-walk.ensures.walk.within, c.forward_within-walk.ensures.within)) c.forward_within-walk.ensures (made.steps _) in
    record { ok = all.0; err = all.1; within = omega arith; steps = steps; fresh = all.2; fewer = all.3; ended = at_end_either c.release-in-TooLong.result c.release-in-TooLong.new.session after c.requires.at_end made.ended }

pub returns-in-TooLong-2-clause-err : goal.returns-in-TooLong-2-clause-err
returns-in-TooLong-2-clause-err g c =
    let stop = stopped_for c.forward_within-walk.ensures c.in-Some.is c.in-TooLong-2.is in
    let none = none_taken_of_test c.forward_within-walk.new.self c.is_empty.result c.is_empty.ensures c.if-not-is_empty.false in
    closed_run _ _ _ c.args.reads.now c.pending-in-TooLong-2.result.now Limit c.finish-in-TooLong-2.result refl (after_walk {m = c.args.left.now} (omega (arith, c.min.ensures)) c.requires.fresh c.forward_within-walk.ensures) c.requires.at_end c.pending-in-TooLong-2.ensures c.finish-in-TooLong-2.ensures
    (shows_limit c.forward_within-walk.new.self (c.args.left.now - c.forward_within-walk.result.done) (omega (arith, stop.0, c.min.ensures)) (after_walk {m = c.args.left.now} (omega (arith, c.min.ensures)) c.requires.fresh c.forward_within-walk.ensures).on_tape stop.1 (nothing_pending_unmoved c.requires.fresh (after_walk {m = c.args.left.now} (omega (arith, c.min.ensures)) c.requires.fresh c.forward_within-walk.ensures) none))

pub returns-in-Ended-clause-err : goal.returns-in-Ended-clause-err
returns-in-Ended-clause-err g c =
    let stop = stopped_for c.forward_within-walk.ensures c.in-Some.is c.in-Ended.is in
    closed_run _ _ _ c.args.reads.now c.pending-in-Ended.result.now Ended c.finish-in-Ended.result refl (after_walk {m = c.args.left.now} (omega (arith, c.min.ensures)) c.requires.fresh c.forward_within-walk.ensures) c.requires.at_end c.pending-in-Ended.ensures c.finish-in-Ended.ensures
    (shows_ended c.forward_within-walk.new.self (c.args.left.now - c.forward_within-walk.result.done) (omega (arith, stop.0, c.min.ensures)) (after_walk {m = c.args.left.now} (omega (arith, c.min.ensures)) c.requires.fresh c.forward_within-walk.ensures).on_tape stop.1)

pub returns-in-Memory-clause-err : goal.returns-in-Memory-clause-err
returns-in-Memory-clause-err g c =
    closed_run _ _ _ c.args.reads.now c.pending-in-Memory.result.now Memory c.finish-in-Memory.result refl (after_walk {m = c.args.left.now} (omega (arith, c.min.ensures)) c.requires.fresh c.forward_within-walk.ensures) c.requires.at_end c.pending-in-Memory.ensures c.finish-in-Memory.ensures
    (λ more none. tt)

pub unreachable-requires : goal.unreachable-requires
unreachable-requires g c =
    ⊎_elim
    (λ (e : c.in-Some.refusal ≡ refusals.AtStart). refused_for_none c.forward_within-walk.new.self refusals.AtStart (stopped_for c.forward_within-walk.ensures c.in-Some.is e).1 (λ x. cc) (λ x. cc) (λ x. cc) (λ x. cc))
    (λ (others : (c.in-Some.refusal ≡ refusals.Closed) ⊎ (c.in-Some.refusal ≡ refusals.NotMet)). ⊎_elim
    (λ (e : c.in-Some.refusal ≡ refusals.Closed). refused_for_none c.forward_within-walk.new.self refusals.Closed (stopped_for c.forward_within-walk.ensures c.in-Some.is e).1 (λ x. cc) (λ x. cc) (λ x. cc) (λ x. cc))
    (λ (e : c.in-Some.refusal ≡ refusals.NotMet). refused_for_none c.forward_within-walk.new.self refusals.NotMet (stopped_for c.forward_within-walk.ensures c.in-Some.is e).1 (λ x. cc) (λ x. cc) (λ x. cc) (λ x. cc))
    others)
    c.in-AtStart.is

pub returns-in_default-clause-steps : goal.returns-in_default-clause-steps
returns-in_default-clause-steps g c =
    feeds_walk {m = c.args.left.now} c.pending.result.now Budget c.finish.result (omega (arith, c.min.ensures, c.forward_within-walk.ensures.walk.within, c.forward_within-walk.ensures.within)) c.forward_within-walk.ensures c.pending.ensures c.finish.ensures tt

pub returns-in-NeedInput-clause-steps : goal.returns-in-NeedInput-clause-steps
returns-in-NeedInput-clause-steps g c = as_far_turn _ _ _ _ {m = c.args.left.now} c.take_input.new.session c.take_input.result (omega (arith, c.min.ensures, c.forward_within-walk.ensures.walk.within, c.forward_within-walk.ensures.within)) c.forward_within-walk.ensures c.take_input.ensures.steps

pub returns-in-TooLong-2-clause-steps : goal.returns-in-TooLong-2-clause-steps
returns-in-TooLong-2-clause-steps g c =
    feeds_walk {m = c.args.left.now} c.pending-in-TooLong-2.result.now Limit c.finish-in-TooLong-2.result (omega (arith, c.min.ensures, c.forward_within-walk.ensures.walk.within, c.forward_within-walk.ensures.within)) c.forward_within-walk.ensures c.pending-in-TooLong-2.ensures c.finish-in-TooLong-2.ensures tt

pub returns-in-Ended-clause-steps : goal.returns-in-Ended-clause-steps
returns-in-Ended-clause-steps g c =
    feeds_walk {m = c.args.left.now} c.pending-in-Ended.result.now Ended c.finish-in-Ended.result (omega (arith, c.min.ensures, c.forward_within-walk.ensures.walk.within, c.forward_within-walk.ensures.within)) c.forward_within-walk.ensures c.pending-in-Ended.ensures c.finish-in-Ended.ensures tt

pub returns-in-Memory-clause-steps : goal.returns-in-Memory-clause-steps
returns-in-Memory-clause-steps g c =
    feeds_walk {m = c.args.left.now} c.pending-in-Memory.result.now Memory c.finish-in-Memory.result (omega (arith, c.min.ensures, c.forward_within-walk.ensures.walk.within, c.forward_within-walk.ensures.within)) c.forward_within-walk.ensures c.pending-in-Memory.ensures c.finish-in-Memory.ensures
    (inl (refl, (stopped_for c.forward_within-walk.ensures c.in-Some.is c.in-Memory.is).1))

pub take_input-requires-clause-fits : goal.take_input-requires-clause-fits
take_input-requires-clause-fits g c = omega (arith, c.requires.fits, tape_after_walk _ _ _ _ (after_walk {m = c.args.left.now} (omega (arith, c.min.ensures)) c.requires.fresh c.forward_within-walk.ensures))

pub returns-in_default-clause-ended : goal.returns-in_default-clause-ended
returns-in_default-clause-ended g c = still_at_end (after_walk {m = c.args.left.now} (omega (arith, c.min.ensures)) c.requires.fresh c.forward_within-walk.ensures) c.requires.at_end

pub returns-in-TooLong-2-clause-ended : goal.returns-in-TooLong-2-clause-ended
returns-in-TooLong-2-clause-ended g c = still_at_end (after_walk {m = c.args.left.now} (omega (arith, c.min.ensures)) c.requires.fresh c.forward_within-walk.ensures) c.requires.at_end

pub returns-in-Ended-clause-ended : goal.returns-in-Ended-clause-ended
returns-in-Ended-clause-ended g c = still_at_end (after_walk {m = c.args.left.now} (omega (arith, c.min.ensures)) c.requires.fresh c.forward_within-walk.ensures) c.requires.at_end

pub returns-in-Memory-clause-ended : goal.returns-in-Memory-clause-ended
returns-in-Memory-clause-ended g c = still_at_end (after_walk {m = c.args.left.now} (omega (arith, c.min.ensures)) c.requires.fresh c.forward_within-walk.ensures) c.requires.at_end
