use Rattle.std.proofs.Common.{◌+◌, [], ◌∙◌, inl, refl, subst, sym}
use Rattle.std.proofs.lemmas.Result.{err_from_is_err_and}
use Rattle.std.specs.Io.KnownBytes.{Appends}
use Rattle.trac_rules.proofs.Waiting.{Commit_waits}
use Rattle.trac_streams.specs.Written.{WritesFront, Closes}
use Rattle.trac_run.specs.Runs.{TakesNone}
use Rattle.trac_streams.proofs.Known.{Appends-kept}
use Rattle.trac_run.proofs.Stepped.{feeds_late, feeds_taken, feeds_untaken, leaves_written, wrote_none}
use Rattle.trac_run.proofs.Taken.{wanted_open_after, taken_on, taken_fresh, taken_fewer, unwritten_finish, unflushed_front, unfed_finish, unfed_closed, unfed_never_ended, wanted_never_ended}
use Rattle.trac_run.proofs.Turned.{sound_unless}
use Rattle.trac_run.proofs.running.take_piece.Goals as goal

pub returns-in_err-write_whole-clause-err : goal.returns-in_err-write_whole-clause-err
returns-in_err-write_whole-clause-err g c = λ n.
    let out = err_from_is_err_and c.from_residual.result c.from_residual.ensures.1 in
    rw out.1 (unwritten_finish _ _ _ c.args.reads.now c.args.session.now (n + 1) out.0 c.requires.wanted (out.2 ∙ c.in_err-write_whole.ensures.fault)
    (subst (WritesFront _ _) c.pending.ensures c.in_err-write_whole.ensures.err))

pub returns-in_err-flush-clause-err : goal.returns-in_err-flush-clause-err
returns-in_err-flush-clause-err g c = λ n.
    let out = err_from_is_err_and c.from_residual-in_err-flush.result c.from_residual-in_err-flush.ensures.1 in
    rw out.1 (unwritten_finish _ _ _ c.args.reads.now c.args.session.now (n + 1) out.0 c.requires.wanted (out.2 ∙ c.in_err-flush.ensures.fault)
    (subst (WritesFront _ _) c.pending.ensures (unflushed_front _ _ _ _ c.in_ok-write_whole.ensures.ok c.flush.ensures.same)))

pub read_more-requires-clause-open_ : goal.read_more-requires-clause-open_
read_more-requires-clause-open_ g c = wanted_open_after c.args.session.now c.commit.new.self c.requires.wanted c.commit.ensures

pub returns-in-Ok-clause-ok : goal.returns-in-Ok-clause-ok
returns-in-Ok-clause-ok g c = λ n.
    let gave : Appends (g.W.Write.contents c.args.output.now) (g.W.Write.contents c.flush.new.output) c.args.session.now.last.output =
    subst (Appends (g.W.Write.contents c.args.output.now) (g.W.Write.contents c.flush.new.output)) c.pending.ensures (Appends-kept _ _ _ _ c.in_ok-write_whole.ensures.ok c.flush.ensures.same) in
    taken_on _ _ _ _ _ _ c.args.session.now c.commit.new.self c.read_more.new.session n c.requires.wanted c.requires.on_tape c.commit.ensures gave c.in-Ok.ensures.ok c.read_more.ensures.counted

pub returns-in-Ok-clause-fresh : goal.returns-in-Ok-clause-fresh
returns-in-Ok-clause-fresh g c = taken_fresh _ _ c.args.session.now c.commit.new.self c.read_more.new.session c.requires.some_records c.commit.ensures c.in-Ok.ensures.ok

pub returns-in-Ok-clause-fewer : goal.returns-in-Ok-clause-fewer
returns-in-Ok-clause-fewer g c = λ n start. taken_fewer _ _ c.args.session.now c.commit.new.self c.read_more.new.session n c.requires.wanted c.commit.ensures c.in-Ok.ensures.ok start

pub returns-in-Read-clause-err : goal.returns-in-Read-clause-err
returns-in-Read-clause-err g c = λ n.
    let gave : Appends (g.W.Write.contents c.args.output.now) (g.W.Write.contents c.flush.new.output) c.args.session.now.last.output =
    subst (Appends (g.W.Write.contents c.args.output.now) (g.W.Write.contents c.flush.new.output)) c.pending.ensures (Appends-kept _ _ _ _ c.in_ok-write_whole.ensures.ok c.flush.ensures.same) in
    unfed_finish _ _ _ _ _ _ c.args.session.now c.commit.new.self c.read_more.new.session n _ c.requires.wanted c.requires.on_tape c.commit.ensures gave
    (subst (TakesNone _ _ _ _) c.in-Read.is c.in-Err.ensures.err) c.read_more.ensures.counted

pub returns-in_default-clause-err : goal.returns-in_default-clause-err
returns-in_default-clause-err g c = λ n.
    let gave : Appends (g.W.Write.contents c.args.output.now) (g.W.Write.contents c.flush.new.output) c.args.session.now.last.output =
    subst (Appends (g.W.Write.contents c.args.output.now) (g.W.Write.contents c.flush.new.output)) c.pending.ensures (Appends-kept _ _ _ _ c.in_ok-write_whole.ensures.ok c.flush.ensures.same) in
    unfed_closed _ _ _ _ _ _ _ c.args.session.now c.commit.new.self c.read_more.new.session n c.in-Err.ending c.finish.result (sound_unless c.in-Err.ending c.in_default.not-Read) c.requires.wanted c.requires.on_tape c.commit.ensures gave c.in-Err.ensures.err
    (subst (λ text. Closes (g.W.Write.contents c.flush.new.output) (g.W.Write.contents c.finish.new.output) text c.in-Err.ending c.finish.result) c.pending-in_default.ensures c.finish.ensures) c.read_more.ensures.counted

pub returns-in-Ok-clause-waits : goal.returns-in-Ok-clause-waits
returns-in-Ok-clause-waits g c = λ waits.
    c.in-Ok.ensures.waits waits (Commit_waits c.args.session.now c.commit.new.self c.requires.some_records c.requires.wanted c.commit.ensures)

pub returns-in-Ok-clause-steps : goal.returns-in-Ok-clause-steps
returns-in-Ok-clause-steps g c =
    let gave : Appends (g.W.Write.contents c.args.output.now) (g.W.Write.contents c.flush.new.output) c.args.session.now.last.output =
    subst (Appends (g.W.Write.contents c.args.output.now) (g.W.Write.contents c.flush.new.output)) c.pending.ensures (Appends-kept _ _ _ _ c.in_ok-write_whole.ensures.ok c.flush.ensures.same) in
    feeds_taken c.args.session.now c.commit.new.self c.read_more.new.session (Commit_waits c.args.session.now c.commit.new.self c.requires.some_records c.requires.wanted c.commit.ensures) gave c.commit.ensures c.in-Ok.ensures.ok

pub returns-in-Read-clause-steps : goal.returns-in-Read-clause-steps
returns-in-Read-clause-steps g c =
    let gave : Appends (g.W.Write.contents c.args.output.now) (g.W.Write.contents c.flush.new.output) c.args.session.now.last.output =
    subst (Appends (g.W.Write.contents c.args.output.now) (g.W.Write.contents c.flush.new.output)) c.pending.ensures (Appends-kept _ _ _ _ c.in_ok-write_whole.ensures.ok c.flush.ensures.same) in
    feeds_untaken {A = Unit {0}} c.args.session.now c.commit.new.self c.read_more.new.session _ _ (Commit_waits c.args.session.now c.commit.new.self c.requires.some_records c.requires.wanted c.commit.ensures) gave c.commit.ensures c.in-Err.ensures.err
    (wrote_none (g.W.Write.contents c.flush.new.output) c.read_more.new.session.last.output) (inl (sym c.in-Read.is, tt))

pub returns-in_default-clause-steps : goal.returns-in_default-clause-steps
returns-in_default-clause-steps g c =
    let gave : Appends (g.W.Write.contents c.args.output.now) (g.W.Write.contents c.flush.new.output) c.args.session.now.last.output =
    subst (Appends (g.W.Write.contents c.args.output.now) (g.W.Write.contents c.flush.new.output)) c.pending.ensures (Appends-kept _ _ _ _ c.in_ok-write_whole.ensures.ok c.flush.ensures.same) in
    let closes = c.finish.ensures in
    feeds_untaken c.args.session.now c.commit.new.self c.read_more.new.session _ _ (Commit_waits c.args.session.now c.commit.new.self c.requires.some_records c.requires.wanted c.commit.ensures) gave c.commit.ensures c.in-Err.ensures.err
    (subst (WritesFront (g.W.Write.contents c.flush.new.output) (g.W.Write.contents c.finish.new.output)) c.pending-in_default.ensures (record { written = closes.written; front = closes.front; gave = closes.gave }))
    closes.ends

pub returns-in_err-write_whole-clause-steps : goal.returns-in_err-write_whole-clause-steps
returns-in_err-write_whole-clause-steps g c =
    let out = err_from_is_err_and c.from_residual.result c.from_residual.ensures.1 in
    let front = subst (WritesFront _ _) c.pending.ensures c.in_err-write_whole.ensures.err in
    rw out.1 ([], front.written, feeds_late c.args.session.now c.args.session.now refl front, leaves_written out.0 [] c.args.session.now (out.2 ∙ c.in_err-write_whole.ensures.fault))

pub returns-in_err-flush-clause-steps : goal.returns-in_err-flush-clause-steps
returns-in_err-flush-clause-steps g c =
    let out = err_from_is_err_and c.from_residual-in_err-flush.result c.from_residual-in_err-flush.ensures.1 in
    let front = subst (WritesFront _ _) c.pending.ensures (unflushed_front _ _ _ _ c.in_ok-write_whole.ensures.ok c.flush.ensures.same) in
    rw out.1 ([], front.written, feeds_late c.args.session.now c.args.session.now refl front, leaves_written out.0 [] c.args.session.now (out.2 ∙ c.in_err-flush.ensures.fault))

pub returns-in_err-write_whole-clause-ended : goal.returns-in_err-write_whole-clause-ended
returns-in_err-write_whole-clause-ended g c =
    let out = err_from_is_err_and c.from_residual.result c.from_residual.ensures.1 in
    rw out.1 (wanted_never_ended c.args.session.now c.requires.wanted)

pub returns-in_err-flush-clause-ended : goal.returns-in_err-flush-clause-ended
returns-in_err-flush-clause-ended g c =
    let out = err_from_is_err_and c.from_residual-in_err-flush.result c.from_residual-in_err-flush.ensures.1 in
    rw out.1 (wanted_never_ended c.args.session.now c.requires.wanted)

pub returns-in-Read-clause-ended : goal.returns-in-Read-clause-ended
returns-in-Read-clause-ended g c = unfed_never_ended c.args.session.now c.commit.new.self c.read_more.new.session c.requires.wanted c.commit.ensures c.in-Err.ensures.err.same

pub returns-in_default-clause-ended : goal.returns-in_default-clause-ended
returns-in_default-clause-ended g c = unfed_never_ended c.args.session.now c.commit.new.self c.read_more.new.session c.requires.wanted c.commit.ensures c.in-Err.ensures.err.same
