use Rattle.std.proofs.Common.{[], refl, subst, ◌∙◌}
use Rattle.std.proofs.lemmas.Result.{err_from_is_err_and}
use Rattle.std.specs.Io.KnownBytes.{Appends}
use Rattle.trac_streams.specs.Written.{WritesFront}
use Rattle.trac_run.proofs.Stepped.{feeds_commit, feeds_late, leaves_written}
use Rattle.trac_run.proofs.Turned.{ended_after_Commit}
use Rattle.trac_run.proofs.running.release.Goals as goal

pub returns-clause-steps : goal.returns-clause-steps
returns-clause-steps g c = λ input.
    feeds_commit input c.args.session.now c.commit.new.self (subst (Appends _ _) c.pending.ensures c.in_ok-write_whole.ensures.ok) c.commit.ensures

pub returns-in_err-write_whole-clause-steps : goal.returns-in_err-write_whole-clause-steps
returns-in_err-write_whole-clause-steps g c = λ input.
    let out = err_from_is_err_and c.from_residual.result c.from_residual.ensures.1 in
    let front = subst (WritesFront _ _) c.pending.ensures c.in_err-write_whole.ensures.err in
    rw out.1 ([], front.written, feeds_late c.args.session.now c.args.session.now refl front, leaves_written out.0 [] c.args.session.now (out.2 ∙ c.in_err-write_whole.ensures.fault))

pub returns-clause-ended : goal.returns-clause-ended
returns-clause-ended g c = ended_after_Commit c.args.session.now c.commit.new.self c.commit.ensures
