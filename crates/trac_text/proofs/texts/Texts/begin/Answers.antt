use Rattle.std.proofs.Common.{refl, arith}
use Rattle.std.proofs.lemmas.Result.{err_from_is_err_and}
use Rattle.trac_text.proofs.Holding.{begun_now, depth_fits, full_now}
use Rattle.trac_text.proofs.texts.Texts.begin.Goals as goal

pub returns-in_err-push_mark-clause-full : goal.returns-in_err-push_mark-clause-full
returns-in_err-push_mark-clause-full g c =
    let err = err_from_is_err_and c.from_residual.result c.from_residual.ensures.1 in
    rw err.1 (full_now (record { sound = c.self.invariant; view = c.self.view_is }) c.in_err-push_mark.ensures.full)

pub overflow_add-self : goal.overflow_add-self
overflow_add-self g c = omega (arith, depth_fits (record { sound = c.self.invariant; view = c.self.view_is }))

pub invariant_of-self-2 : goal.invariant_of-self-2
invariant_of-self-2 g c =
    begun_now (record { sound = c.self.invariant; view = c.self.view_is }) _ c.in_ok-push_mark.ensures.text c.in_ok-push_mark.ensures.holds c.requires.limit c.args.kind c.in_ok-push_mark.ensures.marks refl
