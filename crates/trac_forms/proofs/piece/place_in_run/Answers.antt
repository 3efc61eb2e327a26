-- The place in the run, counted from where it begins.
use Rattle.std.proofs.Common.{◌≡◌, ◌+◌, ◌-◌, sym, subst, arith}
use Rattle.std.specs.Prelude.{Some}
use Rattle.memchr.specs.Find.{FindsNeedle}
use Rattle.trac_forms.proofs.piece.place_in_run.Goals as goal

pub returns-clause-place : goal.returns-clause-place
returns-clause-place c =
    let same : c.args.start.items + c.in_ok-place.place - c.args.start.items ≡ c.in_ok-place.place = omega arith in
    subst (λ k. FindsNeedle c.args.run.now c.args.finder.now 0 (Some k)) (sym same) c.in_ok-place.ensures
