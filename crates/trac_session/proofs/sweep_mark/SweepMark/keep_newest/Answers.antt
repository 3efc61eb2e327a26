use Rattle.std.proofs.Common.{◌≡◌, length, subst, arith}
use Rattle.trac_step.specs.Layout.{Shown}
use Rattle.trac_session.specs.Knowing.{HasSwept}
use Rattle.trac_session.proofs.sweep_mark.SweepMark.keep_newest.Goals as goal

pub release-requires : goal.release-requires
release-requires g c =
    record { printed = omega (arith, c.requires.printed, c.keep_newest-passed.ensures.printed); read = omega (arith, c.requires.read, c.keep_newest-passed.ensures.read) }

pub returns-clause-swept : goal.returns-clause-swept
returns-clause-swept g c = λ none.
    subst (λ (m : Shown). HasSwept (length c.keep_newest-passed.new.self.records) c.age.new.self m c.age.new.machine) c.release.ensures
    (subst (λ n. HasSwept n c.age.new.self c.release.new.self c.age.new.machine) c.len-kept.ensures
    (c.age.ensures.swept (omega (arith, none, c.len-before.ensures, c.len-kept.ensures))))

pub returns-clause-waits : goal.returns-clause-waits
returns-clause-waits g c = λ some.
    let is = c.age.ensures.waits (omega (arith, some, c.len-before.ensures, c.len-kept.ensures)) in
    (subst (λ (m : Shown). c.age.new.machine ≡ m) c.release.ensures is.0, omega (arith, is.1, c.len-before.ensures, c.len-kept.ensures))
