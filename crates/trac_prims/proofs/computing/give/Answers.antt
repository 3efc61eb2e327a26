use Rattle.std.proofs.Common.{refl}
use Rattle.trac_prims.specs.Effects.{nothing}
use Rattle.trac_prims.proofs.Kept.{given}
use Rattle.trac_prims.proofs.computing.give.Goals as goal

pub returns : goal.returns
returns g c = λ arguments storage.
    given arguments storage c.args.made.now (record c.args.made.now { value = c.extend_from_slice.new.self }) c.args.text.now nothing
    c.in_ok-extend_from_slice.ensures.items refl refl
