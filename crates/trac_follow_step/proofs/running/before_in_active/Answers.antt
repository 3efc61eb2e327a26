use Rattle.std.proofs.Common.{◌-◌, length, sym, ap, subst, arith}
use Rattle.trac_origins.specs.Places.{InActive}
use Rattle.trac_follow_step.specs.Places.{place_of}
use Rattle.trac_follow_step.specs.Running.{CameFrom}
use Rattle.trac_follow_step.proofs.Staying.{active_came}
use Rattle.trac_follow_step.proofs.running.before_in_active.Goals as goal

pub returns : goal.returns
returns g c =
    let j = length c.active-len.result.now - (c.args.left - c.in-Active.i) in
    let all = ap (λ text. length text) c.active-len.ensures in
    subst (λ p. CameFrom c.args.before.now.state c.args.left (place_of p) (InActive j)) (sym c.in-Active.is)
    (active_came c.args.before.now.state c.args.left c.in-Active.i j (omega (arith, all, c.if-i-left.false, c.if-left-i.false)) (omega (arith, c.if-i-left.false, c.if-left-i.false)))
