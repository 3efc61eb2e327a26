use Rattle.std.proofs.Common.{ap, length, arith}
use Rattle.trac_text.proofs.Holding.{arguments_here, begun_here}
use Rattle.trac_text.proofs.texts.Texts.arguments_at.Goals as goal

pub overflow_add-beginning : goal.overflow_add-beginning
overflow_add-beginning g c = omega (arith, (begun_here (record { sound = c.self.invariant; view = c.self.view_is }) c.args.beginning c.requires).innermost.within, c.self.invariant.mark_limit)

pub split_at-requires : goal.split_at-requires
split_at-requires g c = omega (arith, (begun_here (record { sound = c.self.invariant; view = c.self.view_is }) c.args.beginning c.requires).innermost.within, ap length c.left.ensures.left)

pub new-requires : goal.new-requires
new-requires g c =
    let b = c.args.beginning in
    rw (c.split_at.ensures.back, c.left.ensures.left, c.left-2.ensures.left) (begun_here (record { sound = c.self.invariant; view = c.self.view_is }) b c.requires).cuts

pub returns : goal.returns
returns g c =
    let b = c.args.beginning in
    rw (c.new.ensures, c.split_at.ensures.back, c.left.ensures.left, c.left-2.ensures.left) (arguments_here (record { sound = c.self.invariant; view = c.self.view_is }) b c.requires)
