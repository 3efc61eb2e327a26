use Rattle.std.proofs.Common.{◌∙◌, ap, arith, length}
use Rattle.trac_moves.specs.declared.window.Window.{Window}
use Rattle.trac_moves.proofs.Kept.{count_kept}
use Rattle.trac_moves.proofs.Standing.{moves_kept, moves_then}
use Rattle.trac_moves.proofs.walker.Walker.make_room.Goals as goal

pub loop-turn-init : goal.loop-turn-init
loop-turn-init g c = (c.make_step_room.ensures.moved, c.make_step_room.ensures.kept)

pub loop-turn-preserved : goal.loop-turn-preserved
loop-turn-preserved g c = (
  moves_then _ _ _ c.loop-turn.invariant.0 (moves_kept c.loop-turn.self c.lighten.new.self _ c.lighten.ensures.over) (λ x y z one two. two ∙ one),
  omega (arith, c.loop-turn.invariant.1, count_kept _ _ _ (c.lighten.ensures.kept c.if-not-lighten.false)),
)

pub returns-then-not-lighten-clause-moved : goal.returns-then-not-lighten-clause-moved
returns-then-not-lighten-clause-moved g c =
    moves_then _ _ _ c.loop-turn.invariant.0 (moves_kept c.loop-turn.self c.lighten.new.self c.loop-turn.self.reason c.lighten.ensures.over) (λ x y z one two. two ∙ one)

pub returns-then-not-lighten-clause-kept : goal.returns-then-not-lighten-clause-kept
returns-then-not-lighten-clause-kept g c =
    omega (arith, c.loop-turn.invariant.1, ap (λ (w : Window _). length w.session.earlier) (c.lighten.ensures.stayed c.if-not-lighten.true))
