use Rattle.trac_moves.proofs.SearchedAnew.{over_closed, over_open}
use Rattle.trac_moves.proofs.walker.Walker.window_anew.Goals as goal
use Rattle.trac_moves.proofs.walker.Walker.window_anew.Goals.{else-self, then-self}

pub returns : goal.returns
returns g c = elim c.if-self.branch [
  | then-self w ↦ over_closed _ _ _ _ _ c.in-Ok.window c.if-self.window w.end.new.self c.as_slice-input.ensures.value c.width.ensures w.if-self.true w.window-is w.end.ensures c.in-Ok.ensures.over
  | else-self w ↦ over_open _ _ _ _ _ c.in-Ok.window c.if-self.window c.as_slice-input.ensures.value c.width.ensures w.if-self.false w.window-is c.in-Ok.ensures.over
]
