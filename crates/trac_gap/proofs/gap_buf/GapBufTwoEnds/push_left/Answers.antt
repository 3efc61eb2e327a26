use Rattle.std.proofs.Common.{◌<◌, ◌++◌, [], ◌∷◌, ap, sym, subst, ◌∙◌}
use Rattle.trac_gap.specs.Ends.{Ends, item_count}
use Rattle.trac_gap.proofs.Halves.{pushed_left}
use Rattle.trac_gap.proofs.gap_buf.GapBufTwoEnds.push_left.Goals as goal

pub invariant_of-self : goal.invariant_of-self
invariant_of-self g c = (pushed_left c.self.inside c.self.invariant c.put.new.self c.args.x c.put.ensures.0 (subst (λ e. item_count e < e.capacity) (sym c.self.view_is) c.requires) c.put.ensures.1).0

pub returns : goal.returns
returns g c = (pushed_left c.self.inside c.self.invariant c.put.new.self c.args.x c.put.ensures.0 (subst (λ e. item_count e < e.capacity) (sym c.self.view_is) c.requires) c.put.ensures.1).1 ∙ ap (λ (e : Ends g.row.T.Denot). record e { left = e.left ++ c.args.x ∷ [] }) c.self.view_is
