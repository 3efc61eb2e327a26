use Rattle.std.proofs.Common.{◌-◌, ◌≤◌, length, take, ap, sym, subst, ◌∙◌}
use Rattle.trac_gap.specs.Ends.{Ends}
use Rattle.trac_gap.proofs.Halves.{cut_left}
use Rattle.trac_gap.proofs.gap_buf.GapBufTwoEnds.cut_left.Goals as goal

pub invariant_of-self : goal.invariant_of-self
invariant_of-self g c = (cut_left c.self.inside c.self.invariant c.args.n (subst (λ (e : Ends g.row.T.Denot). c.args.n ≤ length e.left) (sym c.self.view_is) c.requires)).0

pub returns : goal.returns
returns g c = (cut_left c.self.inside c.self.invariant c.args.n (subst (λ (e : Ends g.row.T.Denot). c.args.n ≤ length e.left) (sym c.self.view_is) c.requires)).1 ∙ ap (λ (e : Ends g.row.T.Denot). record e { left = take (length e.left - c.args.n) e.left }) c.self.view_is
