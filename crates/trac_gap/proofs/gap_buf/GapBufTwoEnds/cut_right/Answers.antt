use Rattle.std.proofs.Common.{◌≤◌, length, drop, ap, sym, subst, ◌∙◌}
use Rattle.trac_gap.specs.Ends.{Ends}
use Rattle.trac_gap.proofs.Halves.{cut_right}
use Rattle.trac_gap.proofs.gap_buf.GapBufTwoEnds.cut_right.Goals as goal

pub invariant_of-self : goal.invariant_of-self
invariant_of-self g c = (cut_right c.self.inside c.self.invariant c.args.n (subst (λ (e : Ends g.row.T.Denot). c.args.n ≤ length e.right) (sym c.self.view_is) c.requires)).0

pub returns : goal.returns
returns g c = (cut_right c.self.inside c.self.invariant c.args.n (subst (λ (e : Ends g.row.T.Denot). c.args.n ≤ length e.right) (sym c.self.view_is) c.requires)).1 ∙ ap (λ (e : Ends g.row.T.Denot). record e { right = drop c.args.n e.right }) c.self.view_is
