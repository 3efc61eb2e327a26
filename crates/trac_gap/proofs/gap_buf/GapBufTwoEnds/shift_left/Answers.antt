use Rattle.std.proofs.Common.{◌≤◌, ◌++◌, length, take, drop, refl, ap, sym, subst, ◌∙◌, arith}
use Rattle.trac_gap.specs.Ends.{Ends}
use Rattle.trac_gap.proofs.Halves.{next_full, shifted_left}
use Rattle.trac_gap.proofs.gap_buf.GapBufTwoEnds.shift_left.Goals as goal

pub shift-requires : goal.shift-requires
shift-requires g c =
    let ok = c.self.invariant in let next = next_full c.self.inside ok c.args.n c.self.inside.places refl (subst (λ (e : Ends g.row.T.Denot). c.args.n ≤ length e.right) (sym c.self.view_is) c.requires) in
    (sym ok.places_at, next.0, next.1, omega (arith, ok.fits, ok.places_count), next.2)

pub invariant_of-self : goal.invariant_of-self
invariant_of-self g c = (shifted_left c.self.inside c.self.invariant c.args.n c.shift.new.self c.shift.ensures.0 (subst (λ (e : Ends g.row.T.Denot). c.args.n ≤ length e.right) (sym c.self.view_is) c.requires) c.shift.ensures.1).0

pub returns : goal.returns
returns g c = (shifted_left c.self.inside c.self.invariant c.args.n c.shift.new.self c.shift.ensures.0 (subst (λ (e : Ends g.row.T.Denot). c.args.n ≤ length e.right) (sym c.self.view_is) c.requires) c.shift.ensures.1).1
    ∙ ap (λ (e : Ends g.row.T.Denot). record e { left = e.left ++ take c.args.n e.right; right = drop c.args.n e.right }) c.self.view_is
