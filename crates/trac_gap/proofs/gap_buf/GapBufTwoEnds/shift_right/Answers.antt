use Rattle.std.proofs.Common.{◌-◌, ◌≤◌, ◌++◌, length, take, drop, refl, ap, sym, subst, ◌∙◌, arith}
use Rattle.trac_gap.specs.Ends.{Ends}
use Rattle.trac_gap.proofs.Halves.{tail_full, shifted_right}
use Rattle.trac_gap.proofs.gap_buf.GapBufTwoEnds.shift_right.Goals as goal

pub shift-requires : goal.shift-requires
shift-requires g c =
    let ok = c.self.invariant in let tail = tail_full c.self.inside ok c.args.n c.self.inside.places refl (subst (λ (e : Ends g.row.T.Denot). c.args.n ≤ length e.left) (sym c.self.view_is) c.requires) in
    (sym ok.places_at, tail.0, tail.1, omega (arith, ok.fits, ok.places_count), tail.2)

pub invariant_of-self : goal.invariant_of-self
invariant_of-self g c = (shifted_right c.self.inside c.self.invariant c.args.n c.shift.new.self c.shift.ensures.0 (subst (λ (e : Ends g.row.T.Denot). c.args.n ≤ length e.left) (sym c.self.view_is) c.requires) c.shift.ensures.1).0

pub returns : goal.returns
returns g c = (shifted_right c.self.inside c.self.invariant c.args.n c.shift.new.self c.shift.ensures.0 (subst (λ (e : Ends g.row.T.Denot). c.args.n ≤ length e.left) (sym c.self.view_is) c.requires) c.shift.ensures.1).1
    ∙ ap (λ (e : Ends g.row.T.Denot). record e { left = take (length e.left - c.args.n) e.left; right = drop (length e.left - c.args.n) e.left ++ e.right }) c.self.view_is
