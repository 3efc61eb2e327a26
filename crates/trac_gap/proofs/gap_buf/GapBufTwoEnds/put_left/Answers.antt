use Rattle.std.proofs.Common.{◌+◌, ◌≤◌, ◌++◌, length, refl, ap, sym, subst, ◌∙◌, arith}
use Rattle.trac_gap.specs.Ends.{Ends, item_count}
use Rattle.trac_gap.proofs.Halves.{free_run, put_left}
use Rattle.trac_gap.proofs.gap_buf.GapBufTwoEnds.put_left.Goals as goal

pub copy_in-requires : goal.copy_in-requires
copy_in-requires g c =
    let ok = c.self.invariant in let free = free_run c.self.inside ok c.self.inside.places c.args.items.now refl (subst (λ e. item_count e + length c.args.items.now ≤ e.capacity) (sym c.self.view_is) c.requires) in
    (sym ok.places_at, omega (arith, free, ok.within, ok.places_count), omega (arith, ok.fits, ok.places_count))

pub invariant_of-self : goal.invariant_of-self
invariant_of-self g c = (put_left c.self.inside c.self.invariant c.copy_in.new.self c.args.items.now c.copy_in.ensures.0 (subst (λ e. item_count e + length c.args.items.now ≤ e.capacity) (sym c.self.view_is) c.requires) c.copy_in.ensures.1).0

pub returns : goal.returns
returns g c = (put_left c.self.inside c.self.invariant c.copy_in.new.self c.args.items.now c.copy_in.ensures.0 (subst (λ e. item_count e + length c.args.items.now ≤ e.capacity) (sym c.self.view_is) c.requires) c.copy_in.ensures.1).1 ∙ ap (λ (e : Ends g.row.T.Denot). record e { left = e.left ++ c.args.items.now }) c.self.view_is
