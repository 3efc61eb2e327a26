use Rattle.std.proofs.Common.{◌≡◌, ◌-◌, length, refl, ap, arith}
use Rattle.std.proofs.lemmas.List.{append-nil, drop_all}
use Rattle.trac_gap.specs.Ends.{Ends}
use Rattle.trac_text.proofs.ends.refill.Goals as goal

pub returns : goal.returns
returns g c =
    let old = g.E.TwoEnds.ends c.args.list.now in
    let none : length old.left - length c.left.result.now ≡ 0 = omega (arith, ap length c.left.ensures.left) in
    let gone = drop_all (length c.right.result.now) old.right (omega (arith, ap length c.right.ensures.right, ap (λ (e : Ends g.row.T.Denot). length e.right) c.cut_left.ensures)) in
    rw (c.put_right.ensures, c.put_left.ensures, c.cut_right.ensures, c.cut_left.ensures, none, gone, append-nil) refl
