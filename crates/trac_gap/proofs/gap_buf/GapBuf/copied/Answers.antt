use Rattle.std.proofs.Common.{◌≡◌, [], length, drop, ap, refl, arith, drop_of_length-le}
use Rattle.std.specs.Prelude.{Option, None}
use Rattle.std.proofs.lemmas.List.{append-nil, length-replicate}
use Rattle.trac_gap.proofs.gap_buf.GapBuf.copied.Goals as goal

pub returns : goal.returns
returns g c =
    let places = c.in_ok-start.places.slots in
    let count = ap length c.in_ok-start.ensures.1 in
    let none : drop c.args.capacity places ≡ [] = drop_of_length-le places (omega (arith, count, length-replicate c.args.capacity (let none : Option g.row.T.Denot = None in none))) in
    rw (c.put_right.ensures, c.put_left.ensures, none, c.left.ensures.left, c.right.ensures.right, append-nil) refl
