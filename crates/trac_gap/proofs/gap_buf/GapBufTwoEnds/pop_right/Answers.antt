use Rattle.std.proofs.Common.{◌<◌, sym, arith}
use Rattle.trac_gap.proofs.Halves.{first_some}
use Rattle.trac_gap.proofs.gap_buf.GapBufTwoEnds.pop_right.Goals as goal

pub item-first-requires : goal.item-first-requires
item-first-requires g c =
    let some : c.self.inside.gap_end < c.self.inside.capacity = omega (arith, c.self.invariant.within) in let first = first_some c.self.inside c.self.invariant some in
    (sym c.self.invariant.places_at, first.0, first.1)
