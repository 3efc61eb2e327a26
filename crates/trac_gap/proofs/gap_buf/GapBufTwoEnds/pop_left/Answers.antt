use Rattle.std.proofs.Common.{◌<◌, ap, sym, ◌∙◌, arith}
use Rattle.trac_gap.specs.GapBuf.{buffer_ends}
use Rattle.trac_gap.proofs.Halves.{last_some, popped_left}
use Rattle.trac_gap.proofs.gap_buf.GapBufTwoEnds.pop_left.Goals as goal

pub item-requires : goal.item-requires
item-requires g c =
    let some : 0 < c.self.inside.gap_start = omega arith in let last = last_some c.self.inside c.self.invariant some in
    (sym c.self.invariant.places_at, last.0, last.1)

pub invariant_of-self : goal.invariant_of-self
invariant_of-self g c =
    let some : 0 < c.self.inside.gap_start = omega arith in (popped_left c.self.inside c.self.invariant some c.item.result c.item.ensures).0

pub returns : goal.returns
returns g c =
    let some : 0 < c.self.inside.gap_start = omega arith in let e = (popped_left c.self.inside c.self.invariant some c.item.result c.item.ensures).1 in
    sym c.self.view_is ∙ ap (λ ls. record (buffer_ends c.self.inside) { left = ls }) e
