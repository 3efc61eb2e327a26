use Rattle.std.proofs.Common.{refl, sym, ◌∙◌, arith}
use Rattle.trac_gap.proofs.Parts.{part_down, joined_down}
use Rattle.trac_gap.proofs.Pasted.{pasted_none}
use Rattle.trac_gap.proofs.slots.Slots.parts_down.Goals as goal

pub loop-done-init : goal.loop-done-init
loop-done-init g c = record { at = refl; slots = sym (pasted_none _ _); within = omega arith }

pub shift_part-requires : goal.shift_part-requires
shift_part-requires g c =
    let s = c.loop-done in
    let next = part_down c.args.self.now.slots s.self.slots s.self.slots c.args.from c.args.to c.args.count c.requires.4 s.done g.row.N (omega (arith, c.requires.5)) c.requires.1 c.requires.2 s.invariant.slots in
    (c.requires.0 ∙ sym s.invariant.at, next.0, next.1, omega (arith, next.2, c.requires.3), next.3)

pub loop-done-smaller : goal.loop-done-smaller
loop-done-smaller g c = omega (arith, c.requires.5)

pub loop-done-preserved : goal.loop-done-preserved
loop-done-preserved g c =
    let s = c.loop-done in
    record {
      at = c.shift_part.ensures.0 ∙ s.invariant.at;
      slots = joined_down c.args.self.now.slots s.self.slots _ c.args.from c.args.to c.args.count c.requires.4 s.done g.row.N (omega (arith, c.requires.5)) c.requires.1 c.requires.2 s.invariant.slots c.shift_part.ensures.1;
      within = omega (arith, c.requires.5);
    }
