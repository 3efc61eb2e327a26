use Rattle.std.proofs.Common.{refl, sym, ap, ◌∙◌, ◌≡◌, ◌+◌, ◌-◌, drop, [], arith, drop_of_length-le}
use Rattle.std.proofs.lemmas.List.{length-take}
use Rattle.trac_gap.specs.Slots.{run, pasted}
use Rattle.trac_gap.proofs.Parts.{part_up, joined_up}
use Rattle.trac_gap.proofs.Pasted.{pasted_none}
use Rattle.trac_gap.proofs.slots.Slots.parts_up.Goals as goal

pub loop-left-init : goal.loop-left-init
loop-left-init g c =
    let old = c.args.self.now.slots in let ws = run c.args.from c.args.count old in
    let none : drop c.args.count ws ≡ [] = drop_of_length-le ws (omega (arith, length-take c.args.count (drop c.args.from old))) in
    record { at = refl; slots = sym (ap (pasted old (c.args.to + c.args.count)) none ∙ pasted_none old _); within = omega arith }

pub shift_part-requires : goal.shift_part-requires
shift_part-requires g c =
    let s = c.loop-left in let n = g.row.N in let low = s.left - n in
    let next = part_up c.args.self.now.slots s.self.slots s.self.slots c.args.from c.args.to c.args.count c.requires.4 low n s.left (c.args.from + low) (c.args.to + low) (omega arith) refl refl s.invariant.within c.requires.1 c.requires.2 s.invariant.slots in
    (c.requires.0 ∙ sym s.invariant.at, next.0, next.1, omega (arith, next.2, c.requires.3), next.3)

pub loop-left-smaller : goal.loop-left-smaller
loop-left-smaller g c = omega (arith, c.requires.5)

pub loop-left-preserved : goal.loop-left-preserved
loop-left-preserved g c =
    let s = c.loop-left in let n = g.row.N in let low = s.left - n in
    record {
      at = c.shift_part.ensures.0 ∙ s.invariant.at;
      slots = joined_up c.args.self.now.slots s.self.slots _ c.args.from c.args.to c.args.count c.requires.4 low n s.left (c.args.from + low) (c.args.to + low) (omega arith) refl refl s.invariant.within c.requires.1 c.requires.2 s.invariant.slots c.shift_part.ensures.1;
      within = omega (arith, s.invariant.within);
    }
