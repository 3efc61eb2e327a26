use Rattle.std.proofs.Common.{sym, ap, ◌∙◌, ◌+◌, ◌-◌, ◌≤◌, length, drop, take_all, arith}
use Rattle.std.proofs.lemmas.List.{length-take}
use Rattle.trac_gap.specs.Slots.{run, pasted}
use Rattle.trac_gap.proofs.Parts.{part_down, joined_first}
use Rattle.trac_gap.proofs.slots.Slots.shift_down.Goals as goal

pub parts_down-more-requires : goal.parts_down-more-requires
parts_down-more-requires g c =
    let old = c.args.self.now.slots in let s = c.parts_down-long in let now = s.new.self.slots in
    let next = part_down old now now c.args.from c.args.to c.args.count c.requires.4 s.result (c.args.count - s.result) (omega (arith, s.ensures.most)) c.requires.1 c.requires.2 s.ensures.copied.1 in
    (c.requires.0 ∙ sym s.ensures.copied.0, next.0, omega (arith, c.requires.2), omega (arith, next.2, c.requires.3), next.3, omega arith)

pub parts_down-requires : goal.parts_down-requires
parts_down-requires g c =
    let old = c.args.self.now.slots in let s = c.parts_down-long in let t = c.parts_down-more in let now = t.new.self.slots in let done = s.result + t.result in
    let before = joined_first old s.new.self.slots now c.args.from c.args.to c.args.count c.requires.4 s.result t.result (omega (arith, s.ensures.most, t.ensures.most)) c.requires.1 c.requires.2 s.ensures.copied.1 (c.args.count - s.result) t.ensures.most.0 t.ensures.copied.1 in
    let next = part_down old now now c.args.from c.args.to c.args.count c.requires.4 done (c.args.count - done) (omega (arith, s.ensures.most, t.ensures.most)) c.requires.1 c.requires.2 before in
    (c.requires.0 ∙ sym (t.ensures.copied.0 ∙ s.ensures.copied.0), next.0, omega (arith, c.requires.2), omega (arith, next.2, c.requires.3), next.3, omega arith)

pub returns : goal.returns
returns g c =
    let old = c.args.self.now.slots in let s = c.parts_down-long in let t = c.parts_down-more in let u = c.parts_down in let now = t.new.self.slots in let done = s.result + t.result in
    let ws = run c.args.from c.args.count old in
    let before = joined_first old s.new.self.slots now c.args.from c.args.to c.args.count c.requires.4 s.result t.result (omega (arith, s.ensures.most, t.ensures.most)) c.requires.1 c.requires.2 s.ensures.copied.1 (c.args.count - s.result) t.ensures.most.0 t.ensures.copied.1 in
    let after = joined_first old now u.new.self.slots c.args.from c.args.to c.args.count c.requires.4 done u.result (omega (arith, s.ensures.most, t.ensures.most, u.ensures.most)) c.requires.1 c.requires.2 before (c.args.count - done) u.ensures.most.0 u.ensures.copied.1 in
    let all : c.args.count ≤ done + u.result = omega (arith, u.ensures.most) in
    let short : length ws ≤ done + u.result = omega (arith, all, length-take c.args.count (drop c.args.from old)) in
    (u.ensures.copied.0 ∙ t.ensures.copied.0 ∙ s.ensures.copied.0, after ∙ ap (pasted old c.args.to) (take_all (done + u.result) ws short))
