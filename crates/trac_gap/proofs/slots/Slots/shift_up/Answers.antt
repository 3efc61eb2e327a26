use Rattle.std.proofs.Common.{refl, sym, ap, ◌∙◌, ◌≡◌, ◌+◌, ◌-◌, drop, add-zero, arith}
use Rattle.trac_gap.specs.Slots.{run, pasted}
use Rattle.trac_gap.proofs.Parts.{part_up, joined_last}
use Rattle.trac_gap.proofs.slots.Slots.shift_up.Goals as goal

pub parts_up-few-requires : goal.parts_up-few-requires
parts_up-few-requires g c =
    let old = c.args.self.now.slots in let s = c.parts_up-left in let now = s.new.self.slots in
    let next = part_up old now now c.args.from c.args.to c.args.count c.requires.4 0 s.result s.result c.args.from c.args.to (omega arith) (omega arith) (omega arith) s.ensures.most.0 c.requires.1 c.requires.2 s.ensures.copied.1 in
    (c.requires.0 ∙ sym s.ensures.copied.0, next.1, c.requires.2, omega (arith, next.2, c.requires.3), next.3, omega arith)

pub parts_up-requires : goal.parts_up-requires
parts_up-requires g c =
    let old = c.args.self.now.slots in let s = c.parts_up-left in let t = c.parts_up-few in let now = t.new.self.slots in let k = t.result in
    let before = joined_last old s.new.self.slots now c.args.from c.args.to c.args.count c.requires.4 k (s.result - k) s.result (c.args.from + k) (c.args.to + k) (omega (arith, t.ensures.most.0)) refl refl s.ensures.most.0 c.requires.1 c.requires.2 s.ensures.copied.1 t.ensures.copied.1 in
    let next = part_up old now now c.args.from c.args.to c.args.count c.requires.4 0 k k c.args.from c.args.to (omega arith) (omega arith) (omega arith) (omega (arith, t.ensures.most.0, s.ensures.most.0)) c.requires.1 c.requires.2 before in
    (c.requires.0 ∙ sym (t.ensures.copied.0 ∙ s.ensures.copied.0), next.1, c.requires.2, omega (arith, next.2, c.requires.3), next.3, omega arith)

pub returns : goal.returns
returns g c =
    let old = c.args.self.now.slots in let s = c.parts_up-left in let t = c.parts_up-few in let u = c.parts_up in let now = t.new.self.slots in let k = t.result in
    let ws = run c.args.from c.args.count old in let none : u.result ≡ 0 = omega (arith, u.ensures.most.1) in
    let before = joined_last old s.new.self.slots now c.args.from c.args.to c.args.count c.requires.4 k (s.result - k) s.result (c.args.from + k) (c.args.to + k) (omega (arith, t.ensures.most.0)) refl refl s.ensures.most.0 c.requires.1 c.requires.2 s.ensures.copied.1 t.ensures.copied.1 in
    let after = joined_last old now u.new.self.slots c.args.from c.args.to c.args.count c.requires.4 u.result (k - u.result) k (c.args.from + u.result) (c.args.to + u.result) (omega (arith, u.ensures.most.0)) refl refl (omega (arith, t.ensures.most.0, s.ensures.most.0)) c.requires.1 c.requires.2 before u.ensures.copied.1 in
    (u.ensures.copied.0 ∙ t.ensures.copied.0 ∙ s.ensures.copied.0, after ∙ ap (λ j. pasted old (c.args.to + j) (drop j ws)) none ∙ ap (λ j. pasted old j ws) (add-zero c.args.to))
