-- All digits are met.
use Rattle.std.proofs.Common.{◌≡◌, ◌++◌, ◌∷◌, [], ◌<◌, length, get_or, ap, sym, ◌∙◌, arith, rules}
use Rattle.std.specs.Prelude.{bit_and}
use Rattle.trac_rules.specs.Octal.{bits_of, is_octal}
use Rattle.trac_num.proofs.EachDigit.{bits_of-meet, met, octal-met, same_length}
use Rattle.trac_num.proofs.Pairs.{pairwise_next}
use Rattle.trac_num.proofs.bitwise.meet.Goals as goal

pub loop-i-preserved : goal.loop-i-preserved
loop-i-preserved g c =
    let first = c.split_at.result.1.now in
    let second = c.split_at-2.result.1.now in
    let met_here = bit_and (get_or first c.loop-i.i 0) (get_or second c.loop-i.i 0) in
    let within : c.loop-i.i < length second =
    omega (arith, c.loop-i-test.true, same_length c.args.a.now c.args.b.now first second c.min-common.result c.min-common.ensures c.split_at.ensures.back c.split_at-2.ensures.back) in
    let pushed : c.push.new.self.items ≡ c.loop-i.digits.items ++ met_here ∷ [] = search rules in
    pushed ∙ ap (λ t. t ++ met_here ∷ []) c.loop-i.invariant ∙ sym (pairwise_next bit_and first second c.loop-i.i c.loop-i-test.true within)

pub returns-clause-bits : goal.returns-clause-bits
returns-clause-bits g c =
    ap bits_of (met c.args.a.now c.args.b.now c.loop-i.digits.items c.split_at.result.1.now c.split_at-2.result.1.now c.min-common.result c.loop-i.i
    c.min-common.ensures c.split_at.ensures.back c.split_at-2.ensures.back c.loop-i-test.false c.loop-i.invariant)
    ∙ bits_of-meet c.args.a.now c.args.b.now c.min-common.result c.min-common.ensures c.requires.octal_a c.requires.octal_b

pub returns-clause-octal : goal.returns-clause-octal
returns-clause-octal g c =
    ap is_octal (met c.args.a.now c.args.b.now c.loop-i.digits.items c.split_at.result.1.now c.split_at-2.result.1.now c.min-common.result c.loop-i.i
    c.min-common.ensures c.split_at.ensures.back c.split_at-2.ensures.back c.loop-i-test.false c.loop-i.invariant)
    ∙ octal-met c.args.a.now c.args.b.now c.min-common.result c.requires.octal_a c.requires.octal_b
