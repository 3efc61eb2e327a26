-- All digits are joined.
use Rattle.std.proofs.Common.{◌≡◌, ◌++◌, ◌∷◌, [], ◌<◌, ◌+◌, ◌-◌, length, take, get_or, ap, sym, ◌∙◌, arith, rules}
use Rattle.std.specs.Prelude.{bit_or}
use Rattle.std.proofs.lemmas.List.{append_assoc, length-drop}
use Rattle.trac_rules.specs.Octal.{bits_of, is_octal}
use Rattle.trac_num.proofs.EachDigit.{bits_of-joined, joined, octal-joined}
use Rattle.trac_num.proofs.Pairs.{pairwise, pairwise_next}
use Rattle.trac_num.proofs.bitwise.union_of_longer.Goals as goal

pub loop-i-preserved : goal.loop-i-preserved
loop-i-preserved g c =
    let long = c.args.long.now in
    let short = c.args.short.now in
    let right = c.split_at.result.1.now in
    let left = take (length long - length short) long in
    let joined_here = bit_or (get_or right c.loop-i.i 0) (get_or short c.loop-i.i 0) in
    let within : c.loop-i.i < length right =
    omega (arith, c.loop-i-test.true, c.requires.longer, ap length c.split_at.ensures.back, length-drop (length long - length short) long) in
    let pushed : c.push.new.self.items ≡ c.loop-i.digits.items ++ joined_here ∷ [] = search rules in
    pushed ∙ ap (λ t. t ++ joined_here ∷ []) c.loop-i.invariant
    ∙ append_assoc left (pairwise bit_or (take c.loop-i.i right) (take c.loop-i.i short)) (joined_here ∷ [])
    ∙ ap (λ t. left ++ t) (sym (pairwise_next bit_or right short c.loop-i.i within c.loop-i-test.true))

pub returns-clause-bits : goal.returns-clause-bits
returns-clause-bits g c =
    let n = length c.args.long.now - length c.args.short.now in
    let rest : n + length c.args.short.now ≡ length c.args.long.now = omega (arith, c.requires.longer) in
    ap bits_of (joined c.args.long.now c.args.short.now c.loop-i.digits.items c.split_at.result.1.now n c.loop-i.i rest c.split_at.ensures.back c.loop-i-test.false c.loop-i.invariant)
    ∙ bits_of-joined c.args.long.now c.args.short.now n rest c.requires.octal_long c.requires.octal_short

pub returns-clause-octal : goal.returns-clause-octal
returns-clause-octal g c =
    let n = length c.args.long.now - length c.args.short.now in
    let rest : n + length c.args.short.now ≡ length c.args.long.now = omega (arith, c.requires.longer) in
    ap is_octal (joined c.args.long.now c.args.short.now c.loop-i.digits.items c.split_at.result.1.now n c.loop-i.i rest c.split_at.ensures.back c.loop-i-test.false c.loop-i.invariant)
    ∙ octal-joined c.args.long.now c.args.short.now n c.requires.octal_long c.requires.octal_short
