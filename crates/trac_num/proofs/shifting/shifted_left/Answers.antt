-- Whole digits are lost at the left, and zeros come in at the right.
use Rattle.std.proofs.Common.{◌≡◌, ◌*◌, ◌++◌, ◌+◌, ◌-◌, ◌≤◌, length, min, take, drop, replicate, vec_len, ap, ◌∙◌, arith, rules}
use Rattle.trac_rules.specs.declared.octals.TheConstants.{ZERO}
use Rattle.trac_rules.specs.Octal.{bits_of, is_octal}
use Rattle.trac_num.proofs.Bits.{octal-append, octal-drop, octal-zeros}
use Rattle.trac_num.proofs.Sliding.{filled, shifted_left_by_digits}
use Rattle.trac_num.proofs.shifting.shifted_left.Goals as goal

pub slide-requires-clause-octal : goal.slide-requires-clause-octal
slide-requires-clause-octal g c =
    let rest : c.extend_from_slice.new.self.items ≡ drop c.min-lost.result c.args.a.now = search rules in
    let made : c.resize.new.self.items ≡ take (length c.args.a.now + 1) c.extend_from_slice.new.self.items ++ replicate (length c.args.a.now + 1 - vec_len c.extend_from_slice.new.self) ZERO = search rules in
    let within : c.min-lost.result ≤ length c.args.a.now = omega (arith, c.min-lost.ensures) in
    ap is_octal (made ∙ filled c.args.a.now c.extend_from_slice.new.self.items c.min-lost.result (vec_len c.extend_from_slice.new.self) within rest (search rules))
    ∙ octal-append (drop c.min-lost.result c.args.a.now) (replicate (c.min-lost.result + 1) ZERO) (octal-drop c.min-lost.result c.args.a.now c.requires) (octal-zeros (c.min-lost.result + 1))

pub returns-clause-bits : goal.returns-clause-bits
returns-clause-bits g c =
    let rest : c.extend_from_slice.new.self.items ≡ drop c.min-lost.result c.args.a.now = search rules in
    let made : c.resize.new.self.items ≡ take (length c.args.a.now + 1) c.extend_from_slice.new.self.items ++ replicate (length c.args.a.now + 1 - vec_len c.extend_from_slice.new.self) ZERO = search rules in
    let within : c.min-lost.result ≤ length c.args.a.now = omega (arith, c.min-lost.ensures) in
    c.slide.ensures.bits ∙ ap (λ part. take (3 * (length c.resize.new.self.items - 1)) (drop part (bits_of c.resize.new.self.items))) c.digits_and_bits-whole.ensures.bits ∙ shifted_left_by_digits c.args.a.now c.resize.new.self.items c.args.by c.min-lost.result (c.min-lost.ensures ∙ ap (min (length c.args.a.now)) c.digits_and_bits-whole.ensures.digits)
    (made ∙ filled c.args.a.now c.extend_from_slice.new.self.items c.min-lost.result (vec_len c.extend_from_slice.new.self) within rest (search rules))
