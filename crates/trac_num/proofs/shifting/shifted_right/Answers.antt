-- Zeros come in at the left, and whole digits are lost at the right.
use Rattle.std.proofs.Common.{◌≡◌, drop, ◌*◌, ◌++◌, ◌+◌, ◌-◌, length, min, take, replicate, ap, ◌∙◌, rules}
use Rattle.trac_rules.specs.declared.octals.TheConstants.{ZERO}
use Rattle.trac_rules.specs.Octal.{bits_of, is_octal}
use Rattle.trac_num.proofs.Bits.{octal-append, octal-take, octal-zeros}
use Rattle.trac_num.proofs.Sliding.{shifted_right_by_digits}
use Rattle.trac_num.proofs.shifting.shifted_right.Goals as goal

pub slide-requires-clause-octal : goal.slide-requires-clause-octal
slide-requires-clause-octal g c =
    let zeros : c.resize.new.self.items ≡ replicate (c.min-lost.result + 1) ZERO = search rules in
    let made : c.extend_from_slice.new.self.items ≡ replicate (c.min-lost.result + 1) ZERO ++ take (length c.args.a.now - c.min-lost.result) c.args.a.now = search rules in
    ap is_octal made ∙ octal-append (replicate (c.min-lost.result + 1) ZERO) (take (length c.args.a.now - c.min-lost.result) c.args.a.now)
    (octal-zeros (c.min-lost.result + 1)) (octal-take (length c.args.a.now - c.min-lost.result) c.args.a.now c.requires)

pub returns-clause-bits : goal.returns-clause-bits
returns-clause-bits g c =
    let zeros : c.resize.new.self.items ≡ replicate (c.min-lost.result + 1) ZERO = search rules in
    let made : c.extend_from_slice.new.self.items ≡ replicate (c.min-lost.result + 1) ZERO ++ take (length c.args.a.now - c.min-lost.result) c.args.a.now = search rules in
    c.slide.ensures.bits ∙ ap (λ part. take (3 * (length c.extend_from_slice.new.self.items - 1)) (drop (3 - part) (bits_of c.extend_from_slice.new.self.items))) c.digits_and_bits-whole.ensures.bits ∙ shifted_right_by_digits c.args.a.now c.extend_from_slice.new.self.items c.args.by c.min-lost.result (c.min-lost.ensures ∙ ap (min (length c.args.a.now)) c.digits_and_bits-whole.ensures.digits) made
