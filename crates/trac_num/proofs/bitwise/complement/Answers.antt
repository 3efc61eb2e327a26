-- All digits are turned over.
use Rattle.std.proofs.Common.{ap, map, ◌∙◌}
use Rattle.std.proofs.lemmas.List.{take_all}
use Rattle.trac_rules.specs.Octal.{bits_of, is_octal}
use Rattle.trac_num.proofs.EachDigit.{bits_of-complement, flipped, octal-complement}
use Rattle.trac_num.proofs.bitwise.complement.Goals as goal

pub returns-clause-bits : goal.returns-clause-bits
returns-clause-bits g c =
    ap bits_of (c.loop-digit.invariant ∙ ap (map flipped) (take_all c.loop-digit.digit-index c.args.a.now c.loop-digit-test.false))
    ∙ bits_of-complement c.args.a.now c.requires

pub returns-clause-octal : goal.returns-clause-octal
returns-clause-octal g c =
    ap is_octal (c.loop-digit.invariant ∙ ap (map flipped) (take_all c.loop-digit.digit-index c.args.a.now c.loop-digit-test.false))
    ∙ octal-complement c.args.a.now c.requires
