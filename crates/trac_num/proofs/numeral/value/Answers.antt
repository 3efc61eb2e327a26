-- What std does not read in 64 bits it reads in 128, where the width is so wide.
use Rattle.std.proofs.Common.{◌∙◌, arith}
use Rattle.trac_rules.specs.declared.width.Width.TheVariants.{W128}
use Rattle.trac_num.proofs.Parsed.{longer_is_numeral, no_narrow_number, number_of_narrow, number_of_short, parsed_number, utf8_numeral}
use Rattle.trac_num.proofs.numeral.value.Goals as goal

pub returns-in_default : goal.returns-in_default
returns-in_default c = absurd ((c.in_default.ensures).cases.0 (utf8_numeral c.args.numeral.now c.requires))

pub returns-in-Ok-parse : goal.returns-in-Ok-parse
returns-in-Ok-parse c =
    let same = (c.in-Ok.ensures).cases.0 in
    number_of_narrow c.args.width c.args.numeral.now c.parse.result c.in-Ok-parse.n (longer_is_numeral c.args.numeral.now c.requires (omega (arith, c.if-numeral-le-SHORT.false))) (rw same at c.parse.ensures.value.0) c.in-Ok-parse.is

pub returns-in-W64 : goal.returns-in-W64
returns-in-W64 c =
    let same = (c.in-Ok.ensures).cases.0 in
    rw c.in-W64.is (no_narrow_number c.args.numeral.now c.parse.result c.in_default-parse.field-0 (longer_is_numeral c.args.numeral.now c.requires (omega (arith, c.if-numeral-le-SHORT.false))) (rw same at c.parse.ensures.value.0) c.in_default-parse.is)

pub returns-in-W128 : goal.returns-in-W128
returns-in-W128 c =
    let same = (c.in-Ok.ensures).cases.0 in
    rw c.in-W128.is (c.ok.ensures.value ∙ parsed_number W128 c.args.numeral.now c.parse-in-W128.result (longer_is_numeral c.args.numeral.now c.requires (omega (arith, c.if-numeral-le-SHORT.false))) (rw same at c.parse-in-W128.ensures.value.0))

pub returns-then-numeral-le-SHORT : goal.returns-then-numeral-le-SHORT
returns-then-numeral-le-SHORT c = number_of_short c.args.width c.args.numeral.now c.short_value.result c.short_value.ensures.number c.short_value.ensures.fits
