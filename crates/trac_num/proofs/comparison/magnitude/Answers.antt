use Rattle.std.proofs.Common.{ap, ◌∙◌, arith}
use Rattle.std.proofs.lemmas.List.{get_or_past}
use Rattle.std.specs.Str.{all_ascii_digits}
use Rattle.std.specs.Str.Parse.{digits_value}
use Rattle.trac_num.proofs.Larger.{cut_is_magnitude}
use Rattle.trac_num.proofs.Sums.{digits_of}
use Rattle.trac_num.proofs.comparison.magnitude.Goals as goal

pub returns-then-first-ne48 : goal.returns-then-first-ne48
returns-then-first-ne48 c =
    let digits = ap all_ascii_digits c.unsigned-digits.ensures ∙ digits_of c.args.numeral.now c.requires in
    record {
      form = cut_is_magnitude c.unsigned-digits.result.now c.split_at.result.1.now c.loop-place.place digits c.if-first-ne48.true c.split_at.ensures.back;
      value = ap (digits_value 10) c.split_at.ensures.back ∙ c.loop-place.invariant.value ∙ ap (digits_value 10) c.unsigned-digits.ensures;
    }

pub returns : goal.returns
returns c =
    let digits = ap all_ascii_digits c.unsigned-digits.ensures ∙ digits_of c.args.numeral.now c.requires in
    let past = get_or_past c.unsigned-digits.result.now c.loop-place.place 0 c.loop-place-test.false in
    record {
      form = cut_is_magnitude c.unsigned-digits.result.now c.split_at-2.result.1.now c.loop-place.place digits (λ e. omega (arith, e, past)) c.split_at-2.ensures.back;
      value = ap (digits_value 10) c.split_at-2.ensures.back ∙ c.loop-place.invariant.value ∙ ap (digits_value 10) c.unsigned-digits.ensures;
    }
