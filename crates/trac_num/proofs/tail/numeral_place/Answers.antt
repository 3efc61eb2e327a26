use Rattle.std.proofs.Common.{◌≡◌, ◌-◌, ◌<◌, false, get_or, sym, ◌∙◌, arith}
use Rattle.std.specs.Char.{is_ascii_digit}
use Rattle.trac_num.proofs.Digits.{digits_before}
use Rattle.trac_num.proofs.NumeralPlaces.{whole_or_none, sign_is_numeral, digits_are_numeral}
use Rattle.trac_num.proofs.tail.numeral_place.Goals as goal
use Rattle.trac_num.proofs.tail.numeral_place.Goals.{then-loop-digits-test+else-is_ascii_digit, else-loop-digits-test}

pub loop-digits-preserved : goal.loop-digits-preserved
loop-digits-preserved c = record {
  within = omega arith;
  digits = digits_before c.args.text.now c.loop-digits.digits c.loop-digits-test.true c.loop-digits.invariant.within (sym c.is_ascii_digit.ensures.value ∙ c.if-is_ascii_digit.true) c.loop-digits.invariant.digits;
}

pub returns-then-digits-eq0-clause-numeral : goal.returns-then-digits-eq0-clause-numeral
returns-then-digits-eq0-clause-numeral c =
    let before : 0 < c.loop-digits.digits → is_ascii_digit (get_or c.args.text.now (c.loop-digits.digits - 1) 0) ≡ false = elim c.loop-digits-test.branch [
      | then-loop-digits-test+else-is_ascii_digit w ↦ λ some. sym w.is_ascii_digit.ensures.value ∙ w.if-is_ascii_digit.false
      | else-loop-digits-test w ↦ λ some. absurd (omega (arith, some, w.loop-digits-test.false))
    ] in
    whole_or_none c.args.text.now c.loop-digits.digits c.then-digits-eq0.either c.loop-digits.invariant.digits before

pub returns-then-before-eq43-clause-numeral : goal.returns-then-before-eq43-clause-numeral
returns-then-before-eq43-clause-numeral c =
    sign_is_numeral c.args.text.now c.loop-digits.digits (omega arith) (omega arith) c.then-before-eq43.either c.loop-digits.invariant.digits

pub returns-clause-numeral : goal.returns-clause-numeral
returns-clause-numeral c =
    let before : 0 < c.loop-digits.digits → is_ascii_digit (get_or c.args.text.now (c.loop-digits.digits - 1) 0) ≡ false = elim c.loop-digits-test.branch [
      | then-loop-digits-test+else-is_ascii_digit w ↦ λ some. sym w.is_ascii_digit.ensures.value ∙ w.if-is_ascii_digit.false
      | else-loop-digits-test w ↦ λ some. absurd (omega (arith, some, w.loop-digits-test.false))
    ] in
    digits_are_numeral c.args.text.now c.loop-digits.digits (omega arith) (omega arith) c.if-before-eq43.false c.if-before-eq45.false (before (omega arith)) c.loop-digits.invariant.digits
