use Rattle.std.proofs.Common.{sym, ◌∙◌, arith}
use Rattle.trac_debug.proofs.Counted.{no_count, counted, value_more, small_more, all_more}
use Rattle.trac_debug.proofs.command.count.Goals as goal

pub returns-then-not-is_ascii_digit : goal.returns-then-not-is_ascii_digit
returns-then-not-is_ascii_digit c =
    sym (no_count c.args.word.now c.loop-byte.byte-index c.loop-byte-test.true (sym c.is_ascii_digit.ensures.value ∙ c.if-not-is_ascii_digit.true))

pub loop-byte-preserved : goal.loop-byte-preserved
loop-byte-preserved c = record {
  value = value_more c.args.word.now c.loop-byte.byte-index c.loop-byte.number c.from.result c.loop-byte-test.true
      (omega (arith, c.if-not-is_ascii_digit.ensures.cases)) (omega (arith, c.if-not-is_ascii_digit.ensures.cases)) c.loop-byte.invariant.value (omega (arith, c.from.ensures));
  digits = all_more c.args.word.now c.loop-byte.byte-index c.loop-byte-test.true c.loop-byte.invariant.digits
      (sym c.is_ascii_digit.ensures.value ∙ c.if-not-is_ascii_digit.false);
  small = small_more c.loop-byte.byte-index c.loop-byte.number c.from.result (omega (arith, c.from.ensures, c.if-not-is_ascii_digit.ensures.cases)) c.loop-byte.invariant.small;
}

pub returns : goal.returns
returns c =
    counted c.args.word.now c.loop-byte.byte-index c.loop-byte.number (sym c.is_empty.ensures ∙ c.if-is_empty.false) (omega arith) c.loop-byte-test.false c.loop-byte.invariant.value
    c.loop-byte.invariant.digits
