-- The tail is all of the text, or stands after another byte.
use Rattle.std.proofs.Common.{sym, ◌∙◌}
use Rattle.trac_num.proofs.Tails.{octal_tail_after_place, octal_tail_whole}
use Rattle.trac_num.proofs.octal.octal_tail.Goals as goal
use Rattle.trac_num.proofs.octal.octal_tail.Goals.{then-loop-from-test+else-is_octal_digit, else-loop-from-test}

pub returns-clause-value : goal.returns-clause-value
returns-clause-value c = c.split_at.ensures.back ∙ sym (elim c.loop-from-test.branch [
  | then-loop-from-test+else-is_octal_digit w ↦ octal_tail_after_place c.args.text.now c.loop-from.from w.loop-from-test.true c.loop-from.invariant.within (sym w.is_octal_digit.ensures ∙ w.if-is_octal_digit.false) c.loop-from.invariant.octal
  | else-loop-from-test w ↦ octal_tail_whole c.args.text.now c.loop-from.from w.loop-from-test.false c.loop-from.invariant.octal
])
