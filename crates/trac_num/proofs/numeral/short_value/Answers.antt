-- The digits after a sign write less than the greatest integer of the code.
use Rattle.std.proofs.Common.{◌≡◌, ℕ, List, ◌∙◌, ap, sym, arith}
use Rattle.std.proofs.lemmas.List.{take_all}
use Rattle.std.specs.Str.Parse.{digits_value}
use Rattle.trac_num.proofs.Sums.{one_more, short_held, short_minus, short_plain, sum_below, turned_held}
use Rattle.trac_num.proofs.numeral.short_value.Goals as goal

pub overflow_mul-sum : goal.overflow_mul-sum
overflow_mul-sum c =
    let more = one_more c.args.numeral.now c.unsigned-digits.result.now c.loop-digit.digit-index c.loop-digit.sum c.requires.form c.requires.short c.unsigned-digits.ensures (omega arith) c.loop-digit.invariant in
    omega (arith, more.below)

pub overflow_sub-digit : goal.overflow_sub-digit
overflow_sub-digit c =
    (one_more c.args.numeral.now c.unsigned-digits.result.now c.loop-digit.digit-index c.loop-digit.sum c.requires.form c.requires.short c.unsigned-digits.ensures (omega arith) c.loop-digit.invariant).low

pub overflow_add-sum : goal.overflow_add-sum
overflow_add-sum c =
    let more = one_more c.args.numeral.now c.unsigned-digits.result.now c.loop-digit.digit-index c.loop-digit.sum c.requires.form c.requires.short c.unsigned-digits.ensures (omega arith) c.loop-digit.invariant in
    omega (arith, more.below, c.from.ensures)

pub loop-digit-preserved : goal.loop-digit-preserved
loop-digit-preserved c =
    let more = one_more c.args.numeral.now c.unsigned-digits.result.now c.loop-digit.digit-index c.loop-digit.sum c.requires.form c.requires.short c.unsigned-digits.ensures (omega arith) c.loop-digit.invariant in
    omega (arith, more.value, c.from.ensures)

pub overflow_cast-sum : goal.overflow_cast-sum
overflow_cast-sum c =
    let sum : c.loop-digit.sum ≡ digits_value 10 c.unsigned-digits.result.now = c.loop-digit.invariant ∙ ap (λ (ds : List ℕ). digits_value 10 ds) (take_all c.loop-digit.digit-index c.unsigned-digits.result.now c.loop-digit-test.false) in
    short_held c.loop-digit.sum (sum_below c.args.numeral.now c.unsigned-digits.result.now c.loop-digit.sum c.requires.form c.requires.short c.unsigned-digits.ensures sum)

pub overflow_sub-result : goal.overflow_sub-result
overflow_sub-result c =
    let sum : c.loop-digit.sum ≡ digits_value 10 c.unsigned-digits.result.now = c.loop-digit.invariant ∙ ap (λ (ds : List ℕ). digits_value 10 ds) (take_all c.loop-digit.digit-index c.unsigned-digits.result.now c.loop-digit-test.false) in
    turned_held c.loop-digit.sum (sum_below c.args.numeral.now c.unsigned-digits.result.now c.loop-digit.sum c.requires.form c.requires.short c.unsigned-digits.ensures sum)

pub returns-then-has_minus-clause-number : goal.returns-then-has_minus-clause-number
returns-then-has_minus-clause-number c =
    let sum : c.loop-digit.sum ≡ digits_value 10 c.unsigned-digits.result.now = c.loop-digit.invariant ∙ ap (λ (ds : List ℕ). digits_value 10 ds) (take_all c.loop-digit.digit-index c.unsigned-digits.result.now c.loop-digit-test.false) in
    short_minus c.args.numeral.now c.unsigned-digits.result.now c.loop-digit.sum (sum_below c.args.numeral.now c.unsigned-digits.result.now c.loop-digit.sum c.requires.form c.requires.short c.unsigned-digits.ensures sum) c.unsigned-digits.ensures sum (sym c.has_minus.ensures ∙ c.if-has_minus.true)

pub returns-else-has_minus-clause-number : goal.returns-else-has_minus-clause-number
returns-else-has_minus-clause-number c =
    let sum : c.loop-digit.sum ≡ digits_value 10 c.unsigned-digits.result.now = c.loop-digit.invariant ∙ ap (λ (ds : List ℕ). digits_value 10 ds) (take_all c.loop-digit.digit-index c.unsigned-digits.result.now c.loop-digit-test.false) in
    short_plain c.args.numeral.now c.unsigned-digits.result.now c.loop-digit.sum (sum_below c.args.numeral.now c.unsigned-digits.result.now c.loop-digit.sum c.requires.form c.requires.short c.unsigned-digits.ensures sum) c.unsigned-digits.ensures sum (sym c.has_minus.ensures ∙ c.if-has_minus.false)
