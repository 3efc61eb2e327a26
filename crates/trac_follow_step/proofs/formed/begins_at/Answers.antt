-- One byte after another.
use Rattle.std.proofs.Common.{true, false, sym, ap, ◌∙◌, arith}
use Rattle.trac_rules.specs.Form.{all_items}
use Rattle.trac_follow_step.specs.Formed.{is_byte}
use Rattle.trac_follow_step.proofs.UntilTold.{begins_by, begins_end}
use Rattle.trac_follow_step.proofs.formed.begins_at.Goals as goal

pub loop-at-preserved : goal.loop-at-preserved
loop-at-preserved g c =
    let items = all_items c.args.form.now in
    begins_by items c.loop-at.at c.in-Some.first.now c.loop-at.rest.now c.in-Some.others.now _ true c.loop-at.invariant c.in-Some.ensures.cases.0
    (ap (λ found. is_byte found c.in-Some.first.now) (sym c.item.ensures) ∙ sym c.is_byte.ensures ∙ c.if-not-is_byte.false)

pub returns-then-not-is_byte : goal.returns-then-not-is_byte
returns-then-not-is_byte g c =
    let items = all_items c.args.form.now in
    sym (begins_by items c.loop-at.at c.in-Some.first.now c.loop-at.rest.now c.in-Some.others.now _ false c.loop-at.invariant c.in-Some.ensures.cases.0
    (ap (λ found. is_byte found c.in-Some.first.now) (sym c.item.ensures) ∙ sym c.is_byte.ensures ∙ c.if-not-is_byte.true))

pub returns : goal.returns
returns g c =
    begins_end (all_items c.args.form.now) c.loop-at.at c.loop-at.rest.now _ c.is_empty.result c.loop-at.invariant (omega (arith, c.loop-at-test.false, c.len-at-end.ensures.len)) c.is_empty.ensures
