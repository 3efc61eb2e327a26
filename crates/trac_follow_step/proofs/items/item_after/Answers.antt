-- One item more.
use Rattle.std.proofs.Common.{sym, arith}
use Rattle.trac_rules.specs.Form.{all_items}
use Rattle.trac_follow_step.proofs.Spans.{none_at_end, none_within, stands_for_more}
use Rattle.trac_follow_step.proofs.items.item_after.Goals as goal

pub loop-place-preserved : goal.loop-place-preserved
loop-place-preserved g c =
    omega (
      arith,
      c.loop-place.invariant,
      c.width_of-width.ensures,
      c.if-width-left.false,
      stands_for_more (all_items c.args.form.now) c.loop-place.place c.in-Some.item (sym c.in-Some.ensures),
    )

pub returns-then-width-left : goal.returns-then-width-left
returns-then-width-left g c =
    none_within (all_items c.args.form.now) c.loop-place.place c.in-Some.item c.loop-place.left c.args.bytes (sym c.in-Some.ensures) c.loop-place.invariant
    (omega (arith, c.if-left-eq0.false)) (omega (arith, c.width_of-width.ensures, c.if-width-left.true))

pub returns : goal.returns
returns g c =
    none_at_end (all_items c.args.form.now) c.loop-place.place c.loop-place.left c.args.bytes (omega (arith, c.loop-place-test.false, c.len-place-end.ensures.len)) c.loop-place.invariant
    c.len-place-end.ensures.wide
