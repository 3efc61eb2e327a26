-- One item more, and no more than all.
use Rattle.std.proofs.Common.{◌+◌, sym, arith}
use Rattle.trac_rules.specs.Form.{all_items}
use Rattle.trac_forms.proofs.Extents.{extent-take}
use Rattle.trac_follow_step.proofs.Spans.{stands_for_more}
use Rattle.trac_follow_step.proofs.items.extent_before.Goals as goal

pub overflow_add-bytes : goal.overflow_add-bytes
overflow_add-bytes g c =
    omega (
      arith,
      c.loop-i.invariant,
      c.width_of-bytes.ensures,
      stands_for_more (all_items c.args.form.now) c.loop-i.i c.in-Some.item (sym c.in-Some.ensures),
      extent-take (c.loop-i.i + 1) (all_items c.args.form.now),
      c.len-count.ensures.within,
    )

pub loop-i-preserved : goal.loop-i-preserved
loop-i-preserved g c =
    omega (arith, c.loop-i.invariant, c.width_of-bytes.ensures, stands_for_more (all_items c.args.form.now) c.loop-i.i c.in-Some.item (sym c.in-Some.ensures))
