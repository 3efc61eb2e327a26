use Rattle.std.proofs.Common.{sym, ◌∙◌, arith}
use Rattle.trac_rules.specs.Form.{all_items}
use Rattle.trac_state_lines.specs.StateLines.{escaped_item}
use Rattle.trac_state_lines.proofs.Shown.{shown_part}
use Rattle.trac_state_lines.proofs.form_lines.items_into.Goals as goal

pub loop-place-preserved : goal.loop-place-preserved
loop-place-preserved g c =
    shown_part escaped_item (all_items c.args.form.now) c.args.from c.loop-place.place c.in-Some.item c.args.out.now.items c.loop-place.out.items c.item_into.new.out.items
    (omega arith) (sym c.item.ensures ∙ c.in-Some.is) c.loop-place.invariant c.in_ok-item_into.ensures
