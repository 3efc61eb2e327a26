use Rattle.std.proofs.Common.{◌<◌, length, sym, ◌∙◌, arith}
use Rattle.trac_rules.specs.Form.{all_items}
use Rattle.trac_session.proofs.Looked.{other_form, other_item, same_item}
use Rattle.trac_session.proofs.goal.has_same_items.Goals as goal

pub returns-then-not-is_same_place : goal.returns-then-not-is_same_place
returns-then-not-is_same_place g c =
    let here : c.loop-i.i < length (all_items c.args.form.now) = omega (arith, c.len-len.ensures.len) in
    let there : c.loop-i.i < length (all_items c.args.other.now) = omega (arith, c.len-len.ensures.len, c.len.ensures.len) in
    other_form c.args.form.now c.args.other.now
    (sym c.loop-i.invariant
    ∙ other_item (all_items c.args.form.now) (all_items c.args.other.now) c.loop-i.i c.item.result c.item-in-loop-i.result c.is_same_place.result here there
    c.item.ensures c.item-in-loop-i.ensures c.is_same_place.ensures c.if-not-is_same_place.true)

pub loop-i-preserved : goal.loop-i-preserved
loop-i-preserved g c =
    let here : c.loop-i.i < length (all_items c.args.form.now) = omega (arith, c.len-len.ensures.len) in
    let there : c.loop-i.i < length (all_items c.args.other.now) = omega (arith, c.len-len.ensures.len, c.len.ensures.len) in
    same_item (all_items c.args.form.now) (all_items c.args.other.now) c.loop-i.i c.item.result c.item-in-loop-i.result c.is_same_place.result here there
    c.item.ensures c.item-in-loop-i.ensures c.is_same_place.ensures c.if-not-is_same_place.false
    ∙ c.loop-i.invariant
