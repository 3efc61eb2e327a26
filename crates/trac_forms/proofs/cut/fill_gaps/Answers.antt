use Rattle.std.proofs.Common.{◌++◌, ap, arith, length}
use Rattle.trac_gap.specs.Ends.{Ends}
use Rattle.trac_rules.specs.declared.item.Item.{Item}
use Rattle.trac_forms.specs.Layout.{divided}
use Rattle.trac_forms.proofs.CutWalks.{fill_begins, fill_ends, fill_more, filled_after, filled_counted, filled_room, filled_there, gap_to_fill}
use Rattle.trac_forms.proofs.Divided.{all_after, kept_again, none_before}
use Rattle.trac_forms.proofs.cut.fill_gaps.Goals as goal

pub loop-gap-init : goal.loop-gap-init
loop-gap-init g c =
    let n = ap length c.left-before.ensures.left in
    fill_begins (g.T.Texts.texts c.args.texts.now) c.args.items.now c.shift_right.new.self c.args.gaps.now (none_before c.args.items.now c.shift_right.new.self _ n c.shift_right.ensures)
    (all_after c.args.items.now c.shift_right.new.self _ n c.shift_right.ensures) (ap (λ (e : Ends Item). e.capacity) c.shift_right.ensures) c.requires.kept c.requires.there

pub overflow_sub-gap : goal.overflow_sub-gap
overflow_sub-gap g c = filled_after (gap_to_fill c.args.gaps.now c.loop-gap.gap-index c.loop-gap-test.true c.loop-gap.invariant)

pub fill_gap-requires-clause-there : goal.fill_gap-requires-clause-there
fill_gap-requires-clause-there g c = filled_there (gap_to_fill c.args.gaps.now c.loop-gap.gap-index c.loop-gap-test.true c.loop-gap.invariant)

pub fill_gap-requires-clause-room : goal.fill_gap-requires-clause-room
fill_gap-requires-clause-room g c = omega (arith, filled_room (gap_to_fill c.args.gaps.now c.loop-gap.gap-index c.loop-gap-test.true c.loop-gap.invariant), ap length c.text.ensures)

pub overflow_add-place : goal.overflow_add-place
overflow_add-place g c = omega (arith, filled_counted (gap_to_fill c.args.gaps.now c.loop-gap.gap-index c.loop-gap-test.true c.loop-gap.invariant))

pub loop-gap-preserved : goal.loop-gap-preserved
loop-gap-preserved g c =
    fill_more (gap_to_fill c.args.gaps.now c.loop-gap.gap-index c.loop-gap-test.true c.loop-gap.invariant) c.fill_gap.new.items _ c.text.result.now (omega arith) c.text.ensures c.fill_gap.ensures

pub returns-clause-filled : goal.returns-clause-filled
returns-clause-filled g c =
    let n = ap length c.left-joined.ensures.left in
    fill_ends (g.T.Texts.texts c.args.texts.now) (divided c.args.items.now) c.loop-gap.place c.loop-gap.items c.shift_right-2.new.self c.args.gaps.now c.args.gaps.now c.loop-gap.gap-index
    (omega (arith, c.loop-gap-test.false)) c.requires.there c.loop-gap.invariant (none_before c.loop-gap.items c.shift_right-2.new.self _ n c.shift_right-2.ensures)
    (all_after c.loop-gap.items c.shift_right-2.new.self _ n c.shift_right-2.ensures)

pub returns-clause-kept : goal.returns-clause-kept
returns-clause-kept g c =
    let n = ap length c.left-joined.ensures.left in
    kept_again c.loop-gap.items c.shift_right-2.new.self
    (λ j. none_before c.loop-gap.items c.shift_right-2.new.self _ n c.shift_right-2.ensures j ++ all_after c.loop-gap.items c.shift_right-2.new.self _ n c.shift_right-2.ensures j)
    (omega (arith, ap (λ (e : Ends Item). e.capacity) c.shift_right-2.ensures)) c.loop-gap.invariant.held
