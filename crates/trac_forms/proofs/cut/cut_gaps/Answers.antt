use Rattle.std.proofs.Common.{ap, arith, length, ◌∙◌}
use Rattle.trac_gap.specs.Ends.{Ends}
use Rattle.trac_rules.specs.declared.item.Item.{Item}
use Rattle.trac_rules.proofs.Cutting.{extent-segmented}
use Rattle.trac_forms.specs.Layout.{divided}
use Rattle.trac_forms.proofs.CutWalks.{cut_begins, cut_ends, cut_kept, cut_more, gap_to_come, made_after, made_fits, made_some, made_there}
use Rattle.trac_forms.proofs.Divided.{all_after, none_before}
use Rattle.trac_forms.proofs.cut.cut_gaps.Goals as goal

pub loop-gap-init : goal.loop-gap-init
loop-gap-init g c =
    let n = ap length c.left-before.ensures.left in
    record {
      cut =
          cut_begins (g.T.Texts.texts c.args.texts.now) (divided c.args.items.now) c.shift_right.new.self c.args.gaps.now (none_before c.args.items.now c.shift_right.new.self _ n c.shift_right.ensures)
          (all_after c.args.items.now c.shift_right.new.self _ n c.shift_right.ensures) c.requires.cut;
      capacity = ap (λ (e : Ends Item). e.capacity) c.shift_right.ensures;
    }

pub overflow_sub-passed : goal.overflow_sub-passed
overflow_sub-passed g c = omega (arith, made_after (gap_to_come c.args.gaps.now c.loop-gap.gap-index c.loop-gap-test.true c.loop-gap.invariant.cut), ap length c.left.ensures.left)

pub cut_gap-requires-clause-some : goal.cut_gap-requires-clause-some
cut_gap-requires-clause-some g c = omega (arith, made_some (gap_to_come c.args.gaps.now c.loop-gap.gap-index c.loop-gap-test.true c.loop-gap.invariant.cut), ap length c.text.ensures)

pub cut_gap-requires-clause-fits : goal.cut_gap-requires-clause-fits
cut_gap-requires-clause-fits g c =
    let within = extent-segmented (g.T.Texts.texts c.args.texts.now) (divided c.args.items.now) in
    omega (arith, made_fits (gap_to_come c.args.gaps.now c.loop-gap.gap-index c.loop-gap-test.true c.loop-gap.invariant.cut) (omega (arith, within, c.requires.kept.within)), ap length c.text.ensures)

pub cut_gap-requires-clause-there : goal.cut_gap-requires-clause-there
cut_gap-requires-clause-there g c = omega (arith, made_there (gap_to_come c.args.gaps.now c.loop-gap.gap-index c.loop-gap-test.true c.loop-gap.invariant.cut), ap length c.text.ensures, ap length c.left.ensures.left)

pub loop-gap-preserved : goal.loop-gap-preserved
loop-gap-preserved g c = record {
  cut =
      cut_more (gap_to_come c.args.gaps.now c.loop-gap.gap-index c.loop-gap-test.true c.loop-gap.invariant.cut) c.cut_gap.new.items _ _ (omega (arith, ap length c.left.ensures.left)) (ap length c.text.ensures)
      c.cut_gap.ensures;
  capacity = ap (λ (e : Ends Item). e.capacity) c.cut_gap.ensures ∙ c.loop-gap.invariant.capacity;
}

pub returns-clause-cut : goal.returns-clause-cut
returns-clause-cut g c =
    let n = ap length c.left-made.ensures.left in
    cut_ends (g.T.Texts.texts c.args.texts.now) (divided c.args.items.now) c.loop-gap.items c.shift_right-2.new.self c.args.gaps.now c.loop-gap.gap-index (omega (arith, c.loop-gap-test.false)) c.loop-gap.invariant.cut
    (none_before c.loop-gap.items c.shift_right-2.new.self _ n c.shift_right-2.ensures) (all_after c.loop-gap.items c.shift_right-2.new.self _ n c.shift_right-2.ensures)

pub returns-clause-kept : goal.returns-clause-kept
returns-clause-kept g c =
    cut_kept (g.T.Texts.texts c.args.texts.now) c.args.items.now c.shift_right-2.new.self (returns-clause-cut g c)
    (ap (λ (e : Ends Item). e.capacity) c.shift_right-2.ensures ∙ c.loop-gap.invariant.capacity) c.requires.kept
