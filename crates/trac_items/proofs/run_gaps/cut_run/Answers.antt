use Rattle.std.proofs.Common.{List, [], ℕ, ◌+◌, drop, refl, sym, subst, ap, arith, ◌∙◌}
use Rattle.std.proofs.lemmas.List.{drop_all, drop_more}
use Rattle.std.proofs.lemmas.Result.{IfOk-weaker}
use Rattle.trac_rules.specs.Cuts.{cut_between}
use Rattle.trac_rules.specs.declared.item.Item.{Item}
use Rattle.trac_rules.specs.declared.limit.TheConstants.{FORM_LIMIT}
use Rattle.trac_rules.specs.Segmenting.{cut_out, segmented_from}
use Rattle.trac_items.specs.declared.run_gaps.RunGap.{RunGap}
use Rattle.trac_items.specs.RunGaps.{AreWithin, gapped, gaps_from}
use Rattle.trac_items.proofs.RunGaps.{all_old, places_are}
use Rattle.trac_items.proofs.run_gaps.cut_run.Goals as goal

pub returns : goal.returns
returns g c =
    let run = c.args.run.now in
    let gaps = c.loop-i.gaps.items in
    let texts = g.T.Texts.texts c.args.texts.now in
    let old = c.loop-i.invariant.old ∙ all_old c.args.old.items c.requires.old in
    let new = ap (λ (ts : List (List ℕ)). segmented_from (c.loop-i.i + 1) ts (gapped run gaps)) (sym (drop_all c.loop-i.i texts (omega (arith, c.loop-i-test.false, c.count-i-end.ensures))))
    ∙ c.loop-i.invariant.left in
    record {
      cut = (
          IfOk-weaker c.places_of.result _ _
          (λ _ is. is ∙ ap (λ (gaps : List RunGap). gaps_from 0 gaps) c.as_slice.ensures.value ∙ places_are 0 run gaps c.loop-i.invariant.within
          ∙ (λ i. cut_between 0 (gapped run (old i)) (new i)))
          c.places_of.ensures.places
          );
    }

pub loop-i-init : goal.loop-i-init
loop-i-init g c = record { counted = refl; left = refl; old = refl; within = c.requires.within }

pub overflow_add-number : goal.overflow_add-number
overflow_add-number g c = omega (arith, c.loop-i-test.true, c.loop-i.invariant.counted, c.count-i-end.ensures, c.requires.count)

pub loop-i-preserved : goal.loop-i-preserved
loop-i-preserved g c =
    let run = c.args.run.now in
    let i = c.loop-i.i in
    let gaps = c.loop-i.gaps.items in
    let texts = g.T.Texts.texts c.args.texts.now in
    let later = drop (i + 1) texts in
    record {
      counted = ap (λ n. n + 1) c.loop-i.invariant.counted;
      left =
          ap (λ (items : List Item). segmented_from (i + 1 + 1) later items)
          (c.in_ok-gaps.ensures.cut ∙ (λ k. cut_out (c.loop-i.invariant.counted k + 1) (c.get.ensures k) (gapped run gaps)))
          ∙ ap (λ (left : List (List ℕ)). segmented_from (i + 1) left (gapped run gaps)) (sym (drop_more texts i [] (omega (arith, c.loop-i-test.true, c.count-i-end.ensures))))
          ∙ c.loop-i.invariant.left;
      old = c.in_ok-gaps.ensures.old ∙ c.loop-i.invariant.old;
      within = c.in_ok-gaps.ensures.within;
    }

pub places_of-requires : goal.places_of-requires
places_of-requires g c =
    subst (λ (gaps : List RunGap). AreWithin FORM_LIMIT gaps) (sym c.as_slice.ensures.value)
    (record { span = omega (arith, c.loop-i.invariant.within.span, c.requires.fits); each = c.loop-i.invariant.within.each })
