-- A gap is passed, and its place is put if the gap is made.
use Rattle.std.proofs.Common.{◌∙◌, ◌++◌, List, Vec, sym, ap, arith}
use Rattle.std.proofs.lemmas.List.{append-nil, drop_all}
use Rattle.trac_rules.specs.declared.item.CutGap.{CutGap}
use Rattle.trac_rules.specs.declared.limit.TheConstants.{FORM_LIMIT}
use Rattle.trac_items.specs.declared.run_gaps.RunGap.{RunGap}
use Rattle.trac_items.specs.RunGaps.{gaps_from}
use Rattle.trac_items.proofs.RunGaps.{left_out, place_within, placed_on}
use Rattle.trac_items.proofs.run_gaps.places_of.Goals.{then-gap-ne0+in_ok-push, else-gap-ne0}
use Rattle.trac_items.proofs.run_gaps.places_of.Goals as goal

pub loop-gap-init : goal.loop-gap-init
loop-gap-init g c = record {
  places = ap (λ (cuts : List CutGap). cuts ++ gaps_from 0 c.args.gaps.now) c.in_ok-places.ensures.items;
  within = omega (arith, c.requires.span);
}

pub loop-gap-preserved : goal.loop-gap-preserved
loop-gap-preserved g c =
    let gaps = c.args.gaps.now in
    let i = c.loop-gap.gap-index in
    record {
      places = elim c.if-gap-ne0.branch [
        | then-gap-ne0+in_ok-push w ↦
            placed_on gaps i c.loop-gap.place c.loop-gap-test.true c.loop-gap.places.items (gaps_from 0 gaps) c.loop-gap.invariant.places (omega (arith, w.if-gap-ne0.true))
            c.if-gap-ne0.places.items (ap (λ (v : Vec CutGap _). v.items) w.places-is ∙ w.in_ok-push.ensures.items)
        | else-gap-ne0 w ↦
            left_out gaps i c.loop-gap.place c.loop-gap-test.true c.loop-gap.places.items (gaps_from 0 gaps) c.loop-gap.invariant.places (omega (arith, w.if-gap-ne0.false))
            c.if-gap-ne0.places.items (ap (λ (v : Vec CutGap _). v.items) w.places-is)
      ];
      within = place_within gaps i c.loop-gap.place c.loop-gap-test.true FORM_LIMIT c.loop-gap.invariant.within;
    }

pub returns : goal.returns
returns g c = record {
  places =
      sym (append-nil c.loop-gap.places.items)
      ∙ ap (λ (rest : List RunGap). c.loop-gap.places.items ++ gaps_from c.loop-gap.place rest) (sym (drop_all c.loop-gap.gap-index c.args.gaps.now (omega (arith, c.loop-gap-test.false))))
      ∙ c.loop-gap.invariant.places;
}
