use Rattle.std.proofs.Common.{◌≡◌, drop}
use Rattle.trac_rules.specs.Form.{all_items}
use Rattle.trac_rules.specs.Segmenting.{segmented}
use Rattle.trac_forms.specs.Layout.{divided}
use Rattle.trac_forms.proofs.CutWalks.{IsCutSoFar}
use Rattle.trac_forms.proofs.cut.cut_gaps.Given as goal

abbrev pub invariant-loop-gap : goal.invariant-loop-gap
invariant-loop-gap g l = record {
  cut : IsCutSoFar (g.T.Texts.texts l.texts) (all_items (segmented (g.T.Texts.texts l.texts) (divided l.fn.items))) l.items (drop l.gap-index l.gaps);
  capacity : l.items.capacity ≡ l.fn.items.capacity;
}
