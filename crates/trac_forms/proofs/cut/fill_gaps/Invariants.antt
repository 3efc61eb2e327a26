use Rattle.std.proofs.Common.{[], drop}
use Rattle.std.specs.Prelude.{unwrap_or}
use Rattle.trac_rules.specs.Cuts.{joined}
use Rattle.trac_rules.specs.Form.{all_items}
use Rattle.trac_forms.specs.Layout.{divided}
use Rattle.trac_forms.proofs.CutWalks.{IsFilledSoFar}
use Rattle.trac_forms.proofs.cut.fill_gaps.Given as goal

abbrev pub invariant-loop-gap : goal.invariant-loop-gap
invariant-loop-gap g l =
    IsFilledSoFar (g.T.Texts.texts l.texts) (unwrap_or (joined (g.T.Texts.texts l.texts) l.gaps (all_items (divided l.fn.items))) []) l.place l.items (drop l.gap-index l.gaps)
