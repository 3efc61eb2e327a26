use Rattle.std.proofs.Common.{◌≡◌, ◌+◌, drop, length}
use Rattle.trac_rules.specs.Segmenting.{segmented_from}
use Rattle.trac_items.specs.RunGaps.{AreWithin, earlier, gapped}
use Rattle.trac_items.proofs.run_gaps.cut_run.Given as goal

abbrev pub invariant-loop-i : goal.invariant-loop-i
invariant-loop-i g l = record {
  counted : l.number ≡ l.i;
  left : segmented_from (l.i + 1) (drop l.i (g.T.Texts.texts l.texts)) (gapped l.run l.gaps.items) ≡ segmented_from 1 (g.T.Texts.texts l.texts) (gapped l.run l.fn.old.items);
  old : earlier 0 l.gaps.items ≡ earlier 0 l.fn.old.items;
  within : AreWithin (length l.run) l.gaps.items;
}
