-- What was filled so far, and what is left gives the rest.
use Rattle.std.proofs.Common.{◌≡◌, ◌++◌, length}
use Rattle.trac_rules.specs.Filling.{all_filled}
use Rattle.trac_rules.specs.Fronts.{IsFrontOf}
use Rattle.trac_forms.proofs.filling.fill_all_into.Given as goal

abbrev pub invariant-runs : goal.invariant-runs
invariant-runs g l = record {
  filled : l.out.items ++ all_filled (g.T.Texts.texts l.args) l.rest ≡ l.fn.out.items ++ all_filled (g.T.Texts.texts l.args) l.items;
  front : IsFrontOf l.fn.out.items l.out.items;
}

abbrev pub decreases-runs : goal.decreases-runs
decreases-runs g l = length l.rest
