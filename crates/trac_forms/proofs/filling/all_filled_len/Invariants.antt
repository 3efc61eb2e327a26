-- What was counted so far, and what is left gives the rest.
use Rattle.std.proofs.Common.{◌≡◌, ◌+◌, ◌≤◌, length}
use Rattle.trac_rules.specs.Filling.{all_filled}
use Rattle.trac_forms.proofs.filling.all_filled_len.Given as goal

abbrev pub invariant-runs : goal.invariant-runs
invariant-runs g l = record {
  counted : l.total + length (all_filled (g.T.Texts.texts l.args) l.rest) ≡ length (all_filled (g.T.Texts.texts l.args) l.items);
  within : l.total ≤ l.most;
}

abbrev pub decreases-runs : goal.decreases-runs
decreases-runs g l = length l.rest
