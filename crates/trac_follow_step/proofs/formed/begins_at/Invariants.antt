-- What is left of the text decides.
use Rattle.std.proofs.Common.{◌≡◌, drop}
use Rattle.trac_rules.specs.Form.{all_items}
use Rattle.trac_rules.specs.Pieces.{begin_with}
use Rattle.trac_follow_step.proofs.formed.begins_at.Given as goal

abbrev pub invariant-loop-at : goal.invariant-loop-at
invariant-loop-at g l = begin_with l.text (drop l.place (all_items l.form)) ≡ begin_with l.rest (drop l.at (all_items l.form))
