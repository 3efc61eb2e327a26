-- What is left of the text decides.
use Rattle.std.proofs.Common.{◌≡◌, drop, bytes_eq}
use Rattle.trac_rules.specs.Form.{all_items}
use Rattle.trac_rules.specs.Pieces.{bytes_in}
use Rattle.trac_follow_step.proofs.fetched.reads_as.Given as goal

abbrev pub invariant-loop-place : goal.invariant-loop-place
invariant-loop-place g l = bytes_eq l.text (bytes_in (all_items l.form)) ≡ bytes_eq l.rest (bytes_in (drop l.place (all_items l.form)))
