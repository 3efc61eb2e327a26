use Rattle.std.proofs.Common.{◌≡◌, ◌+◌, drop}
use Rattle.trac_rules.specs.Form.{all_items}
use Rattle.trac_rules.specs.Pieces.{begin_with}
use Rattle.trac_doubts.proofs.texts.begins_at.Given as goal

abbrev pub invariant-loop-i : goal.invariant-loop-i
invariant-loop-i g l = begin_with l.text (drop l.place (all_items l.form)) ≡ begin_with (drop l.i l.text) (drop (l.place + l.i) (all_items l.form))
