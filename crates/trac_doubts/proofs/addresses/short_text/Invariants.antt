use Rattle.std.proofs.Common.{◌≡◌, take}
use Rattle.trac_rules.specs.Form.{all_items}
use Rattle.trac_rules.specs.Pieces.{bytes_in}
use Rattle.trac_doubts.proofs.addresses.short_text.Given as goal

abbrev pub invariant-loop-place : goal.invariant-loop-place
invariant-loop-place g l = l.text.items ≡ bytes_in (take l.place (all_items l.form))
