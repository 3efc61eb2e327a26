use Rattle.std.proofs.Common.{◌≡◌, drop}
use Rattle.std.specs.Cmp.Lexicographic.{pointwise}
use Rattle.trac_rules.specs.Form.{all_items}
use Rattle.trac_rules.specs.Goals.{is_same_item}
use Rattle.trac_session.proofs.goal.has_same_items.Given as goal

-- the items from here on tell
abbrev pub invariant-loop-i : goal.invariant-loop-i
invariant-loop-i g l =
    pointwise is_same_item (drop l.i (all_items l.form)) (drop l.i (all_items l.other)) ≡ pointwise is_same_item (all_items l.form) (all_items l.other)
