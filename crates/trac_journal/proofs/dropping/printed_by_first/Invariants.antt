-- What is printed so far, and by the records that are left, is what all print.
use Rattle.std.proofs.Common.{◌≡◌, ◌+◌, ◌≤◌, drop}
use Rattle.std.specs.Prelude.{reverse}
use Rattle.trac_journal.specs.Dropped.{printed_first}
use Rattle.trac_journal.proofs.dropping.printed_by_first.Given as goal

abbrev pub invariant-loop-i : goal.invariant-loop-i
invariant-loop-i g l =
    (l.at ≤ l.i)
    × (l.printed + printed_first l.left (drop l.i l.entries.items) (drop l.at (reverse l.lists.listed.calls))
    ≡ printed_first l.count l.entries.items (reverse l.lists.listed.calls))
