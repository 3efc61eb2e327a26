use Rattle.std.proofs.Common.{◌≡◌, ◌+◌, ◌++◌, ◌≤◌, drop}
use Rattle.trac_rules.specs.declared.limit.TheConstants.{FORM_LIMIT}
use Rattle.trac_items.specs.RunGaps.{gaps_from, spanned}
use Rattle.trac_items.proofs.run_gaps.places_of.Given as goal

abbrev pub invariant-loop-gap : goal.invariant-loop-gap
invariant-loop-gap g l = record {
  places : l.places.items ++ gaps_from l.place (drop l.gap-index l.gaps) ≡ gaps_from 0 l.gaps;
  within : l.place + spanned (drop l.gap-index l.gaps) ≤ FORM_LIMIT + l.gap-index;
}
