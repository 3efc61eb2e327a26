use Rattle.std.proofs.Common.{◌≤◌, vec_len}
use Rattle.trac_places.specs.Places.{IsWithin}
use Rattle.trac_places.proofs.Depth.{HasFronts, IsDeep}
use Rattle.trac_places.proofs.parentheses.advice_on.Given as goal

-- what the passed bytes have begun, and places that are named within the text
abbrev pub invariant-loop-place : goal.invariant-loop-place
invariant-loop-place g l = record {
  deep : IsDeep l.text l.place (vec_len l.begun);
  fronts : HasFronts l.text l.place;
  end : l.before.end ≤ l.place;
  unclosed : IsWithin l.text l.signs.unclosed;
  within : IsWithin l.text l.signs.within;
  unbegun : IsWithin l.text l.signs.unbegun;
}
