-- The lengths so far, then those between the marks that are left, and a place for each.
use Rattle.std.proofs.Common.{◌≡◌, ◌+◌, ◌-◌, ◌^◌, ◌≤◌, ◌++◌, drop, length}
use Rattle.trac_text.specs.Cuts.{AreCuts}
use Rattle.trac_text.proofs.Lengths.{lengths_between}
use Rattle.trac_text.proofs.args.Args.put_lengths.Given as goal

abbrev pub invariant-loop-mark : goal.invariant-loop-mark
invariant-loop-mark g l = record {
  put : l.commas.items ++ lengths_between l.start (drop l.mark-index l.mark-items) ≡ l.initial.commas.items ++ lengths_between l.initial.start l.mark-items;
  cuts : AreCuts l.start (drop l.mark-index l.mark-items) (l.initial.start + (2 ^ 32 - 1));
  from : l.initial.start ≤ l.start;
  room : length l.commas.items + length (drop l.mark-index l.mark-items) ≤ l.commas.capacity;
}
