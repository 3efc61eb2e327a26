use Rattle.std.proofs.Common.{◌≡◌, ◌≤◌, ◌*◌, take}
use Rattle.std.specs.Prelude.{sum}
use Rattle.trac_doubts.proofs.texts.sum_of.Given as goal

abbrev pub invariant-loop-b : goal.invariant-loop-b
invariant-loop-b l = record {
  sum : l.sum ≡ sum (take l.b-index l.text);
  small : l.sum ≤ 255 * l.b-index;
}
