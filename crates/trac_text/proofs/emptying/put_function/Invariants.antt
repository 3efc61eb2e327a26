-- The marks so far, and those of the lengths that are left, are all; there is room for these.
use Rattle.std.proofs.Common.{◌≡◌, ◌≤◌, ◌+◌, ◌++◌, drop, length}
use Rattle.std.specs.List.{sum}
use Rattle.trac_gap.specs.Ends.{item_count}
use Rattle.trac_text.specs.Marks.{comma_marks}
use Rattle.trac_text.proofs.emptying.put_function.Given as goal

abbrev pub invariant-loop-length : goal.invariant-loop-length
invariant-loop-length g l = record {
  all : (g.M.TwoEnds.ends l.marks).left ++ comma_marks l.place (drop l.length-index l.length-items) ≡ (g.M.TwoEnds.ends l.initial.marks).left ++ comma_marks l.initial.place l.length-items;
  others : g.M.TwoEnds.ends l.marks ≡ record (g.M.TwoEnds.ends l.initial.marks) { left = (g.M.TwoEnds.ends l.marks).left };
  room : item_count (g.M.TwoEnds.ends l.marks) + length (drop l.length-index l.length-items) ≤ (g.M.TwoEnds.ends l.marks).capacity;
  within : l.place + sum (drop l.length-index l.length-items) ≤ l.initial.place + sum l.length-items;
}
