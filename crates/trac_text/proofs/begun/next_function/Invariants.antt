use Rattle.std.proofs.Common.{◌≡◌, ◌+◌, ◌-◌, ◌≤◌, length, take}
use Rattle.trac_text.specs.Cuts.{function_count}
use Rattle.trac_text.proofs.begun.next_function.Given as goal

-- none of the marks passed so far begins a function
abbrev pub invariant-loop-place : goal.invariant-loop-place
invariant-loop-place l = record {
  within : l.place ≤ length l.marks;
  count : function_count (take l.place l.marks) ≡ function_count (take (l.from + 1) l.marks);
}

abbrev pub decreases-loop-place : goal.decreases-loop-place
decreases-loop-place l = length l.marks - l.place
