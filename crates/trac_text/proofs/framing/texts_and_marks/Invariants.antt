-- What has been begun so far, within the base text, and that there is room for all.
use Rattle.std.proofs.Common.{◌+◌, ◌≤◌, length}
use Rattle.trac_text.specs.Framing.{argument_count, function_bytes, functions_of}
use Rattle.trac_text.proofs.Framed.{HasBegun}
use Rattle.trac_text.proofs.framing.texts_and_marks.Given as goal

abbrev pub invariant-loop-kind : goal.invariant-loop-kind
invariant-loop-kind g l =
    let text = g.E.TwoEnds.ends l.text in
    let marks = g.M.TwoEnds.ends l.marks in
    record {
      begun : HasBegun l.functions l.base l.active l.kind-index text marks;
      holds : length l.base + length l.active + function_bytes (functions_of l.functions) ≤ text.capacity;
      mark_holds : argument_count (functions_of l.functions) ≤ marks.capacity;
      room : l.text_room ≤ text.capacity;
      mark_room : l.mark_room ≤ marks.capacity;
    }
