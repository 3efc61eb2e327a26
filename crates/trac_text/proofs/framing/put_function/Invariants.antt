-- What has been put so far.
use Rattle.std.proofs.Common.{◌++◌, drop, length}
use Rattle.std.specs.Prelude.{Some}
use Rattle.std.specs.List.{concat}
use Rattle.trac_text.specs.Framing.{texts_of}
use Rattle.trac_text.specs.Marks.{argument_marks}
use Rattle.trac_text.proofs.Framed.{HasPut}
use Rattle.trac_text.proofs.framing.put_function.Given as goal

abbrev pub invariant-loop-argument : goal.invariant-loop-argument
invariant-loop-argument g l =
    let text = g.E.TwoEnds.ends l.fn.text in
    let marks = g.M.TwoEnds.ends l.fn.marks in
    HasPut l.frame (texts_of (drop l.argument-index l.arguments)) (g.E.TwoEnds.ends l.text) (g.M.TwoEnds.ends l.marks)
    (record text { left = text.left ++ concat (texts_of l.arguments) })
    (record marks { left = marks.left ++ argument_marks (length text.left) (Some l.fn.kind) (texts_of l.arguments) })
