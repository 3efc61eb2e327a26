use Rattle.std.proofs.Common.{arith, sym, ◌∙◌}
use Rattle.trac_documents.proofs.Lines.{before_ends, before_goes_on}
use Rattle.trac_documents.proofs.positions.before_line.Goals as goal
use Rattle.trac_documents.proofs.positions.before_line.Goals.{then-ends_line, else-ends_line}

pub loop-place-preserved : goal.loop-place-preserved
loop-place-preserved c =
    elim c.if-ends_line.branch [
      | then-ends_line w ↦ rw w.left-is
          (omega (arith, c.loop-place.invariant, before_ends c.loop-place.left c.args.text.now c.loop-place.place c.loop-place-test.true (omega arith) (sym c.ends_line.ensures ∙ w.if-ends_line.true)))
      | else-ends_line w ↦ rw w.left-is
          (omega (arith, c.loop-place.invariant, before_goes_on c.loop-place.left c.args.text.now c.loop-place.place c.loop-place-test.true (omega arith) (sym c.ends_line.ensures ∙ w.if-ends_line.false)))
    ]
