use Rattle.std.proofs.Common.{arith, sym, ◌∙◌}
use Rattle.trac_documents.proofs.Lines.{lines_ends, lines_go_on}
use Rattle.trac_documents.proofs.positions.lines_before.Goals as goal
use Rattle.trac_documents.proofs.positions.lines_before.Goals.{then-ends_line, else-ends_line}

pub loop-place-preserved : goal.loop-place-preserved
loop-place-preserved c =
    elim c.if-ends_line.branch [
      | then-ends_line w ↦ rw w.lines-is (record {
        lines = omega (arith, c.loop-place.invariant.lines, lines_ends c.args.offset c.args.text.now c.loop-place.place (omega arith) c.loop-place-test.true (sym c.ends_line.ensures ∙ w.if-ends_line.true));
        few = omega (arith, c.loop-place.invariant.few);
      })
      | else-ends_line w ↦ rw w.lines-is (record {
        lines = omega (arith, c.loop-place.invariant.lines, lines_go_on c.args.offset c.args.text.now c.loop-place.place (omega arith) c.loop-place-test.true (sym c.ends_line.ensures ∙ w.if-ends_line.false));
        few = omega (arith, c.loop-place.invariant.few);
      })
    ]
