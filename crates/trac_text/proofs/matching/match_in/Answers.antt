use Rattle.std.proofs.Common.{sym, arith}
use Rattle.trac_rules.proofs.Balanced.{match_at, match_none, closes_at_true}
use Rattle.trac_text.proofs.Depth.{opens, closes, passes_by}
use Rattle.trac_text.proofs.matching.match_in.Goals as goal
use Rattle.trac_text.proofs.matching.match_in.Goals.{then-b-eq-OPENING, else-b-eq-OPENING+then-b-eq-CLOSING+else-depth-eq0, else-b-eq-OPENING+else-b-eq-CLOSING}

pub returns-then-depth-eq0-clause-place : goal.returns-then-depth-eq0-clause-place
returns-then-depth-eq0-clause-place c =
    sym (match_at c.args.text.now c.loop-i.i
    (closes_at_true c.args.text.now c.loop-i.i c.if-b-eq-CLOSING.true (omega (arith, c.loop-i.invariant.even, c.if-depth-eq0.true)))
    c.loop-i.invariant.none (omega arith))

pub loop-i-preserved : goal.loop-i-preserved
loop-i-preserved c = elim c.if-b-eq-OPENING.branch [
  | then-b-eq-OPENING w ↦ rw w.depth-is (opens c.args.text.now c.loop-i.i c.loop-i.depth c.loop-i.invariant (omega arith) w.if-b-eq-OPENING.true)
  | else-b-eq-OPENING+then-b-eq-CLOSING+else-depth-eq0 w ↦ rw w.depth-is (closes c.args.text.now c.loop-i.i c.loop-i.depth c.loop-i.invariant (omega arith) w.if-b-eq-CLOSING.true w.if-depth-eq0.false)
  | else-b-eq-OPENING+else-b-eq-CLOSING w ↦ rw w.depth-is (passes_by c.args.text.now c.loop-i.i c.loop-i.depth c.loop-i.invariant (omega arith) w.if-b-eq-OPENING.false w.if-b-eq-CLOSING.false)
]

pub returns-clause-place : goal.returns-clause-place
returns-clause-place c = sym (match_none c.args.text.now (λ k h. c.loop-i.invariant.none k (omega arith)))
