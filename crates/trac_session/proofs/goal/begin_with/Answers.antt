use Rattle.std.proofs.Common.{◌≤◌, length, sym, ◌∙◌, arith}
use Rattle.trac_session.proofs.Looked.{other_text, same_text}
use Rattle.trac_session.proofs.goal.begin_with.Goals as goal

pub returns-then-ne : goal.returns-then-ne
returns-then-ne c =
    let enough : length c.args.wanted.now ≤ length c.args.arguments.now = omega (arith, c.count.ensures) in
    sym (other_text c.args.wanted.now _ c.args.arguments.now c.loop-i.i c.get.result.now c.ne.result c.loop-i-test.true enough c.get.ensures c.ne.ensures c.if-ne.true)
    ∙ c.loop-i.invariant

pub loop-i-preserved : goal.loop-i-preserved
loop-i-preserved c =
    let enough : length c.args.wanted.now ≤ length c.args.arguments.now = omega (arith, c.count.ensures) in
    same_text c.args.wanted.now _ c.args.arguments.now c.loop-i.i c.get.result.now c.ne.result c.loop-i-test.true enough c.get.ensures c.ne.ensures c.if-ne.false
    ∙ c.loop-i.invariant
