use Rattle.std.proofs.Common.{◌<◌, arith, length}
use Rattle.trac_prims.proofs.ComingBack.{copy_added}
use Rattle.trac_prims.proofs.blocks.copies_of.Goals as goal

pub returns-in_default-clause-made : goal.returns-in_default-clause-made
returns-in_default-clause-made g c = absurd (omega (arith, c.in_default.ensures, c.loop-i-test.true, c.len-i-end.ensures.len))

pub loop-i-preserved : goal.loop-i-preserved
loop-i-preserved g c =
    let within : c.loop-i.i < length c.args.block.now.held = omega (arith, c.loop-i-test.true, c.len-i-end.ensures.len) in
    copy_added c.loop-i.copies.items c.push.new.self.items c.args.block.now.held c.loop-i.i c.in_ok-name.name c.in_ok-form.form c.in-Some.name.now c.in-Some.form.now within
    c.in-Some.ensures c.loop-i.invariant c.in_ok-push.ensures.items c.in_ok-name.ensures.items c.in_ok-form.ensures.same
