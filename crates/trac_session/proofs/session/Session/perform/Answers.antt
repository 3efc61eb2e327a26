use Rattle.std.proofs.Common.{arith}
use Rattle.trac_session.specs.Commands.{command_of}
use Rattle.trac_session.proofs.Performed.{Run-further}
use Rattle.trac_session.proofs.session.Session.perform.Goals as goal

pub loop-command-preserved : goal.loop-command-preserved
loop-command-preserved g c = (
  rw c.push_reserved.ensures.items (Run-further command_of c.args.commands.now c.loop-command.command-index _ c.loop-command.replies.items c.carry_out-reply.result _ _ _
      c.loop-command-test.true c.loop-command.invariant.0 c.carry_out-reply.ensures),
  omega (arith, c.push_reserved.ensures.len, c.loop-command.invariant.1),
  omega (arith, c.push_reserved.ensures.capacity, c.loop-command.invariant.2),
)
