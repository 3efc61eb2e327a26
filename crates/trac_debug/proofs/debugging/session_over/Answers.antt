use Rattle.std.proofs.Common.{arith}
use Rattle.trac_debug.proofs.Answered.{ready_made}
use Rattle.trac_debug.proofs.debugging.session_over.Goals as goal

pub returns-clause-made : goal.returns-clause-made
returns-clause-made g c =
    ready_made c.args.tape.now c.args.journal c.args.decimals c.in-Ok.session c.feed.new.self c.end.new.self (omega arith) c.in-Ok.ensures.made c.in-Ok-feed.ensures c.end.ensures
