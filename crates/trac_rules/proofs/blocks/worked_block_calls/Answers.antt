-- Each clause is computed with the forms in a list.
use Rattle.std.proofs.Common.{rules}
use Rattle.trac_rules.proofs.BlockCalls.{turns}
use Rattle.trac_rules.proofs.Opened.{digits}
use Rattle.trac_rules.proofs.blocks.worked_block_calls.Goals as goal

pub returns : goal.returns
unfolding digits
returns c = search (rules, turns)
