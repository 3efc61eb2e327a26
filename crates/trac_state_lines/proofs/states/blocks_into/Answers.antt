use Rattle.std.proofs.Common.{get_or, arith}
use Rattle.std.specs.Prelude.{None, option_map}
use Rattle.std.specs.List.{enumerate_from}
use Rattle.trac_state_lines.specs.StateLines.{block_lines}
use Rattle.trac_state_lines.proofs.Shown.{block_seen, blocks_more, length_numbered, shown_all}
use Rattle.trac_state_lines.proofs.states.blocks_into.Goals as goal

pub loop-i-preserved : goal.loop-i-preserved
loop-i-preserved g c =
    blocks_more c.args.store.now.blocks c.loop-i.i (option_map (λ b. b.now.held) c.block.result) c.args.out.now.items c.loop-i.out.items c.numbered_block_into.new.out.items
    (omega (arith, c.block_count-i-end.ensures.count)) (block_seen c.block.result (get_or c.args.store.now.blocks c.loop-i.i None) c.block.ensures) c.loop-i.invariant c.in_ok-numbered_block_into.ensures

pub returns : goal.returns
returns g c =
    shown_all block_lines (enumerate_from 0 c.args.store.now.blocks) c.loop-i.i c.args.out.now.items c.loop-i.out.items
    (omega (arith, c.block_count-i-end.ensures.count, length_numbered 0 c.args.store.now.blocks)) c.loop-i.invariant
