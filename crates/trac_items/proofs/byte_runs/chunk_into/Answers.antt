use Rattle.std.proofs.Common.{ap, ◌∙◌, arith}
use Rattle.trac_rules.specs.Pieces.{is_gap}
use Rattle.trac_items.proofs.ByteRuns.{no_gap_at}
use Rattle.trac_items.proofs.byte_runs.chunk_into.Goals as goal

pub byte-requires : goal.byte-requires
byte-requires g c =
    ap is_gap c.index-chunk-i.is ∙ no_gap_at c.args.chunk.now c.loop-i.i c.index-chunk-i.result (omega (arith, c.requires.len)) c.requires.bytes
