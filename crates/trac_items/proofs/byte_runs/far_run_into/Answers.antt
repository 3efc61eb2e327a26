-- A chunk without a gap is put.
use Rattle.std.proofs.Common.{arith}
use Rattle.std.specs.Prelude.{vec_capacity, vec_len}
use Rattle.trac_items.proofs.ByteRuns.{chunk_plain, chunk_read}
use Rattle.trac_items.proofs.byte_runs.far_run_into.Goals as goal

pub chunk_into-requires-clause-bytes : goal.chunk_into-requires-clause-bytes
chunk_into-requires-clause-bytes g c =
    chunk_plain c.args.items.now c.chunks.run c.args.out.now.items c.chunks.out.items (vec_len c.chunks.out) (vec_capacity c.chunks.out) c.chunks.invariant 32
    (c.has_gap.ensures.none c.if-has_gap.false c.chunks.invariant.bytes)

pub chunks-preserved : goal.chunks-preserved
chunks-preserved g c =
    chunk_read c.args.items.now c.chunks.run c.args.out.now.items c.chunks.out.items (vec_len c.chunks.out) (vec_capacity c.chunks.out) c.chunks.invariant 32
    (c.has_gap.ensures.none c.if-has_gap.false c.chunks.invariant.bytes)
    c.chunk_into.new.out.items (vec_len c.chunk_into.new.out) (vec_capacity c.chunk_into.new.out) (omega arith) c.chunk_into.ensures.items c.chunk_into.ensures.len c.chunk_into.ensures.capacity
