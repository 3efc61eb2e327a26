-- A group without a gap is put, and then byte by byte.
use Rattle.std.proofs.Common.{◌+◌, ◌-◌, length, take, drop, ap, arith}
use Rattle.std.specs.Prelude.{vec_capacity, vec_len}
use Rattle.std.proofs.lemmas.List.{length-drop, take_rest}
use Rattle.trac_items.proofs.ByteRuns.{byte_read, chunk_plain, chunk_read, read_more}
use Rattle.trac_items.proofs.byte_runs.first_run_into.Goals as goal

pub chunk_into-requires-clause-bytes : goal.chunk_into-requires-clause-bytes
chunk_into-requires-clause-bytes g c =
    chunk_plain c.args.items.now c.groups.run c.args.out.now.items c.groups.out.items (vec_len c.groups.out) (vec_capacity c.groups.out) c.groups.invariant 8
    (c.has_gap.ensures.none c.if-has_gap.false c.groups.invariant.bytes)

pub groups-preserved-then-run-eq-CHUNK : goal.groups-preserved-then-run-eq-CHUNK
groups-preserved-then-run-eq-CHUNK g c =
    let items = c.args.items.now in
    let group =
    chunk_read items c.groups.run c.args.out.now.items c.groups.out.items (vec_len c.groups.out) (vec_capacity c.groups.out) c.groups.invariant 8
    (c.has_gap.ensures.none c.if-has_gap.false c.groups.invariant.bytes)
    c.chunk_into.new.out.items (vec_len c.chunk_into.new.out) (vec_capacity c.chunk_into.new.out) (omega arith) c.chunk_into.ensures.items c.chunk_into.ensures.len c.chunk_into.ensures.capacity in
    let far = c.far_run_into-run in
    read_more items (c.groups.run + 8) c.args.out.now.items c.chunk_into.new.out.items (vec_len c.chunk_into.new.out) (vec_capacity c.chunk_into.new.out) group far.result
    (take far.result (take (length items - (c.groups.run + 8)) (drop (c.groups.run + 8) items))) far.new.out.items (vec_len far.new.out) (vec_capacity far.new.out)
    (ap (take far.result) (take_rest items (c.groups.run + 8))) (omega (arith, far.ensures.within, ap length (take_rest items (c.groups.run + 8)), length-drop (c.groups.run + 8) items)) far.ensures.bytes far.ensures.put
    (omega (arith, far.ensures.room, ap length (take_rest items (c.groups.run + 8)), length-drop (c.groups.run + 8) items))

pub groups-preserved : goal.groups-preserved
groups-preserved g c =
    chunk_read c.args.items.now c.groups.run c.args.out.now.items c.groups.out.items (vec_len c.groups.out) (vec_capacity c.groups.out) c.groups.invariant 8
    (c.has_gap.ensures.none c.if-has_gap.false c.groups.invariant.bytes)
    c.chunk_into.new.out.items (vec_len c.chunk_into.new.out) (vec_capacity c.chunk_into.new.out) (omega arith) c.chunk_into.ensures.items c.chunk_into.ensures.len c.chunk_into.ensures.capacity

pub items-preserved : goal.items-preserved
items-preserved g c =
    byte_read c.args.items.now c.items.run c.args.out.now.items c.items.out.items (vec_len c.items.out) (vec_capacity c.items.out) c.items.invariant
    c.index-items-run.result c.byte.result c.push_reserved.new.self.items (vec_len c.push_reserved.new.self) (vec_capacity c.push_reserved.new.self) c.items-test.true c.index-items-run.is c.byte.ensures
    c.push_reserved.ensures.items c.push_reserved.ensures.len (omega (arith, c.push_reserved.ensures.capacity))
