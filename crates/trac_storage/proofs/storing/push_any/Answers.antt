-- A block that is pushed and taken away again leaves an erased one.
use Rattle.std.proofs.Common.{refl}
use Rattle.std.specs.Prelude.{Some}
use Rattle.trac_storage.proofs.Filling.{erased_last}
use Rattle.trac_storage.proofs.storing.push_any.Goals as goal

pub returns-in_default-clause-pushed : goal.returns-in_default-clause-pushed
returns-in_default-clause-pushed g c =
    let last = erased_last c.args.store.now.blocks (Some c.in_ok-with_room.field-0.held) in
    rw (c.take_block.ensures.erased, c.push_block.ensures, c.block_count-number.ensures.count, last, c.in_default.is) refl
