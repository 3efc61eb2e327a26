-- The forms leave, the block comes last, and its address stands among what is left.
use Rattle.std.proofs.Common.{◌∷◌, [], refl, ap, ◌∙◌, arith}
use Rattle.trac_rules.specs.Undone.{MoveOut}
use Rattle.trac_forms.proofs.Tables.{known_then}
use Rattle.trac_storage.proofs.Known.{stay_known}
use Rattle.trac_storage.proofs.changing.put_aside.Goals as goal

pub push_block-requires : goal.push_block-requires
push_block-requires g c = rw (c.move_into.ensures.store, c.in_ok-know.ensures.known) c.in_ok-reserve_blocks.ensures.room

pub put-requires : goal.put-requires
put-requires g c = rw (c.push_block.ensures, c.move_into.ensures.store, c.in_ok-know.ensures.known) (known_then c.reserve_blocks.new.self.known c.args.name.now)

pub returns-clause-storage : goal.returns-clause-storage
returns-clause-storage g c =
    rw (c.put.ensures.put, c.push_block.ensures, c.move_into.ensures.store, c.move_into.ensures.block, c.in_ok-know.ensures.known, c.reserve_blocks.ensures.stays) refl

pub returns-clause-undone : goal.returns-clause-undone
returns-clause-undone g c =
    ap MoveOut (c.put.ensures.replaced ∙ rw (c.push_block.ensures, c.move_into.ensures.store, c.in_ok-know.ensures.known, c.reserve_blocks.ensures.stays) refl)

pub returns-clause-names : goal.returns-clause-names
returns-clause-names g c = rw (c.put.ensures.put, c.push_block.ensures, c.move_into.ensures.store, c.in_ok-know.ensures.known, c.reserve_blocks.ensures.stays) refl

pub returns-clause-places : goal.returns-clause-places
returns-clause-places g c =
    rw (c.put.ensures.put, c.push_block.ensures, c.move_into.ensures.store, c.in_ok-know.ensures.known) (omega (arith, c.reserve_blocks.ensures.no_less))

pub returns-clause-recent : goal.returns-clause-recent
returns-clause-recent g c =
    rw (c.put.ensures.put, c.push_block.ensures, c.move_into.ensures.store, c.in_ok-know.ensures.known, c.reserve_blocks.ensures.stays)
    (stay_known (c.args.name.now ∷ c.args.name.now ∷ []) c.args.store.now.recent)
