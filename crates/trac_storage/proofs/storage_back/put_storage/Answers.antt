-- By what the call destroyed.
use Rattle.std.proofs.Common.{ap, drop, refl, sym, ◌∙◌}
use Rattle.std.specs.Prelude.{◌&&◌, Some}
use Rattle.std.specs.FinMap as finite
use Rattle.std.proofs.lemmas.Bool.{and_parts}
use Rattle.trac_rules.specs.Effect.{argument}
use Rattle.trac_rules.specs.Undone.{is_erased, is_free, names_in}
use Rattle.trac_forms.specs.Stored.{storage_in}
use Rattle.trac_change.specs.Changed.{named_forms}
use Rattle.trac_storage.proofs.Known.{among_back, among_more, stay_known}
use Rattle.trac_storage.proofs.Pointers.{pointed_there}
use Rattle.trac_storage.proofs.StorageBack.{can_join, erased_there, joins_again, knows_each, knows_put, pointed_again, tested}
use Rattle.trac_storage.proofs.storage_back.put_storage.Goals as goal

pub put_each-requires : goal.put_each-requires
put_each-requires g c =
    let store = c.args.store.now in
    knows_each (named_forms c.in-Restore.forms.items) store.known store.forms (tested _ store.known _ (rw c.in-Restore.is at c.requires)).1

pub returns-in-Restore-clause-storage : goal.returns-in-Restore-clause-storage
returns-in-Restore-clause-storage g c = rw (c.in-Restore.is, c.put_each.ensures) (tested _ c.args.store.now.known _ (rw c.in-Restore.is at c.requires)).2

pub returns-in-Point-clause-storage : goal.returns-in-Point-clause-storage
returns-in-Point-clause-storage g c =
    let store = c.args.store.now in
    let name = argument 1 c.args.arguments.now in
    rw c.in-Point.is
    (pointed_again store.known name c.in-Point.place (storage_in store) (finite.get store.forms name) (rw c.in-Point.is at c.requires)
    ∙ rw (← c.get-name.ensures) (ap Some (sym (pointed_there store c.set_pointer.new.self c.get-name.result.now c.in-Point.place c.set_pointer.ensures.set))))

pub unsegment-requires : goal.unsegment-requires
unsegment-requires g c =
    let store = c.args.store.now in
    let name = argument 1 c.args.arguments.now in
    rw (c.get-name.ensures, c.after.ensures)
    (can_join (drop 2 c.args.arguments.now) c.in-Join.cut name c.in-Join.pointer store (finite.get store.forms name) (rw c.in-Join.is at c.requires))

pub returns-in-Join-clause-storage : goal.returns-in-Join-clause-storage
returns-in-Join-clause-storage g c =
    let store = c.args.store.now in
    let name = argument 1 c.args.arguments.now in
    rw (c.in-Join.is, c.unsegment.ensures, c.get-name.ensures, c.after.ensures)
    (joins_again (drop 2 c.args.arguments.now) c.in-Join.cut name c.in-Join.pointer store (finite.get store.forms name) (rw c.in-Join.is at c.requires))

pub swap-requires : goal.swap-requires
swap-requires g c = rw c.get-name.ensures (tested _ c.args.store.now.known _ (rw c.in-Swap.is at c.requires)).1

pub returns-in-Swap-clause-storage : goal.returns-in-Swap-clause-storage
returns-in-Swap-clause-storage g c = rw (c.in-Swap.is, c.swap.ensures, c.get-name.ensures) (tested _ c.args.store.now.known _ (rw c.in-Swap.is at c.requires)).2

pub set_block-requires : goal.set_block-requires
set_block-requires g c =
    let store = c.args.store.now in
    let erased = is_erased c.in-Unerase.number store.blocks in
    let free = is_free (argument 1 c.args.arguments.now) store.forms in
    erased_there c.in-Unerase.number store.blocks (and_parts erased free (tested (erased && free) store.known _ (rw c.in-Unerase.is at c.requires)).0).0

pub put-requires : goal.put-requires
put-requires g c =
    let store = c.args.store.now in
    let name = argument 1 c.args.arguments.now in
    rw (c.set_block.ensures, c.get-name.ensures) (knows_put store.known store.forms name c.in-Unerase.address (tested _ store.known _ (rw c.in-Unerase.is at c.requires)).1)

pub returns-in-Unerase-clause-storage : goal.returns-in-Unerase-clause-storage
returns-in-Unerase-clause-storage g c =
    rw (c.in-Unerase.is, c.put.ensures.put, c.set_block.ensures, c.get-name.ensures) (tested _ c.args.store.now.known _ (rw c.in-Unerase.is at c.requires)).2

pub returns-in-Restore-clause-recent : goal.returns-in-Restore-clause-recent
returns-in-Restore-clause-recent g c = rw c.put_each.ensures (stay_known (names_in (named_forms c.in-Restore.forms.items)) c.args.store.now.recent)

pub returns-in-Swap-clause-recent : goal.returns-in-Swap-clause-recent
returns-in-Swap-clause-recent g c = rw c.swap.ensures (among_back c.get-name.result.now c.in-Swap.old c.args.store.now.recent)

pub returns-in-Unerase-clause-recent : goal.returns-in-Unerase-clause-recent
returns-in-Unerase-clause-recent g c = rw (c.put.ensures.put, c.set_block.ensures) (among_more c.args.store.now.recent _ c.get-name.result.now refl)

pub returns-in-Point-clause-recent : goal.returns-in-Point-clause-recent
returns-in-Point-clause-recent g c = rw c.set_pointer.ensures.set (λ q h. h)

pub returns-in-Join-clause-recent : goal.returns-in-Join-clause-recent
returns-in-Join-clause-recent g c = rw c.unsegment.ensures (λ q h. h)
