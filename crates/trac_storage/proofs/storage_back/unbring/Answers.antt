-- The forms of all names in the block leave, and it is put in its own place again.
use Rattle.std.proofs.Common.{refl, sym, arith}
use Rattle.std.proofs.lemmas.List.{drop_all}
use Rattle.trac_rules.specs.Handling.{without}
use Rattle.trac_rules.specs.Undone.{names_in}
use Rattle.trac_forms.specs.Stored.{storage_in}
use Rattle.trac_change.specs.Changed.{named_forms}
use Rattle.trac_change.proofs.Weighed.{next_held}
use Rattle.trac_storage.proofs.Known.{stay_known}
use Rattle.trac_storage.proofs.StorageBack.{is_unbrought, knows_each, never_erased, set_again}
use Rattle.trac_storage.proofs.storage_back.unbring.Goals as goal

pub unreachable-requires : goal.unreachable-requires
unreachable-requires g c =
    let store = c.args.store.now in
    never_erased store.known c.args.number (named_forms c.args.replaced.items) (storage_in store) (sym c.in_default.ensures.taken) c.requires

pub loop-i-preserved : goal.loop-i-preserved
loop-i-preserved g c = rw c.take.ensures.gone (rw (next_held c.in-Some.block.held c.loop-i.i _ c.in-Some-get.ensures) at c.loop-i.invariant)

pub set_block-requires : goal.set_block-requires
set_block-requires g c =
    let store = c.args.store.now in
    let held = c.in-Some.block.held in
    let left = rw (drop_all c.loop-i.i held (omega (arith, c.loop-i-test.false, c.len-i-end.ensures.len))) at c.loop-i.invariant in
    rw (left, c.take_block.ensures.erased) (set_again store.blocks c.args.number held (sym c.in-Some.ensures.taken)).0

pub put_each-requires : goal.put_each-requires
put_each-requires g c =
    let store = c.args.store.now in
    let held = c.in-Some.block.held in
    let left = rw (drop_all c.loop-i.i held (omega (arith, c.loop-i-test.false, c.len-i-end.ensures.len))) at c.loop-i.invariant in
    let replaced = named_forms c.args.replaced.items in
    let back = is_unbrought store.known c.args.number replaced (storage_in store) held (sym c.in-Some.ensures.taken) c.requires in
    rw (c.set_block.ensures, left, c.take_block.ensures.erased) (knows_each replaced store.known (without (names_in held) store.forms) back.knows)

pub returns : goal.returns
returns g c =
    let store = c.args.store.now in
    let held = c.in-Some.block.held in
    let left = rw (drop_all c.loop-i.i held (omega (arith, c.loop-i-test.false, c.len-i-end.ensures.len))) at c.loop-i.invariant in
    let again = (set_again store.blocks c.args.number held (sym c.in-Some.ensures.taken)).1 in
    record {
      storage =
          rw (c.put_each.ensures, c.set_block.ensures, left, c.take_block.ensures.erased, again)
          (is_unbrought store.known c.args.number (named_forms c.args.replaced.items) (storage_in store) held (sym c.in-Some.ensures.taken) c.requires).state;
      recent = rw (c.put_each.ensures, c.set_block.ensures, left, c.take_block.ensures.erased) (stay_known (names_in (named_forms c.args.replaced.items)) store.recent);
      names = rw (c.put_each.ensures, c.set_block.ensures, left, c.take_block.ensures.erased) refl;
    }
