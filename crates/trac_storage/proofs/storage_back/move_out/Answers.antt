-- The last block was there, and its forms have known names. The last of them is put, in front of all others.
use Rattle.std.proofs.Common.{◌≡◌, [], ◌∷◌, length, drop, refl, sym, ap, ◌∙◌, arith}
use Rattle.std.specs.Prelude.{Some}
use Rattle.std.proofs.lemmas.List.{length_push}
use Rattle.trac_rules.specs.Blocks.{with_all}
use Rattle.trac_rules.specs.State.{Forms}
use Rattle.std.specs.FinSet as set
use Rattle.trac_rules.specs.Undone.{MoveOut, storage_before, swapped_back}
use Rattle.trac_forms.specs.Stored.{Stored, storage_in}
use Rattle.trac_forms.proofs.BlockLists.{apart_front}
use Rattle.trac_storage.specs.Changing.{AreAmong}
use Rattle.trac_storage.proofs.Known.{among_back, among_more}
use Rattle.trac_storage.proofs.StorageBack.{is_moved_out, knows_each, knows_fewer, knows_last, never_none, put_before_all}
use Rattle.trac_storage.proofs.storage_back.move_out.Goals as goal

pub unreachable-requires : goal.unreachable-requires
unreachable-requires g c =
    never_none c.args.store.now.known c.get-name.ensures (drop 2 c.args.arguments.now) c.args.old (storage_in c.args.store.now) (sym c.in_default.ensures.last) c.requires

pub swap-requires : goal.swap-requires
swap-requires g c =
    let store = c.args.store.now in
    let held = c.in-Some.block.held in
    let back = is_moved_out store.known c.get-name.ensures (drop 2 c.args.arguments.now) c.args.old (storage_in store) held (sym c.in-Some.ensures.last) c.requires in
    rw c.pop_block.ensures.others (knows_fewer held store.known (swapped_back c.get-name.result.now c.args.old store.forms) back.knows)

pub loop-name-init : goal.loop-name-init
loop-name-init g c =
    let store = c.args.store.now in
    let held = c.in-Some.block.held in
    let back = is_moved_out store.known c.get-name.ensures (drop 2 c.args.arguments.now) c.args.old (storage_in store) held (sym c.in-Some.ensures.last) c.requires in
    record {
      put = refl;
      recent = λ q h. h;
      apart = c.len-len.ensures.distinct;
      known = rw (c.swap.ensures, c.pop_block.ensures.others) (knows_each held store.known (swapped_back c.get-name.result.now c.args.old store.forms) back.knows);
    }

pub put-requires : goal.put-requires
put-requires g c =
    rw c.as_slice.ensures.value (knows_last c.pop.new.self.held c.loop-name.store.known (c.in-Some-pop.name.items, c.in-Some-pop.form) (rw c.in-Some-pop.ensures.last at c.loop-name.invariant).known).1

pub loop-name-preserved : goal.loop-name-preserved
loop-name-preserved g c =
    let store = c.loop-name.store in
    let fewer = c.pop.new.self.held in
    let name = c.in-Some-pop.name.items in
    let form = c.in-Some-pop.form in
    let so_far = rw c.in-Some-pop.ensures.last at c.loop-name.invariant in
    rw (c.put.ensures.put, c.as_slice.ensures.value) (record {
      put = ap (λ (forms : Forms). let after : Stored = record store { forms = forms; recent = c.swap.new.store.recent } in after) (put_before_all fewer store.forms name form so_far.apart) ∙ so_far.put;
      apart = apart_front fewer ((name, form) ∷ []) so_far.apart;
      recent = λ q h. among_more store.recent (set.insert store.recent name) name refl q (so_far.recent q h);
      known = (knows_last fewer store.known (name, form) so_far.known).0;
    })

pub loop-name-smaller : goal.loop-name-smaller
loop-name-smaller g c = omega (arith, ap length c.in-Some-pop.ensures.last, length_push c.pop.new.self.held (c.in-Some-pop.name.items, c.in-Some-pop.form))

pub returns : goal.returns
returns g c =
    let store = c.args.store.now in
    let held = c.in-Some.block.held in
    let back = c.swap.new.store in
    let after = rw c.in_default-pop.ensures.last.0 at c.loop-name.invariant in
    let stored : storage_in c.loop-name.store ≡ record { forms = with_all held back.forms; blocks = back.blocks } = ap storage_in after.put in
    let there : storage_before c.args.arguments.now (MoveOut c.args.old) (storage_in store) ≡ Some (record { forms = with_all held back.forms; blocks = back.blocks }) =
    rw (c.swap.ensures, c.pop_block.ensures.others)
    (is_moved_out store.known c.get-name.ensures (drop 2 c.args.arguments.now) c.args.old (storage_in store) held (sym c.in-Some.ensures.last) c.requires).state in
    let kept : back.known ≡ store.known = rw (c.swap.ensures, c.pop_block.ensures.others) refl in
    let among : AreAmong store.recent back.recent = rw (c.swap.ensures, c.pop_block.ensures.others) (among_back c.get-name.result.now c.args.old store.recent) in
    record {
      storage = there ∙ ap Some (sym stored);
      names = ap (λ (s : Stored). s.known) after.put ∙ kept;
      recent = λ q h. after.recent q (among q h);
    }
