-- The names of the forms are known first, and no form has changed then; then the form that is put next, and the one that
-- it replaces.
use Rattle.std.proofs.Common.{refl, sym, ap, ◌∙◌, arith}
use Rattle.std.specs.Prelude.{length}
use Rattle.std.specs.Vec.Iter.{into_iter_items}
use Rattle.std.proofs.lemmas.List.{append-nil, length_push, map-append}
use Rattle.trac_rules.specs.Undone.{Unbring, names_in}
use Rattle.trac_forms.specs.Stored.{Stored, storage_in}
use Rattle.trac_forms.proofs.Going.{on_err}
use Rattle.trac_change.specs.Changed.{named_forms}
use Rattle.trac_storage.specs.Changing.{knowing}
use Rattle.trac_storage.proofs.Emptied.{none_left}
use Rattle.trac_storage.proofs.Known.{among_same, are_known, knows_same, stay_known}
use Rattle.trac_storage.proofs.Replacing.{apart_next, replaced_next}
use Rattle.trac_storage.proofs.leaving.bring.Goals as goal

pub returns-in_err-replaced-clause-some : goal.returns-in_err-replaced-clause-some
returns-in_err-replaced-clause-some g c = on_err _ (knows_same (names_in (named_forms c.args.forms.items)) c.args.store.now.known c.args.store.now.known refl)

pub returns-in_err-know_each-clause-some : goal.returns-in_err-know_each-clause-some
returns-in_err-know_each-clause-some g c = on_err _ (rw c.as_slice.ensures.value at c.in_err-know_each.ensures.some)

pub loop-name-init : goal.loop-name-init
loop-name-init g c =
    let all = c.into_iter-name-iterator.ensures.into_iter_gives.0 in
    let none = c.in_ok-replaced.ensures.items in (
      rw all refl,
      rw (all, c.in_ok-know_each.ensures.names, c.as_slice.ensures.value) (are_known (named_forms c.args.forms.items) c.args.store.now.known),
      rw all c.requires,
      rw (none, all) refl,
      omega (arith, ap length none, ap length all, c.in_ok-replaced.ensures.exact, c.len.ensures, c.args.forms.ok.0),
    )

pub put-requires : goal.put-requires
put-requires g c =
    let so_far = rw c.in-Some.ensures.steps.0 at c.loop-name.invariant in
    rw c.as_slice-in-loop-name.ensures.value so_far.1.0

pub push_reserved-requires : goal.push_reserved-requires
push_reserved-requires g c = omega (arith, c.loop-name.invariant.4, ap length c.in-Some.ensures.steps.0)

pub loop-name-preserved-in-Some-put : goal.loop-name-preserved-in-Some-put
loop-name-preserved-in-Some-put g c =
    let at = c.loop-name in
    let so_far = rw c.in-Some.ensures.steps.0 at at.invariant in
    let found = rw c.as_slice-in-loop-name.ensures.value at c.in-Some-put.ensures.replaced in
    let next = replaced_next (named_forms at.replaced.items) at.store.forms c.in-Some.name.items c.in-Some.form _ _ so_far.2 so_far.3 in
    rw (c.put.ensures.put, c.as_slice-in-loop-name.ensures.value, c.push_reserved.ensures.items, map-append) (
      so_far.0,
      so_far.1.1,
      apart_next c.in-Some.name.items c.in-Some.form _ so_far.2,
      rw (← found) at next,
      omega (arith, so_far.4, length_push at.replaced.items (c.in-Some.name, c.in-Some-put.old), c.push_reserved.ensures.capacity),
    )

pub loop-name-preserved : goal.loop-name-preserved
loop-name-preserved g c =
    let at = c.loop-name in
    let so_far = rw c.in-Some.ensures.steps.0 at at.invariant in
    let missing = rw c.as_slice-in-loop-name.ensures.value at c.in_default.ensures.replaced in
    let next = replaced_next (named_forms at.replaced.items) at.store.forms c.in-Some.name.items c.in-Some.form _ _ so_far.2 so_far.3 in
    rw (c.put.ensures.put, c.as_slice-in-loop-name.ensures.value)
    (so_far.0, so_far.1.1, apart_next c.in-Some.name.items c.in-Some.form _ so_far.2, rw (← missing, append-nil) at next, omega (arith, so_far.4))

pub returns : goal.returns
returns g c =
    let at = c.loop-name in
    let all = rw (none_left (into_iter_items at.name-iterator) (sym at.name-iterator.rest.ok.0 ∙ c.in-None.ensures.steps.0)) at at.invariant in
    record {
      storage = ap storage_in all.0 ∙ rw c.know_each.ensures.stays refl;
      undone = ap (Unbring c.args.number) (sym (append-nil (named_forms at.replaced.items)) ∙ all.3 ∙ rw c.know_each.ensures.stays refl);
      unchanged = tt;
      names = ap (λ (s : Stored). s.known) all.0 ∙ rw c.as_slice.ensures.value at c.in_ok-know_each.ensures.names;
      some = tt;
      recent = λ q h.
          among_same (knowing (names_in (named_forms c.args.forms.items)) c.know_each.new.store.recent) at.store.recent (ap (λ (s : Stored). s.recent) all.0) q
          (stay_known (names_in (named_forms c.args.forms.items)) c.know_each.new.store.recent q (c.know_each.ensures.recent q h));
      places = ap (λ (s : Stored). s.spare) all.0 ∙ ap (λ (s : Stored). s.spare) c.know_each.ensures.stays;
      err = tt;
    }
