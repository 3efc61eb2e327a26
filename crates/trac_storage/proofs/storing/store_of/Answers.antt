-- One more form is in the store, and its name is known.
use Rattle.std.proofs.Common.{List, ℕ, refl, sym, ap, subst, arith}
use Rattle.std.specs.FinSet as set
use Rattle.std.specs.Prelude.{Vec}
use Rattle.std.proofs.lemmas.List.{drop_all}
use Rattle.trac_rules.specs.Form.{Form}
use Rattle.trac_forms.specs.Stored.{Stored, storage_in}
use Rattle.trac_change.specs.Changed.{named_forms}
use Rattle.trac_text.proofs.Framed.{map_rest}
use Rattle.trac_storage.specs.Changing.{KnowsNamed}
use Rattle.trac_storage.proofs.Known.{are_known}
use Rattle.trac_storage.proofs.storing.store_of.Goals as goal

pub loop-name-init : goal.loop-name-init
loop-name-init g c = rw c.new-store.ensures refl

pub loop-name-preserved : goal.loop-name-preserved
loop-name-preserved g c =
    let next = map_rest {Y = List ℕ × Form} (λ (e : Vec ℕ g.row.A.Denot × Form). (e.0.items, e.1)) c.args.forms.now c.loop-name.name-index c.loop-name-item.result (omega (arith, c.loop-name-test.true)) c.loop-name-item.is in
    let so_far = rw next at c.loop-name.invariant in
    rw (c.in_ok-insert.ensures.put, c.as_slice.ensures.value, c.in_ok-copy.ensures.same) so_far

pub returns : goal.returns
returns g c =
    let held = named_forms c.args.forms.now in
    let all = rw (drop_all c.loop-name.name-index c.args.forms.now c.loop-name-test.false) at c.loop-name.invariant in
    record {
      forms = ap storage_in all;
      names = subst (KnowsNamed held) (sym (ap (λ (s : Stored). s.known) all)) (are_known held set.empty);
      err = tt;
    }
