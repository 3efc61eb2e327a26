-- Each change by the function that makes it, under the name that the call gave.
use Rattle.std.proofs.Common.{[], ◌∷◌}
use Rattle.std.specs.Prelude.{IsOk}
use Rattle.std.proofs.lemmas.Result.{on_err_weaker}
use Rattle.trac_change.specs.Changed.{named_forms}
use Rattle.trac_storage.proofs.Known.{knows_same, same_names}
use Rattle.trac_storage.proofs.Replacing.{block_apart}
use Rattle.trac_storage.proofs.changing.change_other.Goals as goal

pub returns-in-Keep : goal.returns-in-Keep
returns-in-Keep g c = rw c.in-Keep.is (assumption)

pub cut_out-requires : goal.cut_out-requires
cut_out-requires g c = rw c.get-name.ensures (rw c.in-Cut.is at c.requires.pieces)

pub returns-in-Cut : goal.returns-in-Cut
returns-in-Cut g c = rw (c.in-Cut.is, ← c.get-name.ensures) (assumption)

pub returns-in-Remove : goal.returns-in-Remove
returns-in-Remove g c =
    let free : ⊥ → IsOk c.delete_each.result = λ none. absurd none in
    rw c.in-Remove.is (assumption (free, same_names c.delete_each.result c.delete_each.ensures.names))

pub returns-in-Clear : goal.returns-in-Clear
returns-in-Clear g c =
    let free : ⊥ → IsOk c.delete_all.result = λ none. absurd none in
    rw c.in-Clear.is (assumption (free, same_names c.delete_all.result c.delete_all.ensures.names))

pub returns-in-MoveIn : goal.returns-in-MoveIn
returns-in-MoveIn g c =
    let free : ⊥ → IsOk c.put_aside.result = λ none. absurd none in
    let some = on_err_weaker c.put_aside.result (knows_same (c.get-name.result.now ∷ []) c.args.store.now.known c.put_aside.new.store.known) c.put_aside.ensures.same in
    rw (c.in-MoveIn.is, ← c.get-name.ensures) (assumption (free, some))

pub bring-requires : goal.bring-requires
bring-requires g c = block_apart c.in-Bring.number c.args.store.now.blocks (named_forms c.in-Bring.forms.items) c.requires.proper.blocks (rw c.in-Bring.is at c.requires.pieces)

pub returns-in-Bring : goal.returns-in-Bring
returns-in-Bring g c =
    let free : ⊥ → IsOk c.bring.result = λ none. absurd none in
    rw c.in-Bring.is (assumption free)

pub erase-requires : goal.erase-requires
erase-requires g c = rw c.in-Erase.is at c.requires.pieces

pub returns-in-Erase : goal.returns-in-Erase
returns-in-Erase g c = rw (c.in-Erase.is, ← c.get-name.ensures) (assumption)
