-- The store holds what the parts say, or there is too much of it.
use Rattle.std.proofs.Common.{◌≡◌, ◌++◌, List, map, ap, ◌∙◌, refl, sym}
use Rattle.std.specs.Prelude.{Ok}
use Rattle.std.specs.List.{list_all}
use Rattle.std.proofs.lemmas.Result.{err_from_is_err_and}
use Rattle.trac_rules.specs.State.{Block, Storage, storage_of}
use Rattle.trac_rules.proofs.Outcomes.{lacks_limited, limited_beyond, limited_within}
use Rattle.trac_forms.specs.Outcomes.{as_refusal}
use Rattle.trac_change.specs.Changed.{named_forms}
use Rattle.trac_storage.specs.Loading.{block_few, block_of, counts_fit, forms_of, state_in}
use Rattle.trac_storage.proofs.Loaded.{knows_forms}
use Rattle.trac_storage.proofs.MovedForms.{knows_still}
use Rattle.trac_storage.proofs.Outcomes.{refuses_memory, refuses_with}
use Rattle.trac_storage.proofs.Filling.{blocks_many, counts_kept, forms_many}
use Rattle.trac_storage.proofs.storing.stored.Goals as goal

pub returns-in_err-push_copies-clause-answer : goal.returns-in_err-push_copies-clause-answer
returns-in_err-push_copies-clause-answer g c =
    let p = err_from_is_err_and c.from_residual-in_err-push_copies.result c.from_residual-in_err-push_copies.ensures.1 in
    let parts = c.args.parts.now in
    rw (p.1, p.2)
    (refuses_with (λ (bs : List Block). list_all block_few bs) (map block_of parts.blocks.items) counts_fit (storage_of (state_in parts)) _ (blocks_many parts)
    (rw c.as_slice-2.ensures.value at c.in_err-push_copies.ensures.err))

pub returns-clause-answer : goal.returns-clause-answer
returns-clause-answer g c =
    let parts = c.args.parts.now in
    let store_is = rw c.as_slice.ensures.value at c.in_ok-store.ensures.forms in
    let few = rw c.as_slice-2.ensures.value at c.in_ok-push_copies.ensures.few in
    let same = c.know_names.ensures.kept ∙ c.in_ok-push_copies.ensures.pushed
    ∙ ap (λ (s : Storage). let all : Storage = record s { blocks = s.blocks ++ map block_of c.as_slice-2.result.now } in all) store_is in
    limited_within counts_fit (storage_of (state_in parts)) (counts_kept parts c.in_ok-store.store store_is (rw c.form_count.ensures at c.if-form_count-gt-FORM_COUNT_LIMIT.false) few)
    ∙ ap Ok (sym (rw c.as_slice-2.ensures.value at same))

pub returns-clause-names : goal.returns-clause-names
returns-clause-names g c =
    let held = named_forms c.args.parts.now.forms.items in
    let known = c.know_names.new.store.known in
    let among = rw c.in_ok-push_copies.ensures.names at c.know_names.ensures.names in
    let forms : c.know_names.new.store.forms ≡ forms_of held =
    ap (λ (s : Storage). s.forms) (c.know_names.ensures.kept ∙ c.in_ok-push_copies.ensures.pushed) ∙ ap (λ (s : Storage). s.forms) c.in_ok-store.ensures.forms ∙ rw c.as_slice.ensures.value refl in
    rw forms (knows_forms held known (knows_still held c.in_ok-store.store.known known among (rw c.as_slice.ensures.value at c.in_ok-store.ensures.names)))

pub returns-clause-further : goal.returns-clause-further
returns-clause-further g c = rw c.as_slice-3.ensures.value at c.in_ok-know_names.ensures.known

pub returns-in_err-store-clause-answer : goal.returns-in_err-store-clause-answer
returns-in_err-store-clause-answer g c =
    let p = err_from_is_err_and c.from_residual.result c.from_residual.ensures.1 in
    rw p.1 (refuses_memory _ p.0 (p.2 ∙ ap as_refusal c.in_err-store.ensures.err) (lacks_limited counts_fit (storage_of (state_in c.args.parts.now))))

pub returns-then-form_count-gt-FORM_COUNT_LIMIT-clause-answer : goal.returns-then-form_count-gt-FORM_COUNT_LIMIT-clause-answer
returns-then-form_count-gt-FORM_COUNT_LIMIT-clause-answer g c =
    let parts = c.args.parts.now in
    limited_beyond counts_fit (storage_of (state_in parts))
    (forms_many parts c.in_ok-store.store (rw c.as_slice.ensures.value at c.in_ok-store.ensures.forms) (rw c.form_count.ensures at c.if-form_count-gt-FORM_COUNT_LIMIT.true))

pub returns-in_err-know_names-clause-answer : goal.returns-in_err-know_names-clause-answer
returns-in_err-know_names-clause-answer g c =
    let p = err_from_is_err_and c.from_residual-in_err-know_names.result c.from_residual-in_err-know_names.ensures.1 in
    rw p.1 (refuses_memory _ p.0 (p.2 ∙ ap as_refusal c.in_err-know_names.ensures.err) (lacks_limited counts_fit (storage_of (state_in c.args.parts.now))))
