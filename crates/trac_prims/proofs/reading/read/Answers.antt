use Rattle.std.proofs.Common.{◌≡◌, ℕ, List, ◌++◌, Some, None, Ok, true, sym, ap, subst, ◌∙◌, refl}
use Rattle.std.specs.FinMap as finite
use Rattle.std.specs.Prelude.{option_map}
use Rattle.std.proofs.lemmas.List.{append-nil}
use Rattle.trac_forms.specs.Stored.{storage_in}
use Rattle.trac_forms.specs.Taken.{taken}
use Rattle.trac_rules.specs.Effect.{argument, forces, gives}
use Rattle.trac_rules.specs.Handling.{default_argument, form_read, named_form, on_form, pointing}
use Rattle.trac_change.specs.Changed.{pointed}
use Rattle.trac_change.specs.declared.change.UnnamedChange.TheVariants.{Keep, Point}
use Rattle.trac_prims.specs.Effects.{IsDone, nothing}
use Rattle.trac_prims.proofs.Kept.{as_said, changed_so}
use Rattle.trac_prims.proofs.Changes.{pointer_stays}
use Rattle.trac_prims.proofs.Held.{form_is_read}
use Rattle.trac_prims.proofs.reading.read.Goals as goal

pub returns-in_default-clause-outcome : goal.returns-in_default-clause-outcome
returns-in_default-clause-outcome g c =
    let storage = storage_in c.args.store.now in
    let missing : named_form c.args.args.now storage ≡ None = ap (finite.get storage.forms) (sym c.get.ensures) ∙ sym c.in_default.ensures.value in
    rw c.requires
    (changed_so c.args.args.now storage c.args.made.now Keep
    (ap (λ h. on_form h (λ form. Ok (form_read c.args.reading c.args.width c.args.args.now form storage)) storage) missing)
    refl)

pub returns-in_default-2-clause-outcome : goal.returns-in_default-2-clause-outcome
returns-in_default-2-clause-outcome g c =
    let arguments = c.args.args.now in
    let storage = storage_in c.args.store.now in
    let name = argument 1 arguments in
    let form = c.in-Some.form.now in
    let old = c.args.made.now in
    let other = default_argument c.args.reading arguments in
    let held : named_form arguments storage ≡ Some form = ap (finite.get storage.forms) (sym c.get.ensures) ∙ sym c.in-Some.ensures.value in
    let outcome = form_is_read c.args.reading c.args.width arguments storage form None held (ap (option_map (λ p. taken p form)) (sym c.in_default-2.is) ∙ c.in_ok-piece.ensures.read) in
    let text : c.get-other.result.now ≡ other = c.get-other.ensures ∙ c.default_place.ensures arguments in
    subst (λ o. IsDone arguments storage o old (record old { value = c.extend_from_slice.new.self }) (Point c.pointer.result) (Ok (record nothing { forced = true }))) (sym outcome)
    (as_said arguments storage old (record old { value = c.extend_from_slice.new.self }) (forces other storage) (Point c.pointer.result) (record nothing { forced = true })
    (c.in_ok-extend_from_slice.ensures.items ∙ ap (λ (t : List ℕ). old.value.items ++ t) text) (sym (append-nil old.print.items))
    (ap (λ (k : ℕ). pointed name k (named_form arguments storage) storage) c.pointer.ensures ∙ pointer_stays name form storage held)
    refl)

pub returns-clause-outcome : goal.returns-clause-outcome
returns-clause-outcome g c =
    let arguments = c.args.args.now in
    let storage = storage_in c.args.store.now in
    let name = argument 1 arguments in
    let form = c.in-Some.form.now in
    let old = c.args.made.now in
    let piece = taken c.in-Some-2.piece form in
    let held : named_form arguments storage ≡ Some form = ap (finite.get storage.forms) (sym c.get.ensures) ∙ sym c.in-Some.ensures.value in
    let outcome = form_is_read c.args.reading c.args.width arguments storage form (Some piece) held (ap (option_map (λ p. taken p form)) (sym c.in-Some-2.is) ∙ c.in_ok-piece.ensures.read) in
    let added = c.in_ok-piece_into.ensures.ok ∙ ap (λ (before : List ℕ). before ++ piece.value) c.in_ok-reserve.ensures.items in
    let new = record old { value = c.piece_into.new.out } in
    subst (λ o. IsDone arguments storage o old new (Point piece.place) (Ok nothing)) (sym outcome)
    (as_said arguments storage old new (gives piece.value (pointing name piece.place form storage)) (Point piece.place) nothing
    added (sym (append-nil old.print.items))
    (ap (λ h. pointed name piece.place h storage) held) refl)
