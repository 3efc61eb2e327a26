use Rattle.std.proofs.Common.{◌≡◌, ℕ, List, ◌++◌, Ok, Some, None, refl, sym, ap, subst, ◌∙◌}
use Rattle.std.specs.FinMap as finite
use Rattle.trac_rules.specs.Effect.{prints}
use Rattle.trac_rules.specs.Handling.{named_form, on_form}
use Rattle.trac_rules.specs.Showing.{shown}
use Rattle.trac_forms.specs.Stored.{storage_in}
use Rattle.trac_change.specs.declared.change.UnnamedChange.TheVariants.{Keep}
use Rattle.trac_prims.specs.Effects.{IsDone, nothing}
use Rattle.trac_prims.proofs.Kept.{changed_so, printed}
use Rattle.trac_prims.proofs.forms.print_form.Goals as goal

pub returns-in_default : goal.returns-in_default
returns-in_default g c = λ width.
    let storage = storage_in c.args.store.now in
    let missing : named_form c.args.args.now storage ≡ None = ap (finite.get storage.forms) (sym c.get.ensures) ∙ sym c.in_default.ensures.value in
    changed_so c.args.args.now storage c.args.made.now Keep (ap (λ h. on_form h (λ form. Ok (prints (shown form) storage)) storage) missing) refl

pub returns : goal.returns
returns g c = λ width.
    let storage = storage_in c.args.store.now in
    let held : named_form c.args.args.now storage ≡ Some c.in-Some.form.now = ap (finite.get storage.forms) (sym c.get.ensures) ∙ sym c.in-Some.ensures.value in
    let old = c.args.made.now in
    let new = record old { print = c.show_into.new.out } in
    let added : c.show_into.new.out.items ≡ old.print.items ++ shown c.in-Some.form.now =
    c.in_ok-show_into.ensures.ok ∙ ap (λ (before : List ℕ). before ++ shown c.in-Some.form.now) c.in_ok-reserve.ensures.items in
    subst (λ o. IsDone c.args.args.now storage o old new Keep (Ok nothing))
    (sym (ap (λ h. on_form h (λ form. Ok (prints (shown form) storage)) storage) held))
    (printed c.args.args.now storage old new (shown c.in-Some.form.now) nothing refl added refl)
