use Rattle.std.proofs.Common.{◌≡◌, ℕ, ◌<◌, ◌++◌, List, length, drop, Ok, Some, None, refl, sym, ap, subst, ◌∙◌}
use Rattle.std.specs.FinMap as finite
use Rattle.trac_rules.specs.declared.limit.TheConstants.{TEXT_LIMIT}
use Rattle.trac_rules.specs.Effect.{gives}
use Rattle.trac_rules.specs.Filling.{called}
use Rattle.trac_rules.specs.Handling.{named_form, on_form}
use Rattle.trac_rules.specs.Outcomes.{limited}
use Rattle.trac_forms.specs.Stored.{storage_in}
use Rattle.trac_prims.specs.Effects.{IsDone, pieces_fit, nothing}
use Rattle.trac_change.specs.declared.change.UnnamedChange.TheVariants.{Keep}
use Rattle.trac_prims.proofs.Kept.{changed_so, given, value_beyond}
use Rattle.trac_prims.proofs.forms.call.Goals as goal

pub returns-in_default-room_of : goal.returns-in_default-room_of
returns-in_default-room_of g c = λ width.
    let storage = storage_in c.args.store.now in
    let held : named_form c.args.args.now storage ≡ Some c.in-Some.form.now = ap (finite.get storage.forms) (sym c.get.ensures) ∙ sym c.in-Some.ensures.value in
    let long : TEXT_LIMIT < length (called (drop 2 c.args.args.now) c.in-Some.form.now) = c.in_default-room_of.ensures in
    ap (λ h. limited pieces_fit (on_form h (λ form. Ok (gives (called (drop 2 c.args.args.now) form) storage)) storage)) held
    ∙ value_beyond (called (drop 2 c.args.args.now) c.in-Some.form.now) storage long

pub returns-in_default : goal.returns-in_default
returns-in_default g c = λ width.
    let storage = storage_in c.args.store.now in
    let missing : named_form c.args.args.now storage ≡ None = ap (finite.get storage.forms) (sym c.get.ensures) ∙ sym c.in_default.ensures.value in
    changed_so c.args.args.now storage c.args.made.now Keep
    (ap (λ h. on_form h (λ form. Ok (gives (called (drop 2 c.args.args.now) form) storage)) storage) missing)
    refl

pub returns : goal.returns
returns g c = λ width.
    let storage = storage_in c.args.store.now in
    let held : named_form c.args.args.now storage ≡ Some c.in-Some.form.now = ap (finite.get storage.forms) (sym c.get.ensures) ∙ sym c.in-Some.ensures.value in
    let text = called (drop 2 c.args.args.now) c.in-Some.form.now in
    let added : c.call_into.new.out.items ≡ c.args.made.now.value.items ++ text =
    c.in_ok-call_into.ensures.ok
    ∙ ap (λ (before : List ℕ). before ++ called c.after-texts.result c.in-Some.form.now) c.in_ok-reserve.ensures.items
    ∙ ap (λ (texts : List (List ℕ)). c.args.made.now.value.items ++ called texts c.in-Some.form.now) c.after-texts.ensures in
    let new = record c.args.made.now { value = c.call_into.new.out } in
    subst (λ o. IsDone c.args.args.now storage o c.args.made.now new Keep (Ok nothing))
    (sym (ap (λ h. on_form h (λ form. Ok (gives (called (drop 2 c.args.args.now) form) storage)) storage) held))
    (given c.args.args.now storage c.args.made.now new text nothing added refl refl)
