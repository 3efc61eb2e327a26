use Rattle.std.proofs.Common.{◌≡◌, ℕ, List, Some, drop, sym, ap, ◌∙◌, refl}
use Rattle.std.specs.FinMap as finite
use Rattle.trac_forms.specs.Stored.{storage_in}
use Rattle.trac_rules.specs.Effect.{argument}
use Rattle.trac_rules.specs.Handling.{named_form}
use Rattle.trac_rules.specs.Limits.{may_be_put}
use Rattle.trac_rules.specs.Segmenting.{segmented}
use Rattle.trac_change.specs.declared.change.UnnamedChange.TheVariants.{Cut}
use Rattle.trac_prims.proofs.Held.{is_segmented, not_segmented}
use Rattle.trac_prims.proofs.Kept.{changed_so}
use Rattle.trac_prims.proofs.Putting.{sound_segmented}
use Rattle.trac_prims.proofs.forms.segment.Goals as goal

pub returns-then-not-may_put-clause-outcome : goal.returns-then-not-may_put-clause-outcome
returns-then-not-may_put-clause-outcome g c = λ width texts.
    let storage = storage_in c.args.store.now in
    let given = drop 2 c.args.args.now in
    let form = c.in-Some.form.now in
    let held : named_form c.args.args.now storage ≡ Some form = ap (finite.get storage.forms) (sym c.get-name.ensures) ∙ sym c.in-Some.ensures.value in
    let may = c.if-not-may_put.ensures (segmented given form) (sound_segmented given form c.in-Some.ensures.sound) in
    not_segmented (argument 1 c.args.args.now) given (named_form c.args.args.now storage) form storage held
    (ap (λ (name : List ℕ). may_be_put name (segmented given form) storage.forms) (sym c.get-name.ensures) ∙ sym may)

pub returns-clause-outcome : goal.returns-clause-outcome
returns-clause-outcome g c = λ width texts.
    let storage = storage_in c.args.store.now in
    let given = drop 2 c.args.args.now in
    let form = c.in-Some.form.now in
    let held : named_form c.args.args.now storage ≡ Some form = ap (finite.get storage.forms) (sym c.get-name.ensures) ∙ sym c.in-Some.ensures.value in
    let may = c.if-not-may_put.ensures (segmented given form) (sound_segmented given form c.in-Some.ensures.sound) in
    changed_so c.args.args.now storage texts (Cut c.in_ok-cut.cut)
    (is_segmented (argument 1 c.args.args.now) given (named_form c.args.args.now storage) form storage held
    (ap (λ (name : List ℕ). may_be_put name (segmented given form) storage.forms) (sym c.get-name.ensures) ∙ sym may))
    refl
