use Rattle.std.proofs.Common.{◌≡◌, ℕ, not, suc, nat_le, nat_lt, refl, sym, ap, ◌∙◌, arith}
use Rattle.std.specs.FinMap as finite
use Rattle.std.proofs.Math.Dec.{leb-suc-suc}
use Rattle.trac_rules.specs.declared.limit.TheConstants.{FORM_COUNT_LIMIT}
use Rattle.trac_prims.proofs.Putting.{not_under_long, put_again, put_any, put_new, there_behind}
use Rattle.trac_prims.proofs.forms.may_put.Goals as goal

-- fewer than one more are no more
no_more : (count limit next : ℕ) → next ≡ suc limit → nat_lt count next ≡ nat_le count limit
no_more count limit next e = ap (λ (n : ℕ). nat_lt count n) e ∙ leb-suc-suc count limit

pub returns-then-name-gt-NAME_LIMIT : goal.returns-then-name-gt-NAME_LIMIT
returns-then-name-gt-NAME_LIMIT g c = λ form sound. not_under_long c.args.name.now form c.args.store.now.forms c.if-name-gt-NAME_LIMIT.true

pub returns-then-has_fewer_forms : goal.returns-then-has_fewer_forms
returns-then-has_fewer_forms g c = λ form sound.
    put_any c.args.name.now form c.args.store.now.forms (finite.len c.args.store.now.forms) (omega (arith, c.if-name-gt-NAME_LIMIT.false)) sound refl
    (sym c.has_fewer_forms.ensures ∙ c.if-has_fewer_forms.true)

pub returns-then-is_none : goal.returns-then-is_none
returns-then-is_none g c = λ form sound.
    sym c.if-has_fewer_forms.false ∙ c.has_fewer_forms.ensures
    ∙ put_new c.args.name.now form c.args.store.now.forms (finite.len c.args.store.now.forms) (omega (arith, c.if-name-gt-NAME_LIMIT.false)) sound refl
    (sym (there_behind c.get.result _ c.get.ensures.value) ∙ c.is_none.ensures ∙ ap not c.if-is_none.true)

pub returns : goal.returns
returns g c = λ form sound.
    c.has_fewer_forms-2.ensures
    ∙ no_more (finite.len c.args.store.now.forms) FORM_COUNT_LIMIT _ refl
    ∙ put_again c.args.name.now form c.args.store.now.forms (finite.len c.args.store.now.forms) (omega (arith, c.if-name-gt-NAME_LIMIT.false)) sound refl
    (sym (there_behind c.get.result _ c.get.ensures.value) ∙ c.is_none.ensures ∙ ap not c.if-is_none.false)
