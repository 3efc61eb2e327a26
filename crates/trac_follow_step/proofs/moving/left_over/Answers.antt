use Rattle.std.proofs.Common.{◌+◌, ◌-◌, ◌<◌, length, sym, ap, subst, ◌∙◌, arith}
use Rattle.trac_origins.specs.Places.{Carried, InActive}
use Rattle.trac_origins.proofs.Told.{byte_within}
use Rattle.trac_follow_step.proofs.Scanned.{idle_made, left_carried, left_less, none_by_test, some_by_test}
use Rattle.trac_follow_step.proofs.moving.left_over.Goals as goal

pub returns-then-is_empty-clause-tells : goal.returns-then-is_empty-clause-tells
returns-then-is_empty-clause-tells c = λ environment s t item h is same left stands.
    idle_made environment s t c.args.i is (same ∙ none_by_test c.args.active.now c.is_empty.result c.is_empty.ensures c.if-is_empty.true)

pub returns-then-left-active-clause-tells : goal.returns-then-left-active-clause-tells
returns-then-left-active-clause-tells c = λ environment s t item h is same left stands.
    let some = subst (λ text. 0 < length text) (sym same) (some_by_test c.args.active.now c.is_empty.result c.is_empty.ensures c.if-is_empty.false) in
    absurd (omega (arith, left_less environment s t c.args.i item h is some stands, left, ap (λ text. length text) same, c.if-left-active.true))

pub returns-then-i-left-clause-tells : goal.returns-then-i-left-clause-tells
returns-then-i-left-clause-tells c = λ environment s t item h is same left stands.
    absurd (omega (arith, byte_within c.args.i t.active item stands, left, c.if-i-left.true))

pub returns-clause-tells : goal.returns-clause-tells
returns-clause-tells c = λ environment s t item h is same left stands.
    left_carried environment s t c.args.i item is
    (subst (λ text. 0 < length text) (sym same) (some_by_test c.args.active.now c.is_empty.result c.is_empty.ensures c.if-is_empty.false)) stands
    ∙ ap (λ text. Carried (InActive (length text - length t.active + c.args.i))) same
    ∙ ap (λ n. Carried (InActive (length c.args.active.now - n + c.args.i))) (sym left)
