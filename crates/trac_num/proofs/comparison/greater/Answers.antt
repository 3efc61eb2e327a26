use Rattle.std.proofs.Common.{◌∙◌, sym, ap, not, length}
use Rattle.std.proofs.lemmas.Bool.{eqb-true, eqb-false}
use Rattle.trac_num.proofs.Compared.{both_minus, first_minus, no_minus, second_minus_some, second_minus_zero}
use Rattle.trac_num.proofs.comparison.greater.Goals as goal

pub returns-then-has_minus-2 : goal.returns-then-has_minus-2
returns-then-has_minus-2 c =
    c.is_larger.ensures
    ∙ both_minus _ _ _ _ c.magnitude-first.ensures c.magnitude-second.ensures
    (sym c.has_minus.ensures ∙ c.if-has_minus.true) (sym c.has_minus-then-has_minus.ensures ∙ c.if-has_minus-2.true)

pub returns-else-has_minus-2 : goal.returns-else-has_minus-2
returns-else-has_minus-2 c =
    c.if-has_minus-2.false
    ∙ first_minus _ _ _ _ c.magnitude-first.ensures c.magnitude-second.ensures
    (sym c.has_minus.ensures ∙ c.if-has_minus.true) (sym c.has_minus-then-has_minus.ensures ∙ c.if-has_minus-2.false)

pub returns-then-not-is_empty : goal.returns-then-not-is_empty
returns-then-not-is_empty c =
    ap not c.if-not-is_empty.true
    ∙ second_minus_some _ _ _ _ c.magnitude-first.ensures c.magnitude-second.ensures
    (sym c.has_minus.ensures ∙ c.if-has_minus.false) (sym c.has_minus-2.ensures ∙ c.if-has_minus-3.true)
    (eqb-false (length c.magnitude-first.result.now) 0 (sym c.is_empty.ensures ∙ c.if-not-is_empty.true))

pub returns-else-not-is_empty : goal.returns-else-not-is_empty
returns-else-not-is_empty c =
    ap not c.is_empty-else-not-is_empty.ensures
    ∙ second_minus_zero _ _ _ _ c.magnitude-first.ensures c.magnitude-second.ensures
    (sym c.has_minus.ensures ∙ c.if-has_minus.false) (sym c.has_minus-2.ensures ∙ c.if-has_minus-3.true)
    (eqb-true (length c.magnitude-first.result.now) 0 (sym c.is_empty.ensures ∙ c.if-not-is_empty.false))

pub returns : goal.returns
returns c =
    c.is_larger-2.ensures
    ∙ no_minus _ _ _ _ c.magnitude-first.ensures c.magnitude-second.ensures
    (sym c.has_minus.ensures ∙ c.if-has_minus.false) (sym c.has_minus-2.ensures ∙ c.if-has_minus-3.false)
