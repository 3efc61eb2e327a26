-- What was destroyed, by the case that it is.
use Rattle.std.proofs.Common.{◌<◌, ◌^◌, List, ℕ, ap, arith, length, subst, sym, ◌∙◌}
use Rattle.std.specs.Prelude.{Vec}
use Rattle.trac_change.specs.Changed.{named_forms}
use Rattle.trac_rules.specs.Form.{Form}
use Rattle.trac_rules.specs.Weights.{held_weight, undone_weight}
use Rattle.trac_change.specs.Undone.{undone_in}
use Rattle.trac_change.proofs.undone.Undone.weight.Goals as goal

pub weigh_forms-requires : goal.weigh_forms-requires
weigh_forms-requires g c =
    subst (λ (es : List (Vec ℕ g.row.A.Denot × Form)). held_weight (named_forms es) < 2 ^ 64) (sym c.as_slice.ensures.value)
    (subst (λ change. undone_weight (undone_in change) < 2 ^ 64) c.in-Restore.is c.requires)

pub weigh_forms-requires-in-Unbring : goal.weigh_forms-requires-in-Unbring
weigh_forms-requires-in-Unbring g c =
    subst (λ (es : List (Vec ℕ g.row.A.Denot × Form)). held_weight (named_forms es) < 2 ^ 64) (sym c.as_slice-in-Unbring.ensures.value)
    (subst (λ change. undone_weight (undone_in change) < 2 ^ 64) c.in-Unbring.is c.requires)

pub weigh_block-requires : goal.weigh_block-requires
weigh_block-requires g c = omega (arith, subst (λ change. undone_weight (undone_in change) < 2 ^ 64) c.in-Unerase.is c.requires)

pub overflow_add-result : goal.overflow_add-result
overflow_add-result g c =
    omega (arith, c.weigh_block.ensures, c.len.ensures.len, subst (λ change. undone_weight (undone_in change) < 2 ^ 64) c.in-Unerase.is c.requires)

pub returns-in-Join : goal.returns-in-Join
returns-in-Join g c = rw c.in-Join.is (ap length c.gaps.ensures)

pub returns-in-Restore : goal.returns-in-Restore
returns-in-Restore g c =
    rw c.in-Restore.is (c.weigh_forms.ensures ∙ ap (λ (es : List (Vec ℕ g.row.A.Denot × Form)). held_weight (named_forms es)) c.as_slice.ensures.value)

pub returns-in-Unbring : goal.returns-in-Unbring
returns-in-Unbring g c =
    rw c.in-Unbring.is
    (c.weigh_forms-in-Unbring.ensures ∙ ap (λ (es : List (Vec ℕ g.row.A.Denot × Form)). held_weight (named_forms es)) c.as_slice-in-Unbring.ensures.value)

pub returns-in-Unerase : goal.returns-in-Unerase
returns-in-Unerase g c = rw c.in-Unerase.is (omega (arith, c.weigh_block.ensures, c.len.ensures.len))
