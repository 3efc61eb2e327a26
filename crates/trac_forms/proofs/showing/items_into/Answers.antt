use Rattle.trac_forms.proofs.Going.{on_err, goes_on}
use Rattle.trac_forms.proofs.showing.items_into.Goals as goal

pub returns-in_err-item_into-clause-left : goal.returns-in_err-item_into-clause-left
returns-in_err-item_into-clause-left g c =
    on_err c.from_residual.result (goes_on _ _ _ _ c.loop-item.invariant c.in_err-item_into.ensures.left)
