-- The forms of all names are all forms.
use Rattle.trac_storage.proofs.Clearing.{all_leave, none_stays}
use Rattle.trac_storage.proofs.leaving.delete_all.Goals as goal

pub returns-clause-storage : goal.returns-clause-storage
returns-clause-storage g c =
    rw (c.in_ok-copies.ensures.copies, c.as_slice.ensures.value, c.in_ok-names.ensures.names, none_stays c.args.store.now.forms) at c.delete_each.ensures.storage

pub returns-clause-undone : goal.returns-clause-undone
returns-clause-undone g c =
    rw (c.in_ok-copies.ensures.copies, c.as_slice.ensures.value, c.in_ok-names.ensures.names, all_leave c.args.store.now.forms) at c.delete_each.ensures.undone
