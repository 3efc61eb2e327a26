-- The form that is put back has a known name.
use Rattle.trac_storage.proofs.StorageBack.{knows_put}
use Rattle.trac_storage.proofs.storage_back.swap.Goals as goal

pub put-requires : goal.put-requires
put-requires g c = knows_put c.args.store.now.known c.args.store.now.forms c.args.name.now c.in-Some.form (rw c.in-Some.is at c.requires)
