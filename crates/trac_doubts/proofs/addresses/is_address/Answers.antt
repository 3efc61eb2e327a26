use Rattle.trac_doubts.proofs.Addressed.{too_long}
use Rattle.trac_doubts.proofs.addresses.is_address.Goals as goal

pub returns-in-None : goal.returns-in-None
returns-in-None g c = too_long c.args.form.now c.args.store.now.blocks c.block_count-count.ensures.within c.in-None.ensures
