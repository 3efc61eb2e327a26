use Rattle.trac_storage.proofs.Pointers.{pointed_there}
use Rattle.trac_storage.proofs.changing.set_pointer.Goals as goal

pub returns-in-Some-clause-storage : goal.returns-in-Some-clause-storage
returns-in-Some-clause-storage g c = pointed_there c.args.store.now c.set_pointer.new.self c.args.name.now c.args.place c.set_pointer.ensures.set

pub returns-in-None-clause-storage : goal.returns-in-None-clause-storage
returns-in-None-clause-storage g c = pointed_there c.args.store.now c.set_pointer.new.self c.args.name.now c.args.place c.set_pointer.ensures.set

pub returns-in-Some-clause-recent : goal.returns-in-Some-clause-recent
returns-in-Some-clause-recent g c = rw c.set_pointer.ensures.set (λ q h. h)

pub returns-in-None-clause-recent : goal.returns-in-None-clause-recent
returns-in-None-clause-recent g c = rw c.set_pointer.ensures.set (λ q h. h)
