use Rattle.std.proofs.Common.{refl}
use Rattle.trac_storage.proofs.changing.erase.Goals as goal

pub returns-in-Some-take-clause-storage : goal.returns-in-Some-take-clause-storage
returns-in-Some-take-clause-storage g c = rw (c.take.ensures.gone, c.take_block.ensures.erased) refl

pub returns-in-None-clause-storage : goal.returns-in-None-clause-storage
returns-in-None-clause-storage g c = rw (c.take.ensures.gone, c.take_block.ensures.erased) refl

pub returns-in-Some-take-clause-recent : goal.returns-in-Some-take-clause-recent
returns-in-Some-take-clause-recent g c = rw (c.take.ensures.gone, c.take_block.ensures.erased) (λ q h. h)

pub returns-in-None-clause-recent : goal.returns-in-None-clause-recent
returns-in-None-clause-recent g c = rw (c.take.ensures.gone, c.take_block.ensures.erased) (λ q h. h)
