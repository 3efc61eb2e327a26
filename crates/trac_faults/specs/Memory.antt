-- An allocator that refuses chosen requests.
use Rattle.trac_faults.specs.declared.memory.Refusing.{Refusing}

-- the allocator that it asks
abbrev pub backing_of : {B : Type 0} → Refusing B → B
backing_of heap = heap.backing
