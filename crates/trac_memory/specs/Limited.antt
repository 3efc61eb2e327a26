-- An allocator that keeps within a limit.
use Rattle.trac_memory.specs.declared.limited.Limited.{Limited}

-- the allocator that it asks
abbrev pub backing_of : {B : Type 0} → Limited B → B
backing_of heap = heap.backing
