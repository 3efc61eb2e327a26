-- Readers and writers whose calls are noted, and the log.
use Rattle.trac_faults.specs.declared.logging.CallLog.{CallLog}
use Rattle.trac_faults.specs.declared.logging.Logged.{Logged}

-- the reader or writer itself
abbrev pub inner_of : {T A : Type 0} → Logged T A → T
inner_of l = l.inner

-- the allocator that a log takes its memory from
abbrev pub allocator_of : {A : Type 0} → CallLog A → A
allocator_of log = log.alloc
