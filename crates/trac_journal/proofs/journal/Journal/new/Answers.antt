use Rattle.trac_journal.proofs.Counted.{none_sound}
use Rattle.trac_journal.proofs.journal.Journal.new.Goals as goal

pub invariant_of-result : goal.invariant_of-result
invariant_of-result g c = none_sound c.new.result.items c.new-2.result.listed c.new.ensures.items c.new-2.ensures
