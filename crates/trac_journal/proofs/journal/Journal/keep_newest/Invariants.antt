-- What is kept so far, and what is counted of the records that are dropped.
use Rattle.std.proofs.Common.{length}
use Rattle.trac_journal.specs.Told.{printed_by, read_by}
use Rattle.trac_journal.proofs.Dropped.{AreKept}
use Rattle.trac_journal.proofs.journal.Journal.keep_newest.Given as goal

abbrev pub invariant-loop-self : goal.invariant-loop-self
invariant-loop-self g l = record {
  read : AreKept read_by l.initial.self.records l.self.records l.n l.passed.read;
  printed : AreKept printed_by l.initial.self.records l.self.records l.n l.passed.printed;
}

abbrev pub decreases-loop-self : goal.decreases-loop-self
decreases-loop-self g l = length l.self.records
