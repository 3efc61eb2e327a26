use Rattle.std.proofs.Common.{◌-◌, sym, ap, ◌∙◌, arith}
use Rattle.std.specs.Prelude.{reverse}
use Rattle.trac_journal.specs.Journaled.{Journaled}
use Rattle.trac_journal.proofs.Counted.{fewer_moved, moved_less}
use Rattle.trac_journal.proofs.Newest.{moved_out}
use Rattle.trac_journal.proofs.journal.Journal.pop_moved.Goals as goal

pub overflow_sub-self-2 : goal.overflow_sub-self-2
overflow_sub-self-2 g c =
    (moved_less c.self.inside.moved c.min-count.result c.self.inside.len c.self.inside.weight c.self.inside.entries.items c.self.inside.lists.listed (omega arith) c.self.invariant).0

pub invariant_of-self : goal.invariant_of-self
invariant_of-self g c =
    (moved_less c.self.inside.moved c.min-count.result c.self.inside.len c.self.inside.weight c.self.inside.entries.items c.self.inside.lists.listed (omega arith) c.self.invariant).1

pub returns-clause-taken : goal.returns-clause-taken
returns-clause-taken g c =
    sym (ap (λ (j : Journaled). j.records) c.self.view_is)
    ∙ fewer_moved c.self.inside.moved c.min-count.result (reverse c.self.inside.entries.items) c.self.inside.lists.listed (omega arith)

pub returns-clause-end : goal.returns-clause-end
returns-clause-end g c = λ fewer first.
    moved_out (c.self.inside.moved - c.min-count.result) (reverse c.self.inside.entries.items) c.self.inside.lists.listed (omega (arith, fewer)) c.self.invariant.0 first
