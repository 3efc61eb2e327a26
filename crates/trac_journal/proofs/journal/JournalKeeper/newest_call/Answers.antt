-- Where a byte was moved after the newest call, that is the newest record.
use Rattle.std.proofs.Common.{sym, subst, arith}
use Rattle.std.specs.Prelude.{reverse}
use Rattle.trac_journal.specs.Journaled.{Journaled}
use Rattle.trac_journal.specs.Told.{IsCallFirst}
use Rattle.trac_journal.proofs.Newest.{none_moved}
use Rattle.trac_journal.proofs.journal.JournalKeeper.newest_call.Goals as goal

pub returns-then-self-gt0 : goal.returns-then-self-gt0
returns-then-self-gt0 g c =
    λ first.
    let none = none_moved IsCallFirst (λ older is. is) c.self.inside.moved (reverse c.self.inside.entries.items) c.self.inside.lists.listed
    (subst (λ (j : Journaled). IsCallFirst j.records) (sym c.self.view_is) first) in
    omega (arith, none, c.if-self-gt0.true)
