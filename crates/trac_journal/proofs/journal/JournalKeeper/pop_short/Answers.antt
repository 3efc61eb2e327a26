-- A moved byte is taken out of their number, and another short record with its entry.
use Rattle.std.proofs.Common.{refl, sym, ap, ◌∙◌, arith}
use Rattle.std.specs.Prelude.{reverse}
use Rattle.trac_journal.specs.Journaled.{Journaled}
use Rattle.trac_journal.proofs.Counted.{moved_first, moved_less}
use Rattle.trac_journal.proofs.Ends.{last_out}
use Rattle.trac_journal.proofs.Newest.{short_less}
use Rattle.trac_journal.proofs.journal.JournalKeeper.pop_short.Goals as goal

pub overflow_sub-self-then-self-gt0 : goal.overflow_sub-self-then-self-gt0
overflow_sub-self-then-self-gt0 g c =
    (moved_less c.self.inside.moved 1 c.self.inside.len c.self.inside.weight c.self.inside.entries.items c.self.inside.lists.listed (omega (arith, c.if-self-gt0.true)) c.self.invariant).0

pub invariant_of-self : goal.invariant_of-self
invariant_of-self g c =
    (moved_less c.self.inside.moved 1 c.self.inside.len c.self.inside.weight c.self.inside.entries.items c.self.inside.lists.listed (omega (arith, c.if-self-gt0.true)) c.self.invariant).1

pub returns-then-self-gt0 : goal.returns-then-self-gt0
returns-then-self-gt0 g c =
    sym (ap (λ (j : Journaled). j.records) c.self.view_is)
    ∙ moved_first c.self.inside.moved (reverse c.self.inside.entries.items) c.self.inside.lists.listed (omega (arith, c.if-self-gt0.true))

pub invariant_of-self-2 : goal.invariant_of-self-2
invariant_of-self-2 g c =
    let inside = c.self.inside in
    let last = last_out inside.entries.items _ c.in_ok-entry.field-0.now _ (c.in_ok-entry.ensures.variant.0 refl) inside.entries.ok.0 c.in_ok-entry.ensures.lookup c.pop_back.ensures.rest in
    (short_less (omega (arith, c.if-self-gt0.false)) last c.in_ok-short.ensures.0 c.in_ok-short.ensures.1 c.weigh_brief.ensures c.self.invariant).sound

pub returns : goal.returns
returns g c =
    let inside = c.self.inside in
    let last = last_out inside.entries.items _ c.in_ok-entry.field-0.now _ (c.in_ok-entry.ensures.variant.0 refl) inside.entries.ok.0 c.in_ok-entry.ensures.lookup c.pop_back.ensures.rest in
    sym (ap (λ (j : Journaled). j.records) c.self.view_is)
    ∙ (short_less (omega (arith, c.if-self-gt0.false)) last c.in_ok-short.ensures.0 c.in_ok-short.ensures.1 c.weigh_brief.ensures c.self.invariant).first
