use Rattle.std.proofs.Common.{ap, sym, ◌∙◌, arith}
use Rattle.std.specs.Prelude.{reverse}
use Rattle.std.proofs.lemmas.List.{reverse-reverse}
use Rattle.trac_journal.specs.Dropped.{printed_first}
use Rattle.trac_journal.specs.Journaled.{Journaled}
use Rattle.trac_journal.proofs.Printed.{printed_all}
use Rattle.trac_journal.proofs.journal.Journal.printed_before.Goals as goal

pub printed_by_first-requires : goal.printed_by_first-requires
printed_by_first-requires g c =
    let inside = c.self.inside in
    let all = printed_all inside.entries.items (reverse inside.lists.listed.calls) inside.moved c.args.n inside.len inside.lists.listed c.args.self.now.records c.self.invariant.0
    (sym (reverse-reverse inside.lists.listed.calls)) (ap (λ (j : Journaled). j.records) c.self.view_is) c.self.invariant.1.all in
    omega (arith, c.requires, all, ap (λ k. printed_first k inside.entries.items (reverse inside.lists.listed.calls)) c.saturating_sub.ensures)

pub returns : goal.returns
returns g c =
    let inside = c.self.inside in
    let all = printed_all inside.entries.items (reverse inside.lists.listed.calls) inside.moved c.args.n inside.len inside.lists.listed c.args.self.now.records c.self.invariant.0
    (sym (reverse-reverse inside.lists.listed.calls)) (ap (λ (j : Journaled). j.records) c.self.view_is) c.self.invariant.1.all in
    c.printed_by_first.ensures ∙ ap (λ k. printed_first k inside.entries.items (reverse inside.lists.listed.calls)) c.saturating_sub.ensures ∙ all
