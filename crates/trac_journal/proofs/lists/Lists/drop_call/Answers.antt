-- The first call of the list is the last of those that are seen.
use Rattle.std.proofs.Common.{ℕ, ◌+◌, drop, length, sym, ap, ◌∙◌, arith}
use Rattle.trac_gap.specs.Window.{Window}
use Rattle.trac_rules.specs.Weights.{meta_weight}
use Rattle.trac_journal.specs.Journaled.{Lists}
use Rattle.trac_journal.specs.declared.entry.CallEntry.{CallEntry}
use Rattle.trac_journal.proofs.Dropped.{first_call}
use Rattle.trac_journal.proofs.lists.Lists.drop_call.Goals as goal

pub drop_front-requires : goal.drop_front-requires
drop_front-requires g c =
    let ends = c.requires.1.1 in
    let first = first_call c.requires.1.0 c.requires.0 c.in-Some.ensures.items (ap (λ (v : Lists). v.listed.calls) c.self.view_is) ends.last in
    omega (arith, ends.bytes, ap (λ (call : CallEntry). call.bytes) first.1, ap (λ (v : Lists). length v.listed.bytes) c.self.view_is)

pub drop_front-requires-2 : goal.drop_front-requires-2
drop_front-requires-2 g c =
    let ends = c.requires.1.1 in
    let first = first_call c.requires.1.0 c.requires.0 c.in-Some.ensures.items (ap (λ (v : Lists). v.listed.calls) c.self.view_is) ends.last in
    omega (arith, ends.commas, ap (λ (call : CallEntry). call.commas) first.1, ap (λ (v : Lists). length v.listed.commas) c.self.view_is)

pub returns : goal.returns
returns g c =
    λ call newer ends.
    let first = first_call newer call c.in-Some.ensures.items (ap (λ (v : Lists). v.listed.calls) c.self.view_is) ends.last in (
      record {
        weighs = c.weigh_texts.ensures ∙ ap (λ (x : CallEntry). x.bytes + x.commas + meta_weight x.meta) (sym first.1);
        reads = ap (λ (x : CallEntry). x.read) (sym first.1);
        prints = ap (λ (x : CallEntry). x.printed) (sym first.1);
      },
      λ i. record (c.self.view_is i).listed {
        calls = sym first.0 i;
        bytes = (ap (λ (w : Window ℕ). w.items) c.drop_front.ensures ∙ (λ j. drop (sym first.1 j).bytes (c.self.view_is j).listed.bytes)) i;
        commas = (ap (λ (w : Window ℕ). w.items) c.drop_front-2.ensures ∙ (λ j. drop (sym first.1 j).commas (c.self.view_is j).listed.commas)) i;
      },
    )
