-- The first of the list is the last of what is seen.
use Rattle.std.proofs.Common.{sym, ap, subst, ◌<◌, ◌^◌, ◌∙◌}
use Rattle.trac_rules.specs.Undone.{Undone}
use Rattle.trac_rules.specs.Weights.{undone_weight}
use Rattle.trac_journal.specs.Journaled.{Lists}
use Rattle.trac_change.specs.Undone.{undone_in}
use Rattle.trac_journal.proofs.Dropped.{first_of}
use Rattle.trac_journal.proofs.lists.Lists.drop_undone.Goals as goal

pub weight-requires : goal.weight-requires
weight-requires g c =
    let first = first_of undone_in c.requires.1.0 c.requires.0 c.in-Some.ensures.items (ap (λ (v : Lists). v.listed.undone) c.self.view_is) c.requires.1.1.0 in
    subst (λ (u : Undone). undone_weight u < 2 ^ 64) first.1 c.requires.1.1.1

pub returns : goal.returns
returns g c =
    λ undone newer last.
    let first = first_of undone_in newer undone c.in-Some.ensures.items (ap (λ (v : Lists). v.listed.undone) c.self.view_is) last in (
      c.weight.ensures ∙ ap undone_weight (sym first.1),
      λ i. record (c.self.view_is i).listed { undone = sym first.0 i },
    )
