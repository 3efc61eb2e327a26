use Rattle.std.proofs.Common.{List, ℕ, map, ap, subst, ◌∙◌}
use Rattle.std.specs.List.Sorted.{IsPermutation}
use Rattle.std.proofs.lemmas.List.Sorted.{IsPermutation-map}
use Rattle.trac_rules.specs.Listing.{names_of}
use Rattle.trac_forms.proofs.Names.{names_sorted, never_fall_sorted}
use Rattle.trac_forms.proofs.store.Store.names.Goals as goal

pub returns-clause-names : goal.returns-clause-names
returns-clause-names g c =
    let es = c.self.inside.table.entries in
    let sorted = map (λ name. name.now) c.sort_unstable.new.self.items in
    names_sorted es sorted c.in_ok-names.ensures.unique
    (subst (λ (ns : List (List ℕ)). IsPermutation ns sorted) c.in_ok-names.ensures.names
    (IsPermutation-map (λ name. name.now) c.in_ok-names.names.items c.sort_unstable.new.self.items c.sort_unstable.ensures.permutation))
    (never_fall_sorted c.sort_unstable.new.self.items c.sort_unstable.ensures.sorted)
    ∙ ap (λ s. names_of s.forms) c.self.view_is
