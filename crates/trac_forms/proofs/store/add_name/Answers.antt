use Rattle.std.proofs.Common.{◌∙◌, ◌++◌, ◌∷◌, [], List, ℕ, ap}
use Rattle.std.specs.Prelude.{None}
use Rattle.std.specs.Map.{lookup}
use Rattle.std.specs.Str.{bytes_eq}
use Rattle.indexmap.proofs.CallerLemmas.{insert_entry-new}
use Rattle.trac_forms.proofs.store.add_name.Goals as goal

pub returns-in-Ok-clause-added : goal.returns-in-Ok-clause-added
returns-in-Ok-clause-added g c =
    let called = c.in_ok-key.ensures.name in
    c.in-Ok.ensures.entries
    ∙ insert_entry-new _ c.args.table.now c.in_ok-key.key None (ap (λ (name : List ℕ). lookup (bytes_eq name) c.args.table.now.entries) called ∙ c.requires)
    ∙ ap (λ (name : List ℕ). c.args.table.now.entries ++ (name, None) ∷ []) called
