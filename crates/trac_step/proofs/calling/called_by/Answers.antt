use Rattle.std.proofs.Common.{◌≡◌, ℕ, refl, ◌∙◌}
use Rattle.std.specs.Option.{option_and}
use Rattle.std.specs.Prelude.{Option, None, Some, option_map}
use Rattle.trac_step.proofs.calling.called_by.Goals as goal

-- the old meta character, where one is set
old_where_set : (old : ℕ) (set : Option ℕ) → option_and set (Some old) ≡ option_map (λ _. old) set
old_where_set old None = refl
old_where_set old (Some b) = refl

pub returns-clause-meta : goal.returns-clause-meta
returns-clause-meta g c = c.and.ensures ∙ old_where_set c.args.meta c.args.deed.meta
