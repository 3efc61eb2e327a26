-- The closure takes each value away, and keeps each entry.
use Rattle.std.proofs.Common.{rules, ap, length, ◌∙◌}
use Rattle.std.proofs.lemmas.List.{length-map}
use Rattle.trac_forms.proofs.Parted.{parted_none}
use Rattle.trac_forms.proofs.Tables.{taken-RetainsPairs}
use Rattle.trac_forms.proofs.store.take_values.Goals as goal

pub returns-clause-taken : goal.returns-clause-taken
returns-clause-taken g c = taken-RetainsPairs _ _ (λ k v b w f call. search rules) _ _ c.retain.ensures.filtered

pub returns-clause-long : goal.returns-clause-long
returns-clause-long g c = ap length (taken-RetainsPairs _ _ (λ k v b w f call. search rules) _ _ c.retain.ensures.filtered) ∙ length-map c.args.table.now.entries _

pub returns-clause-parted : goal.returns-clause-parted
returns-clause-parted g c = parted_none c.args.table.now.entries _ (taken-RetainsPairs _ _ (λ k v b w f call. search rules) _ _ c.retain.ensures.filtered)
