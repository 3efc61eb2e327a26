use Rattle.std.proofs.Common.{ℕ, List, Ok, length, sym, ap, subst, ◌∙◌}
use Rattle.std.specs.Prelude.{Result}
use Rattle.std.proofs.lemmas.Bool.{eqb-false}
use Rattle.trac_rules.specs.declared.refusal.Refusal.{Refusal}
use Rattle.trac_rules.specs.Effect.{Effect, reads}
use Rattle.trac_rules.specs.Reading.{byte_read}
use Rattle.trac_change.specs.declared.change.UnnamedChange.TheVariants.{Keep}
use Rattle.trac_prims.specs.Effects.{IsDone}
use Rattle.trac_prims.proofs.Kept.{byte_given}
use Rattle.trac_prims.proofs.io.read_byte.Goals as goal

pub returns-clause-outcome : goal.returns-clause-outcome
returns-clause-outcome g c = λ arguments storage.
    let unread = c.split_at.result.1.now in
    let said = byte_given unread c.args.tape.ended storage (eqb-false (length unread) 0 (sym c.is_empty.ensures ∙ c.if-is_empty.false)) in
    subst (λ (text : List ℕ). IsDone arguments storage (byte_read text c.args.tape.ended storage) c.args.made.now c.take.new.made Keep c.take.result) c.split_at.ensures.back
    (subst (λ (o : Result Effect Refusal). IsDone arguments storage o c.args.made.now c.take.new.made Keep c.take.result)
    (ap (λ (text : List ℕ). Ok (reads text 1 storage)) c.split_at-2.ensures.front ∙ sym said) (c.take.ensures.outcome arguments storage))
