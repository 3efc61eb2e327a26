use Rattle.std.proofs.Common.{◌≡◌, ℕ, ◌+◌, List, Ok, None, Some, length, sym, ap, subst, ◌∙◌, true}
use Rattle.std.specs.Prelude.{Bool, Result}
use Rattle.std.proofs.lemmas.Bool.{eqb-false}
use Rattle.trac_rules.specs.declared.refusal.Refusal.{Refusal}
use Rattle.trac_rules.specs.Effect.{Effect, reads}
use Rattle.trac_rules.specs.Outcomes.{limited}
use Rattle.trac_rules.specs.Reading.{read_up_to, rest_read, string_read}
use Rattle.trac_change.specs.declared.change.UnnamedChange.TheVariants.{Keep}
use Rattle.trac_prims.specs.Effects.{IsDone, pieces_fit}
use Rattle.trac_prims.proofs.FirstPlaces.{first_byte}
use Rattle.trac_prims.proofs.Kept.{rest_given}
use Rattle.trac_prims.proofs.io.read_string.Goals as goal

pub returns-in-Some-clause-outcome : goal.returns-in-Some-clause-outcome
returns-in-Some-clause-outcome g c = λ arguments storage.
    let unread = c.split_at.result.1.now in
    let said : string_read unread c.args.tape.ended c.args.meta storage ≡ Ok (reads c.split_at-in-Some.result.0.now (c.in-Some.k + 1) storage) =
    ap (λ p. read_up_to p unread c.args.tape.ended storage) (sym (first_byte c.args.meta unread (Some c.in-Some.k) c.in-Some.ensures))
    ∙ ap (λ (text : List ℕ). Ok (reads text (c.in-Some.k + 1) storage)) (sym c.split_at-in-Some.ensures.front) in
    subst (λ (text : List ℕ). IsDone arguments storage (string_read text c.args.tape.ended c.args.meta storage) c.args.made.now c.take.new.made Keep c.take.result) c.split_at.ensures.back
    (subst (λ (o : Result Effect Refusal). IsDone arguments storage o c.args.made.now c.take.new.made Keep c.take.result) (sym said) (c.take.ensures.outcome arguments storage))

pub returns-then-not-tape-clause-outcome : goal.returns-then-not-tape-clause-outcome
returns-then-not-tape-clause-outcome g c = λ arguments storage.
    let unread = c.split_at.result.1.now in
    ap (λ (text : List ℕ). limited pieces_fit (string_read text c.args.tape.ended c.args.meta storage)) (sym c.split_at.ensures.back)
    ∙ ap (λ p. limited pieces_fit (read_up_to p unread c.args.tape.ended storage)) (sym (first_byte c.args.meta unread None c.in_default.ensures))
    ∙ ap (λ (b : Bool). limited pieces_fit (rest_read unread b storage)) c.if-not-tape.true

pub returns-clause-outcome : goal.returns-clause-outcome
returns-clause-outcome g c = λ arguments storage.
    let unread = c.split_at.result.1.now in
    let ended : c.args.tape.ended ≡ true = c.if-not-tape.false in
    let said : string_read unread c.args.tape.ended c.args.meta storage ≡ Ok (reads unread (length unread) storage) =
    ap (λ p. read_up_to p unread c.args.tape.ended storage) (sym (first_byte c.args.meta unread None c.in_default.ensures))
    ∙ ap (λ (b : Bool). rest_read unread b storage) ended
    ∙ rest_given unread storage (eqb-false (length unread) 0 (sym c.is_empty.ensures ∙ c.if-is_empty.false)) in
    subst (λ (text : List ℕ). IsDone arguments storage (string_read text c.args.tape.ended c.args.meta storage) c.args.made.now c.take-2.new.made Keep c.take-2.result) c.split_at.ensures.back
    (subst (λ (o : Result Effect Refusal). IsDone arguments storage o c.args.made.now c.take-2.new.made Keep c.take-2.result) (sym said) (c.take-2.ensures.outcome arguments storage))
