-- Steps that are gone back over.
use Rattle.std.proofs.Common.{◌≡◌, ℕ, zero, suc, ◌<◌, length, refl, sym, ap, subst, ◌∙◌, arith, ⊎_elim}
use Rattle.std.specs.Prelude.{Option, None, Some, true, false}
use Rattle.std.proofs.lemmas.Option.{option_and_then_some}
use Rattle.trac_rules.specs.declared.refusal.Refusal.{Refusal}
use Rattle.trac_rules.specs.Session.{PlainSession, Step, Back, IsWalk, accepted_by, answer, done, no_goal, repeated}
use Rattle.trac_rules.proofs.Replies.{Step_done, accepted_done, answer_Back_from}
use Rattle.trac_rules.proofs.TakenAgain.{repeated_after_one}
use Rattle.trac_session.proofs.Returned.{back_count, refused_at_start}

-- back over a step is where it began
one_back : (p q : PlainSession) → answer Step p ≡ done q → answer Back q ≡ done p
one_back p q taken =
    let at = Step_done p q taken in
    subst (λ r. answer Back r ≡ done p) (sym at.2) (answer_Back_from _ p.last p.earlier refl)

-- and over so many steps too
steps_back : (n : ℕ) (p q : PlainSession) → repeated Step n p ≡ Some q → repeated Back n q ≡ Some p
steps_back zero p q taken = sym taken
steps_back (suc n) p q taken =
    option_and_then_some (λ (r : PlainSession). accepted_by (answer Step r)) (repeated Step n p) q taken
    (λ r there last. repeated_after_one Back n q r (one_back r q (accepted_done (answer Step r) q last)) ∙ steps_back n p r there)

-- a walk back by as many steps as were taken comes to where they began
pub came_back : (n : ℕ) (p q r : PlainSession) (steps : ℕ) (why : Option Refusal) → repeated Step n p ≡ Some q → IsWalk Back no_goal n q steps why r → r ≡ p
came_back n p q r steps None taken walk = ⊎_elim
    (λ (all : steps ≡ n). let both : Some r ≡ Some p = sym walk.walked ∙ ap (λ k. repeated Back k q) all ∙ steps_back n p q taken in cc)
    (λ (met : (0 < steps) × (false ≡ true)). absurd (cc (met.1)))
    walk.stopped
came_back n p q r steps (Some refusal) taken walk =
    absurd (omega (
      arith,
      walk.stopped.0,
      back_count steps q r walk.walked,
      back_count n q p (steps_back n p q taken),
      ap length (refused_at_start refusal r r walk.stopped.2),
    ))
