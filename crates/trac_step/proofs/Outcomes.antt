-- The outcome of a step, from what scanning asks for and what is performed.
use Rattle.std.proofs.Common.{◌≡◌, sym, ap, ◌∙◌, subst, true, false}
use Rattle.std.specs.Prelude.{Result, Ok, Err, IfErr, IsOkUnless, OnErr, OnOk}
use Rattle.trac_rules.specs.declared.refusal.Refusal.{Refusal}
use Rattle.trac_rules.specs.declared.refusal.Refusal.TheVariants.{Memory, TooLong}
use Rattle.trac_rules.specs.State.{Environment, State}
use Rattle.trac_rules.specs.Scanning.{Scanned, Moves, scan}
use Rattle.trac_rules.specs.Limits.{texts_fit}
use Rattle.trac_rules.specs.Outcomes.{limited, MayLackMemory}
use Rattle.trac_rules.specs.Stepping.{step, carried_out}
use Rattle.trac_rules.proofs.Outcomes.{lacks_limited, limited_beyond, limited_within}
use Rattle.trac_step.specs.Calling.{IfMoves, IsMove}
use Rattle.trac_step.proofs.Scans.{moves_of}

-- a call that answers memory alone, where nothing has changed
pub refused_for_memory : {R P : Type 0} (r : Result R Refusal) (Q : Refusal → Type 0) → OnErr r P → IsOkUnless r Memory → (P → Q Memory) → IfErr r Q
refused_for_memory (Ok x) Q same is holds = tt
refused_for_memory (Err e) Q same is holds = subst Q (sym is) (holds same)

-- a call that is the last one of another leads to the same state
pub taken_by : {R : Type 0} (r : Result R Refusal) (outcome : Result State Refusal) (s t : State) → outcome ≡ Ok s → OnOk r (t ≡ s) → OnOk r (outcome ≡ Ok t)
taken_by (Ok x) outcome s t taken same = taken ∙ ap Ok (sym same)
taken_by (Err e) outcome s t taken same = tt

-- what holds of every refusal
pub if_err_always : {R : Type 0} (r : Result R Refusal) (Q : Refusal → Type 0) → ((e : Refusal) → Q e) → IfErr r Q
if_err_always (Ok x) Q h = tt
if_err_always (Err e) Q h = h e

-- memory may be refused where a step leads on
pub taken_lacks : (outcome : Result State Refusal) (t : State) → outcome ≡ Ok t → MayLackMemory outcome
taken_lacks outcome t is = subst MayLackMemory (sym is) tt

pub step_as : (environment : Environment) (s : State) (scanned : Scanned) → scan s ≡ scanned → step environment s ≡ limited texts_fit (carried_out environment scanned)
unfolding step
step_as environment s scanned e = ap (λ x. limited texts_fit (carried_out environment x)) e

-- ---- scanning moves on

module _ (environment : Environment) (s : State) (moves : IsMove (scan s)) where
  outcome_of_move : step environment s ≡ limited texts_fit (Ok (moves_of (scan s) moves).0)
  outcome_of_move = step_as environment s (Moves (moves_of (scan s) moves).0) (moves_of (scan s) moves).1

  move_holds : (P : State → Type 0) → IfMoves (scan s) P → P (moves_of (scan s) moves).0
  move_holds P h = subst (λ x. IfMoves x P) (moves_of (scan s) moves).1 h

  pub move_beyond : IfMoves (scan s) (λ t. false ≡ texts_fit t) → step environment s ≡ Err TooLong
  move_beyond h = outcome_of_move ∙ limited_beyond texts_fit _ (sym (move_holds (λ t. false ≡ texts_fit t) h))

  pub move_lacks : MayLackMemory (step environment s)
  move_lacks = subst MayLackMemory (sym outcome_of_move) (lacks_limited texts_fit (moves_of (scan s) moves).0)

pub move_taken : (environment : Environment) (s t : State) → scan s ≡ Moves t → IfMoves (scan s) (λ u. true ≡ texts_fit u) → step environment s ≡ Ok t
move_taken environment s t scanned h =
    step_as environment s (Moves t) scanned ∙ limited_within texts_fit t (sym (subst (λ x. IfMoves x (λ u. true ≡ texts_fit u)) scanned h))
