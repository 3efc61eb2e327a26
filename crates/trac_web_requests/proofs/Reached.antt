-- A step that is reached, and rows that are put together.
use Rattle.std.proofs.Common.{◌≡◌, ℕ, ◌+◌, ◌-◌, ◌/◌, ◌<◌, ◌≤◌, List, ◌++◌, false, length, ap, subst, ◌∙◌, arith, ⊎_elim}
use Rattle.std.specs.Prelude.{Option, None, Some, MatchOption}
use Rattle.std.proofs.lemmas.List.{append_assoc}
use Rattle.trac_rules.specs.declared.refusal.Refusal.{Refusal}
use Rattle.trac_rules.specs.declared.reply.Reply.TheVariants.{Refused}
use Rattle.trac_rules.specs.Session.{PlainSession, Answers, Commit, HasEnded, IsWalk, Step, answer, done, first_kept, no_goal, repeated}
use Rattle.trac_run.specs.Runs.{TakesSteps}
use Rattle.trac_run.proofs.Stepped.{steps_both, steps_commit, steps_many}
use Rattle.trac_moves.specs.Windows.{IsWindow}
use Rattle.trac_moves.proofs.Kept.{count_kept, forward, step_count}
use Rattle.trac_web_requests.specs.Ways.{WindowGoes}

-- a walk that no refusal ended took all its steps
pub walked_all : (n : ℕ) (old new : PlainSession) (steps : ℕ) (why : Option Refusal) → IsWalk Step no_goal n old steps why new → why ≡ None → steps ≡ n
walked_all n old new steps why walk none =
    let stopped : HasEnded no_goal n steps new =
    subst (λ w. MatchOption w (HasEnded no_goal n steps new) (λ refusal. (steps < n) × (0 < steps → no_goal new.last ≡ false) × Answers Step new (Refused refusal) new)) none walk.stopped in
    ⊎_elim (λ all. all) (λ met. absurd (cc met.1)) stopped

module _ (steps left : ℕ) (why : Option Refusal) (start old new : PlainSession) (most : left ≤ steps) (before : TakesSteps (steps - left) start old) where
  -- after a walk of all steps that were left, all are taken
  pub reached : (k : ℕ) → IsWalk Step no_goal left old k why new → why ≡ None → TakesSteps steps start new
  reached k walk none =
      let all : k ≡ left = walked_all left old new k why walk none in
      let count : (steps - left) + k ≡ steps = omega (arith, all, most) in
      subst (λ n. TakesSteps n start new) count (steps_both (steps - left) k start old new before (steps_many k old new walk.walked))

  -- after one of some, and after some are forgotten, so many more are taken
  pub comes_nearer : (k keep : ℕ) (after : PlainSession) → IsWalk Step no_goal left old k why new → answer (Commit keep) new ≡ done after →
      (left - k ≤ steps) × TakesSteps (steps - (left - k)) start after
  comes_nearer k keep after walk kept =
      let count : ((steps - left) + k) + 0 ≡ steps - (left - k) = omega (arith, most, walk.within) in (
        omega (arith, most),
        subst (λ n. TakesSteps n start after) count
            (steps_both ((steps - left) + k) 0 start new after (steps_both (steps - left) k start old new before (steps_many k old new walk.walked)) (steps_commit keep new after kept)),
      )

-- after a walk, and after the older half of the steps are forgotten, fewer are left and kept together
pub less_is_left : (left len k : ℕ) (why : Option Refusal) (old new after : PlainSession) → IsWalk Step no_goal left old k why new → len ≡ length new.earlier → 0 < len →
    answer (Commit (len / 2)) new ≡ done after → (left - k) + length after.earlier < left + length old.earlier
less_is_left left len k why old new after walk count some kept =
    omega (arith, count_kept (len / 2) new after kept, count, some, step_count k old new walk.walked, walk.within)

-- ---- what the window shows of the output

pub goes_none : (forgotten released : ℕ) (p : PlainSession) → WindowGoes 0 forgotten released p forgotten released p
goes_none forgotten released p = λ input text n w. let none : n ≡ n + 0 = omega arith in (text, subst (λ k. IsWindow input k text forgotten released p) none w)

-- after a walk
goes_walked : (m forgot freed forgotten released k steps : ℕ) (start old new : PlainSession) → m + k ≡ steps → repeated Step k old ≡ Some new →
    WindowGoes m forgot freed start forgotten released old → WindowGoes steps forgot freed start forgotten released new
goes_walked m forgot freed forgotten released k steps start old new count walked goes = λ input text n w.
    let at = goes input text n w in
    let all : (n + m) + k ≡ n + steps = omega (arith, count) in
    (at.0, subst (λ j. IsWindow input j at.0 forgotten released new) all (forward k input at.0 (n + m) forgotten released old new at.1 walked))

-- after one of all steps that were left
pub goes_all : (steps left forgot freed forgotten released k : ℕ) (why : Option Refusal) (start old new : PlainSession) → left ≤ steps → IsWalk Step no_goal left old k why new → why ≡ None →
    WindowGoes (steps - left) forgot freed start forgotten released old → WindowGoes steps forgot freed start forgotten released new
goes_all steps left forgot freed forgotten released k why start old new most walk none goes =
    goes_walked (steps - left) forgot freed forgotten released k steps start old new (omega (arith, walked_all left old new k why walk none, most)) walk.walked goes

-- after one of some, and after some are forgotten
pub goes_kept : (steps left forgot freed forgotten released forgets frees k keep : ℕ) (why : Option Refusal) (start old new after : PlainSession) → left ≤ steps → IsWalk Step no_goal left old k why new →
    ((input text : List ℕ) (n : ℕ) → IsWindow input n text forgotten released new → IsWindow input n (text ++ (first_kept keep new).output) forgets frees after) →
    WindowGoes (steps - left) forgot freed start forgotten released old → WindowGoes (steps - (left - k)) forgot freed start forgets frees after
goes_kept steps left forgot freed forgotten released forgets frees k keep why start old new after most walk kept goes = λ input text n w.
    let count : (steps - left) + k ≡ steps - (left - k) = omega (arith, walk.within, most) in
    let further : WindowGoes (steps - (left - k)) forgot freed start forgotten released new =
    goes_walked (steps - left) forgot freed forgotten released k (steps - (left - k)) start old new count walk.walked goes in
    let at = further input text n w in
    (at.0 ++ (first_kept keep new).output, kept input at.0 (n + (steps - (left - k))) at.1)

-- ---- rows

-- texts, one put at the end of the other
pub joined : (rows a b c t n e p : List ℕ) → t ≡ rows → n ≡ t ++ a → e ≡ n ++ b → p ≡ e ++ c → p ≡ rows ++ (a ++ (b ++ c))
joined rows a b c t n e p of_rows of_a of_b of_c =
    of_c ∙ ap (λ x. x ++ c) (of_b ∙ ap (λ x. x ++ b) (of_a ∙ ap (λ x. x ++ a) of_rows)) ∙ append_assoc (rows ++ a) b c ∙ append_assoc rows a (b ++ c)
