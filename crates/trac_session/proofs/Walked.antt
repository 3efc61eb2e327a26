-- Walks, step by step.
use Rattle.std.proofs.Common.{◌≡◌, ℕ, zero, suc, ◌+◌, ◌-◌, ◌<◌, ◌≤◌, ◌&&◌, true, false, length, refl, sym, ap, subst, ◌∙◌, arith, inl, inr, ⊎_elim}
use Rattle.std.proofs.lemmas.Bool.{cases_lt}
use Rattle.std.specs.Prelude.{Option, None, Some, nat_lt, option_and_then}
use Rattle.trac_rules.specs.declared.refusal.Refusal.{Refusal}
use Rattle.trac_rules.specs.declared.refusal.Refusal.TheVariants.{Memory, AtStart}
use Rattle.trac_rules.specs.declared.reply.Reply.{Reply}
use Rattle.trac_rules.specs.declared.reply.Reply.TheVariants.{Done, Refused}
use Rattle.trac_rules.specs.Session.{PlainSession, Command, Step, Back, Goal, done, refused, answer, accepted_by, Answers, MayRunOut, no_goal, repeated, IsWalk}
use Rattle.trac_rules.proofs.Replies.{Step_refused, Back_refused, answer_Step_full}
use Rattle.trac_rules.specs.PlainRuns.{BeginsPlain}
use Rattle.trac_session.specs.declared.walking.Direction.{Direction}
use Rattle.trac_session.specs.declared.walking.Direction.TheVariants as towards
use Rattle.trac_session.specs.Directions.{IsForward, command_towards}
use Rattle.trac_session.specs.Goals.{IsSearch, outcome}
use Rattle.trac_session.specs.Runs.{HasNoPlain, IsAsked}

-- ---- one step

-- one accepted command more
pub repeated-more : (command : Command) (n : ℕ) (p q t : PlainSession) → repeated command n p ≡ Some q → answer command q ≡ done t → repeated command (n + 1) p ≡ Some t
repeated-more command n p q t walked h =
    let next : n + 1 ≡ suc n = omega arith in
    ap (λ k. repeated command k p) next
    ∙ ap (option_and_then (λ u. accepted_by (answer command u))) walked
    ∙ ap accepted_by h

-- so many commands, and then so many more
pub repeated-from : (command : Command) (m k : ℕ) (p q : PlainSession) → repeated command m p ≡ Some q → repeated command (m + k) p ≡ repeated command k q
repeated-from command m zero p q walked = let none : m + 0 ≡ m = omega arith in ap (λ j. repeated command j p) none ∙ walked
repeated-from command m (suc k) p q walked =
    let next : m + suc k ≡ suc (m + k) = omega arith in
    ap (λ j. repeated command j p) next
    ∙ ap (option_and_then (λ u. accepted_by (answer command u))) (repeated-from command m k p q walked)

-- a refused step leaves the session as it was
pub Step_refused_same : (p q : PlainSession) (refusal : Refusal) → Answers Step p (Refused refusal) q → q ≡ p
Step_refused_same p q Memory h = h.1
Step_refused_same p q refusal h = (Step_refused p q refusal h).0

-- so does a refused step back
pub Back_refused_same : (p q : PlainSession) (refusal : Refusal) → Answers Back p (Refused refusal) q → q ≡ p
Back_refused_same p q Memory h = h.1
Back_refused_same p q refusal h = (Back_refused p q refusal h).0

-- whichever way it went
pub refused_same : (direction : Direction) (p q : PlainSession) (refusal : Refusal) → Answers (command_towards direction) p (Refused refusal) q → q ≡ p
refused_same (towards.Forward weight) p q refusal h = Step_refused_same p q refusal h
refused_same towards.Backward p q refusal h = Back_refused_same p q refusal h

-- where memory is refused for a step, there is a place for its record
place_of_memory : (p q : PlainSession) → Answers Step p (Refused Memory) q → length p.earlier < p.limit
place_of_memory p q h = ⊎_elim
    (λ (l : length p.earlier < p.limit). l)
    (λ (full : p.limit ≤ length p.earlier). absurd (subst (λ a. MayRunOut Step a.reply) (answer_Step_full p full) h.0))
    (cases_lt (length p.earlier) p.limit)

-- so it moves no plain byte, where these are passed before
pub asked_for : (direction : Direction) (p q : PlainSession) (refusal : Refusal) → q ≡ p → Answers (command_towards direction) p (Refused refusal) q → (IsForward direction → HasNoPlain p) →
    IsAsked (Some refusal) q.last
asked_for (towards.Forward weight) p q Memory same h none = subst (λ (r : PlainSession). BeginsPlain 1 r.last → ⊥) (sym same) (none tt (place_of_memory p q h))
asked_for towards.Backward p q Memory same h none = absurd h.0
asked_for direction p q other same h none = tt

-- a step back is answered as the plain session says, since memory is no answer of it
Back_refused_as : (p q : PlainSession) (refusal : Refusal) → answer Back p ≡ refused refusal q → Answers Back p (Refused refusal) q
Back_refused_as p q Memory h = let at : Memory ≡ AtStart = (Back_refused p q Memory h).1 in absurd (cc)
Back_refused_as p q other h = h

-- whatever it answers
pub Back_answered : (p q : PlainSession) (reply : Reply) → answer Back p ≡ record { reply = reply; session = q } → Answers Back p reply q
Back_answered p q Done h = h
Back_answered p q (Refused refusal) h = Back_refused_as p q refusal h

-- ---- walks

-- a walk goes on: so many steps were accepted, and the goal was not met after any of them
pub record GoesOn (command : Command) (goal : Goal) (old : PlainSession) (steps : ℕ) (now : PlainSession) : Type 0 where
  pub walked : repeated command steps old ≡ Some now
  pub unmet : (k : ℕ) → (p : PlainSession) → 0 < k → k ≤ steps → repeated command k old ≡ Some p → goal p.last ≡ false

-- before its first step
pub goes_on_first : (command : Command) (goal : Goal) (old : PlainSession) → GoesOn command goal old 0 old
goes_on_first command goal old = record { walked = refl; unmet = λ k p some few there. absurd (omega arith) }

-- so many commands lead to one session
same_after : (command : Command) (k n : ℕ) (old p q : PlainSession) → k ≡ n → repeated command k old ≡ Some p → repeated command n old ≡ Some q → p ≡ q
same_after command k n old p q e walked there =
    let both : Some p ≡ Some q = sym walked ∙ ap (λ m. repeated command m old) e ∙ there in cc

-- after one accepted step more
pub goes_on_more : (command : Command) (goal : Goal) (old p q : PlainSession) (n : ℕ) → GoesOn command goal old n p → answer command p ≡ done q → goal q.last ≡ false → GoesOn command goal old (n + 1) q
goes_on_more command goal old p q n on h not_met =
    let more = repeated-more command n old p q on.walked h in
    record {
      walked = more;
      unmet = λ k r some few there. ⊎_elim
          (λ (l : k < n + 1). on.unmet k r some (omega arith) there)
          (λ (l : n + 1 ≤ k). ap (λ (s : PlainSession). goal s.last) (same_after command k (n + 1) old r q (omega arith) there more) ∙ not_met)
          (cases_lt k (n + 1));
    }

-- after so many accepted steps more, without a goal
pub goes_on_far : (command : Command) (old p q : PlainSession) (n k : ℕ) → GoesOn command no_goal old n p → repeated command k p ≡ Some q → GoesOn command no_goal old (n + k) q
goes_on_far command old p q n k on more = record {
  walked = repeated-from command n k old p on.walked ∙ more;
  unmet = λ j r some few there. refl;
}

-- a refusal ends it
pub stopped_walk : (command : Command) (goal : Goal) (n k : ℕ) (old p q : PlainSession) (refusal : Refusal) → GoesOn command goal old k p → k < n → q ≡ p →
    Answers command p (Refused refusal) q → IsWalk command goal n old k (Some refusal) q
stopped_walk command goal n k old p q refusal on l same h = record {
  within = omega arith;
  walked = on.walked ∙ ap (λ t. Some t) (sym same);
  unmet = λ j r some fewer there. on.unmet j r some (omega arith) there;
  stopped = (
    l,
    λ some. ap (λ (s : PlainSession). goal s.last) same ∙ on.unmet k p some (omega arith) on.walked,
    subst (λ t. Answers command t (Refused refusal) q) (sym same) h,
  );
}

-- before the last of so many accepted steps more, which are a walk too, the goal is not met
unmet_further : (command : Command) (goal : Goal) (old p q : PlainSession) (n k : ℕ) → GoesOn command goal old n p → IsWalk command goal k p k None q →
    (j : ℕ) → (r : PlainSession) → 0 < j → j < n + k → repeated command j old ≡ Some r → goal r.last ≡ false
unmet_further command goal old p q n k on more j r some few there = ⊎_elim
    (λ (before : j < n + 1). on.unmet j r some (omega arith) there)
    (λ (l : n + 1 ≤ j).
    let both : n + (j - n) ≡ j = omega arith in
    more.unmet (j - n) r (omega arith) (omega arith) (sym (repeated-from command n (j - n) old p on.walked) ∙ ap (λ m. repeated command m old) both ∙ there))
    (cases_lt j (n + 1))

-- a walk goes on after them where it is not met then either
pub goes_on_further : (command : Command) (goal : Goal) (old p q : PlainSession) (n k : ℕ) → GoesOn command goal old n p → IsWalk command goal k p k None q → goal q.last ≡ false →
    GoesOn command goal old (n + k) q
goes_on_further command goal old p q n k on more not_met =
    let walked : repeated command (n + k) old ≡ Some q = repeated-from command n k old p on.walked ∙ more.walked in
    record {
      walked = walked;
      unmet = λ j r some few there. ⊎_elim
          (λ (l : j < n + k). unmet_further command goal old p q n k on more j r some l there)
          (λ (l : n + k ≤ j). ap (λ (s : PlainSession). goal s.last) (same_after command j (n + k) old r q (omega arith) there walked) ∙ not_met)
          (cases_lt j (n + k));
    }

-- one accepted step is a walk, whatever its goal
pub one_walk : (command : Command) (goal : Goal) (p q : PlainSession) → answer command p ≡ done q → IsWalk command goal 1 p 1 None q
one_walk command goal p q h = record {
  within = omega arith;
  walked = repeated-more command 0 p p q refl h;
  unmet = λ k r some few there. absurd (omega (arith, some, few));
  stopped = inl refl;
}

-- the goal is met
pub met_walk : (command : Command) (goal : Goal) (n m k : ℕ) (old p q : PlainSession) → GoesOn command goal old m p → IsWalk command goal k p k None q → 0 < k → m + k ≤ n →
    goal q.last ≡ true → IsWalk command goal n old (m + k) None q
met_walk command goal n m k old p q on more some few met = record {
  within = few;
  walked = repeated-from command m k old p on.walked ∙ more.walked;
  unmet = unmet_further command goal old p q m k on more;
  stopped = inr (omega (arith, some), met);
}

-- all steps are taken
pub whole_walk : (command : Command) (goal : Goal) (n : ℕ) (old new : PlainSession) → GoesOn command goal old n new → IsWalk command goal n old n None new
whole_walk command goal n old new on = record {
  within = omega arith;
  walked = on.walked;
  unmet = λ j r some fewer there. on.unmet j r some (omega arith) there;
  stopped = inl refl;
}

-- ---- searches

-- the walk of a search, with what the search says of it
pub searched_walk : (command : Command) (goal : Goal) (n : ℕ) (old new : PlainSession) (done steps : ℕ) (ended why : Option Refusal) → IsWalk command goal n old done ended new →
    steps ≡ done → why ≡ outcome (nat_lt 0 done && goal new.last) ended → IsSearch command goal n old steps why new
searched_walk command goal n old new done steps ended why walk same is = (
  ended,
  subst (λ k. IsWalk command goal n old k ended new) (sym same) walk,
  is ∙ ap (λ k. outcome (nat_lt 0 k && goal new.last) ended) (sym same),
)
