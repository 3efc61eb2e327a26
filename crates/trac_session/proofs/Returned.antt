-- Searches back that meet nothing, and the way forward again.
use Rattle.std.proofs.Common.{◌≡◌, ℕ, zero, suc, ◌+◌, ◌-◌, ◌<◌, ◌≤◌, ◌&&◌, Bool, true, false, List, [], ◌∷◌, All, length, max, refl, sym, ap, subst, ◌∙◌, arith, ⊎_elim}
use Rattle.std.specs.Prelude.{Option, None, Some, nat_lt, option_and_then}
use Rattle.std.proofs.lemmas.Bool.{cases_lt, lt-ltb}
use Rattle.std.proofs.lemmas.List.Elements.{All-cons, All-nil}
use Rattle.std.proofs.lemmas.Option.{option_and_then_some}
use Rattle.trac_rules.specs.declared.refusal.Refusal.{Refusal}
use Rattle.trac_rules.specs.declared.refusal.Refusal.TheVariants.{Memory}
use Rattle.trac_rules.specs.declared.reply.Reply.TheVariants.{Refused}
use Rattle.trac_rules.specs.Session.{PlainSession, Command, Step, Back, Goal, Answers, IsWalk, accepted_by, answer, done, no_goal, repeated}
use Rattle.trac_rules.specs.State.{State}
use Rattle.trac_rules.specs.Trails.{IsTrail}
use Rattle.trac_rules.proofs.Replies.{Back_refused, accepted_done, answer_Back_from, done_of_refused}
use Rattle.trac_rules.proofs.TakenAgain.{Back_done, repeated_after_one, repeated_trail, steps_again}
use Rattle.trac_session.specs.Goals.{IsSearch, outcome}
use Rattle.trac_session.specs.Returns.{IsNeverMet, IsStopped}
use Rattle.trac_session.specs.Runs.{IsAsked}

-- ---- walks in two parts

-- so many accepted commands are some of them, and then the others
in_two : (command : Command) (m k : ℕ) (p q : PlainSession) → repeated command (m + k) p ≡ Some q →
    (r : PlainSession) × (repeated command m p ≡ Some r) × (repeated command k r ≡ Some q)
in_two command m zero p q h = let none : m + 0 ≡ m = omega arith in (q, ap (λ n. repeated command n p) (sym none) ∙ h, refl)
in_two command m (suc k) p q h =
    let next : m + suc k ≡ suc (m + k) = omega arith in
    option_and_then_some (λ (t : PlainSession). accepted_by (answer command t)) (repeated command (m + k) p) q (ap (λ n. repeated command n p) (sym next) ∙ h)
    (λ t there last.
    let parts = in_two command m k p t there in
    (parts.0, parts.1, ap (option_and_then (λ (u : PlainSession). accepted_by (answer command u))) parts.2 ∙ last))

-- where so many commands lead
one_end : (command : Command) (n : ℕ) (p q r : PlainSession) → repeated command n p ≡ Some q → repeated command n p ≡ Some r → q ≡ r
one_end command n p q r first second = let both : Some q ≡ Some r = sym first ∙ second in cc

-- each step back takes one state away
pub back_count : (k : ℕ) (p q : PlainSession) → repeated Back k p ≡ Some q → length q.earlier + k ≡ length p.earlier
back_count zero p q h = let same : p ≡ q = cc in omega (arith, ap (λ (s : PlainSession). length s.earlier) same)
back_count (suc k) p q h =
    option_and_then_some (λ (m : PlainSession). accepted_by (answer Back m)) (repeated Back k p) q h
    (λ m there next.
    let at = Back_done m q (accepted_done (answer Back m) q next) in
    omega (arith, back_count k p m there, ap length at.2, ap (λ (s : PlainSession). length s.earlier) at.3))

-- ---- a search that meets nothing

-- where no walk back of up to so many steps comes to a state that meets the goal, and there are no more states, none does
none_meets : (goal : Goal) (earlier : List State) (p : PlainSession) (steps : ℕ) → p.earlier ≡ earlier → length earlier ≤ steps →
    ((k : ℕ) → (q : PlainSession) → 0 < k → k ≤ steps → repeated Back k p ≡ Some q → goal q.last ≡ false) → All (λ s. goal s ≡ false) earlier
none_meets goal [] p steps is few unmet = All-nil (λ s. goal s ≡ false)
none_meets goal (s ∷ rest) p steps is few unmet =
    let back : PlainSession = record p { earlier = rest; last = s } in
    let one = answer_Back_from p s rest is in
    All-cons (λ t. goal t ≡ false) s rest
    (unmet 1 back (omega arith) (omega arith) (repeated_after_one Back 0 p back one))
    (none_meets goal rest back (steps - 1) refl (omega arith)
    (λ k q some l there. unmet (suc k) q (omega arith) (omega arith) (repeated_after_one Back k p back one ∙ there)))

-- no step back is refused but at the first state
pub refused_at_start : (refusal : Refusal) (p q : PlainSession) → Answers Back p (Refused refusal) q → p.earlier ≡ []
refused_at_start Memory p q h = absurd h.0
refused_at_start other p q h = (Back_refused p q other h).2

-- a walk back that ended without meeting the goal has tried all states
record HasTriedAll (goal : Goal) (old : PlainSession) (steps : ℕ) (new : PlainSession) : Type 0 where
  many : length old.earlier ≤ steps
  last : 0 < steps → goal new.last ≡ false

tried_all : (goal : Goal) (old : PlainSession) (steps : ℕ) (ended : Option Refusal) (new : PlainSession) → IsWalk Back goal (max 1 (length old.earlier)) old steps ended new →
    (outcome (nat_lt 0 steps && goal new.last) ended ≡ None → ⊥) → HasTriedAll goal old steps new
tried_all goal old steps (Some refusal) new walk unmet =
    let start = refused_at_start refusal new new walk.stopped.2 in
    record { many = omega (arith, back_count steps old new walk.walked, ap length start); last = walk.stopped.1 }
tried_all goal old steps None new walk unmet = ⊎_elim
    (λ (all : steps ≡ max 1 (length old.earlier)). record { many = omega (arith, all); last = λ some. by_goal (goal new.last) refl (λ met. absurd (is_met some met)) })
    (λ (met : (0 < steps) × (goal new.last ≡ true)). absurd (is_met met.0 met.1))
    walk.stopped
  where
    is_met : 0 < steps → goal new.last ≡ true → ⊥
    is_met some met = unmet (λ i. outcome (lt-ltb 0 steps some i && met i) None)

    by_goal : (b : Bool) → goal new.last ≡ b → (goal new.last ≡ true → goal new.last ≡ false) → goal new.last ≡ false
    by_goal true is other = other is
    by_goal false is other = is

-- so no state meets the goal, and so many steps lead there
pub record HasMetNothing (goal : Goal) (old : PlainSession) (steps : ℕ) (new : PlainSession) : Type 0 where
  pub never : IsNeverMet goal old
  pub back : repeated Back steps old ≡ Some new

pub met_nothing : (goal : Goal) (old : PlainSession) (steps : ℕ) (why : Option Refusal) (new : PlainSession) → IsSearch Back goal (max 1 (length old.earlier)) old steps why new →
    (why ≡ None → ⊥) → HasMetNothing goal old steps new
met_nothing goal old steps why new search unmet =
    let walk = search.1 in
    let tried = tried_all goal old steps search.0 new walk (λ none. unmet (search.2 ∙ none)) in
    record {
      never = none_meets goal old.earlier old steps refl tried.many
          (λ k q some l there. ⊎_elim
          (λ (fewer : k < steps). walk.unmet k q some fewer there)
          (λ (all : steps ≤ k).
          let whole : k ≡ steps = omega arith in
          ap (λ (p : PlainSession). goal p.last) (one_end Back steps old q new (ap (λ n. repeated Back n old) (sym whole) ∙ there) walk.walked) ∙ tried.last (omega arith))
          (cases_lt k steps));
      back = walk.walked;
    }

-- ---- the way forward again

-- all steps taken again lead to where the search began
pub again_all : (goal : Goal) (old middle new : PlainSession) (steps again : ℕ) → HasMetNothing goal old steps middle → IsWalk Step no_goal steps middle again None new → IsTrail old → new ≡ old
again_all goal old middle new steps again nothing walk trail =
    let whole : again ≡ steps = ⊎_elim (λ (all : again ≡ steps). all) (λ (met : (0 < again) × (false ≡ true)). absurd (let unset = met.1 in cc)) walk.stopped in
    one_end Step steps middle new old (ap (λ n. repeated Step n middle) (sym whole) ∙ walk.walked) (steps_again steps old middle trail nothing.back)

-- a step that can be taken is refused for memory alone
only_for_memory : (refusal : Refusal) (p q : PlainSession) → answer Step p ≡ done q → Answers Step p (Refused refusal) p → refusal ≡ Memory
only_for_memory Memory p q taken h = refl
only_for_memory other p q taken h = absurd (done_of_refused other p q (sym h ∙ taken))

-- a refusal on the way leaves the session so many steps before that
pub again_some : (goal : Goal) (old middle new : PlainSession) (steps again : ℕ) (refusal : Refusal) → HasMetNothing goal old steps middle →
    IsWalk Step no_goal steps middle again (Some refusal) new → IsAsked (Some refusal) new.last → IsTrail old → IsStopped (steps - again) refusal old new
again_some goal old middle new steps again refusal nothing walk asked trail =
    let few : again < steps = walk.stopped.0 in
    let left : ℕ = steps - again in
    let both : left + again ≡ steps = omega arith in
    let parts = in_two Back left again old middle (ap (λ n. repeated Back n old) both ∙ nothing.back) in
    let here = one_end Step again middle new parts.0 walk.walked (steps_again again parts.0 middle (repeated_trail Back left old parts.0 trail parts.1) parts.2) in
    let back : repeated Back left old ≡ Some new = parts.1 ∙ ap (λ (p : PlainSession). Some p) (sym here) in
    let forward = steps_again left old new trail back in
    let first : 1 + (left - 1) ≡ left = omega arith in
    let one = in_two Step 1 (left - 1) new old (ap (λ n. repeated Step n new) first ∙ forward) in
    let memory : refusal ≡ Memory = only_for_memory refusal new one.0 (accepted_done (answer Step new) one.0 one.1) walk.stopped.2 in
    record {
      memory = memory;
      some = omega (arith, few);
      back = back;
      asked = subst (λ (why : Refusal). IsAsked (Some why) new.last) memory asked;
    }

-- where the way forward again was refused for this, or for nothing, the session is so
abbrev IsAgain : Option Refusal → ℕ → PlainSession → PlainSession → Type 0
IsAgain None left old new = new ≡ old
IsAgain (Some why) left old new = IsStopped left why old new

pub returned : (why ended : Option Refusal) (goal : Goal) (old middle new : PlainSession) (steps again : ℕ) → IsSearch Back goal (max 1 (length old.earlier)) old steps ended middle → (ended ≡ None → ⊥) →
    IsWalk Step no_goal steps middle again why new → IsAsked why new.last → IsTrail old → IsNeverMet goal old × IsAgain why (steps - again) old new
returned None ended goal old middle new steps again search unmet walk asked trail =
    let nothing = met_nothing goal old steps ended middle search unmet in
    (nothing.never, again_all goal old middle new steps again nothing walk trail)
returned (Some why) ended goal old middle new steps again search unmet walk asked trail =
    let nothing = met_nothing goal old steps ended middle search unmet in
    (nothing.never, again_some goal old middle new steps again why nothing walk asked trail)
