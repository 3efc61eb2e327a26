-- The one loop of all walks, which may stop where the records weigh enough.
use Rattle.std.proofs.Common.{◌≡◌, ℕ, zero, suc, ◌+◌, ◌<◌, ◌≤◌, Bool, List, [], ◌∷◌, drop, true, false, refl, sym, ap, subst, ◌∙◌, arith, inl, ⊎_elim}
use Rattle.std.proofs.lemmas.Bool.{cases_lt, false≢true, lt-ltb}
use Rattle.std.specs.Prelude.{◌&&◌, Option, None, Some, nat_lt}
use Rattle.trac_rules.specs.declared.refusal.Refusal.{Refusal}
use Rattle.trac_rules.specs.declared.reply.Reply.TheVariants.{Done, Refused}
use Rattle.trac_rules.specs.State.{State}
use Rattle.trac_rules.specs.Session.{PlainSession, Command, Goal, Step, Answers, IsWalk, answer, done, no_goal, repeated}
use Rattle.trac_rules.specs.Weights.{weights_from}
use Rattle.trac_rules.proofs.Replies.{Step_done}
use Rattle.trac_session.specs.declared.walking.Direction.{Direction}
use Rattle.trac_session.specs.declared.walking.Direction.TheVariants.{Backward, Forward}
use Rattle.trac_session.specs.Directions.{IsForward, command_towards, weight_of}
use Rattle.trac_session.specs.Runs.{IsQuiet}
use Rattle.trac_session.specs.Within.{IsHeavy, IsLight, IsWalkUnder, IsWalkWithin}
use Rattle.trac_session.proofs.Walked.{GoesOn, Step_refused_same, goes_on_far, goes_on_first, goes_on_further, goes_on_more, met_walk, refused_same, stopped_walk, whole_walk}

-- ---- what records weigh

-- without the newest of them states weigh no more
lighter : (states : List State) → weights_from (drop 1 states) ≤ weights_from states
lighter [] = omega arith
lighter (s ∷ states) = omega arith

light_without_newest : (weight : Option ℕ) (states : List State) → IsLight weight states → IsLight weight (drop 1 states)
light_without_newest None states light = tt
light_without_newest (Some most) states light = omega (arith, light, lighter states)

-- after a step forward they weigh as much without the newest as before it
step_adds : (p q : PlainSession) → Answers Step p Done q → q.earlier ≡ p.last ∷ p.earlier
step_adds p q taken = ap (λ (s : PlainSession). s.earlier) (Step_done p q taken).2

light_before : (direction : Direction) (p q : PlainSession) → Answers (command_towards direction) p Done q → IsLight (weight_of direction) p.earlier →
    IsLight (weight_of direction) (drop 1 q.earlier)
light_before (Forward None) p q taken light = tt
light_before (Forward (Some most)) p q taken light = omega (arith, light, ap (λ (states : List State). weights_from (drop 1 states)) (step_adds p q taken))
light_before Backward p q taken light = tt

heavy_after : (direction : Direction) (p q : PlainSession) → Answers (command_towards direction) p Done q → IsHeavy (weight_of direction) p.earlier →
    IsHeavy (weight_of direction) q.earlier
heavy_after (Forward None) p q taken heavy = absurd heavy
heavy_after (Forward (Some most)) p q taken heavy = omega (arith, heavy, ap weights_from (step_adds p q taken))
heavy_after Backward p q taken heavy = absurd heavy

-- bytes that were passed add nothing
light_passed : (direction : Direction) (p q : PlainSession) → (IsForward direction → weights_from q.earlier ≡ weights_from p.earlier) → IsLight (weight_of direction) p.earlier →
    IsLight (weight_of direction) q.earlier
light_passed (Forward None) p q same light = tt
light_passed (Forward (Some most)) p q same light = omega (arith, light, same tt)
light_passed Backward p q same light = tt

heavy_passed : (direction : Direction) (p q : PlainSession) → (IsForward direction → weights_from q.earlier ≡ weights_from p.earlier) → IsHeavy (weight_of direction) p.earlier →
    IsHeavy (weight_of direction) q.earlier
heavy_passed (Forward None) p q same heavy = absurd heavy
heavy_passed (Forward (Some most)) p q same heavy = omega (arith, heavy, same tt)
heavy_passed Backward p q same heavy = absurd heavy

-- ---- bytes that were passed are a walk

-- where the goal is not met at a state that moves a byte, if they are several
pub passed_walk : (command : Command) (goal : Goal) (k : ℕ) (p q : PlainSession) → repeated command k p ≡ Some q →
    ((j : ℕ) → (r : PlainSession) → 0 < j → j < k → repeated command j p ≡ Some r → IsQuiet r.last) → (1 < k → (s : State) → IsQuiet s → goal s ≡ false) → IsWalk command goal k p k None q
passed_walk command goal k p q passed quiet unmet = record {
  within = omega arith;
  walked = passed;
  unmet = λ j r some few there. unmet (omega (arith, some, few)) r.last (quiet j r some few there);
  stopped = inl refl;
}

-- what a test says that looks for the goal after so many steps
pub met_after : (steps : ℕ) (met : Bool) → (nat_lt 0 steps && met) ≡ true → (0 < steps) × (met ≡ true)
met_after zero met is = absurd (false≢true is)
met_after (suc n) met is = (omega arith, ap (λ b. b && met) (sym (lt-ltb 0 (suc n) (omega arith))) ∙ is)

pub unmet_after : (steps : ℕ) (met : Bool) → (nat_lt 0 steps && met) ≡ false → 0 < steps → met ≡ false
unmet_after zero met is some = absurd (omega (arith, some))
unmet_after (suc n) met is some = ap (λ b. b && met) (sym (lt-ltb 0 (suc n) some)) ∙ is

-- a walk goes on after them, where the goal is not met
goes_on_passed : (command : Command) (goal : Goal) (old p q : PlainSession) (n k : ℕ) → GoesOn command goal old n p → IsWalk command goal k p k None q → (0 < k → goal q.last ≡ false) →
    GoesOn command goal old (n + k) q
goes_on_passed command goal old p q n zero on more unmet =
    let same : p ≡ q = let walked = more.walked in cc in
    let none : n ≡ n + 0 = omega arith in
    subst (λ m. GoesOn command goal old m q) none (subst (λ (r : PlainSession). GoesOn command goal old n r) same on)
goes_on_passed command goal old p q n (suc k) on more unmet = goes_on_further command goal old p q n (suc k) on more (unmet (omega arith))

-- ---- the loop

-- a walk is under way: of n steps it takes so many at most, which are fewer only if the records weigh enough
pub record IsUnderWay (direction : Direction) (goal : Goal) (n most : ℕ) (old : PlainSession) (steps : ℕ) (now : PlainSession) : Type 0 where
  pub on : GoesOn (command_towards direction) goal old steps now
  pub few : steps ≤ most
  pub within : most ≤ n
  pub light : 1 < most → IsLight (weight_of direction) now.earlier
  pub heavy : most < n → (0 < most) × IsHeavy (weight_of direction) now.earlier

pub way_begun : (direction : Direction) (goal : Goal) (n most : ℕ) (old : PlainSession) → most ≤ n → (1 < most → IsLight (weight_of direction) old.earlier) →
    (most < n → (0 < most) × IsHeavy (weight_of direction) old.earlier) → IsUnderWay direction goal n most old 0 old
way_begun direction goal n most old within light heavy = record {
  on = goes_on_first (command_towards direction) goal old;
  few = omega arith;
  within = within;
  light = light;
  heavy = heavy;
}

module _ {direction : Direction} {goal : Goal} {n most steps : ℕ} {old p : PlainSession} (way : IsUnderWay direction goal n most old steps p) where
  -- over bytes that were passed
  pub way_passed : (k : ℕ) (q : PlainSession) → IsWalk (command_towards direction) goal k p k None q → (0 < k → goal q.last ≡ false) → steps + k ≤ most →
      (IsForward direction → weights_from q.earlier ≡ weights_from p.earlier) → IsUnderWay direction goal n most old (steps + k) q
  way_passed k q more unmet few same = record {
    on = goes_on_passed (command_towards direction) goal old p q steps k way.on more unmet;
    few = few;
    within = way.within;
    light = λ several. light_passed direction p q same (way.light several);
    heavy = λ fewer. let h = way.heavy fewer in (h.0, heavy_passed direction p q same h.1);
  }

  -- over one step more
  pub way_further : (q : PlainSession) → Answers (command_towards direction) p Done q → IsWalk (command_towards direction) goal 1 p 1 None q → goal q.last ≡ false → steps < most →
      IsLight (weight_of direction) q.earlier → IsUnderWay direction goal n most old (steps + 1) q
  way_further q taken one unmet few light = record {
    on = goes_on_further (command_towards direction) goal old p q steps 1 way.on one unmet;
    few = omega (arith, few);
    within = way.within;
    light = λ several. light;
    heavy = λ fewer. let h = way.heavy fewer in (h.0, heavy_after direction p q taken h.1);
  }

  -- a refusal ends it
  pub way_refused : (q : PlainSession) (refusal : Refusal) → steps < most → Answers (command_towards direction) p (Refused refusal) q →
      IsWalkUnder (weight_of direction) (command_towards direction) goal n old steps (Some refusal) q
  way_refused q refusal few refused =
      let same : q ≡ p = refused_same direction p q refusal refused in
      let back : p.earlier ≡ q.earlier = ap (λ (s : PlainSession). s.earlier) (sym same) in
      record {
        allowed = most;
        within = way.within;
        walk = stopped_walk (command_towards direction) goal most steps old p q refusal way.on few same refused;
        heavy = λ fewer. let h = way.heavy fewer in (h.0, subst (IsHeavy (weight_of direction)) back h.1);
        light = λ some. light_without_newest (weight_of direction) q.earlier (subst (IsLight (weight_of direction)) back (way.light (omega (arith, few, some))));
        refused = λ some. subst (IsLight (weight_of direction)) back (way.light (omega (arith, few, some)));
      }

  -- all steps are taken
  pub way_ended : steps ≡ most → IsWalkUnder (weight_of direction) (command_towards direction) goal n old steps None p
  way_ended all = record {
    allowed = most;
    within = way.within;
    walk = subst (λ m. IsWalk (command_towards direction) goal m old steps None p) all (whole_walk (command_towards direction) goal steps old p way.on);
    heavy = way.heavy;
    light = λ some. light_without_newest (weight_of direction) p.earlier (way.light (omega (arith, all, some)));
    refused = tt;
  }

  -- the goal is met after bytes that were passed
  pub way_met_passing : (k : ℕ) (q : PlainSession) → IsWalk (command_towards direction) goal k p k None q → 0 < k → goal q.last ≡ true → steps + k ≤ most →
      (IsForward direction → weights_from q.earlier ≡ weights_from p.earlier) → IsWalkUnder (weight_of direction) (command_towards direction) goal n old (steps + k) None q
  way_met_passing k q more some met few same = record {
    allowed = most;
    within = way.within;
    walk = met_walk (command_towards direction) goal most steps k old p q way.on more some few met;
    heavy = λ fewer. let h = way.heavy fewer in (h.0, heavy_passed direction p q same h.1);
    light = λ several. light_without_newest (weight_of direction) q.earlier (light_passed direction p q same (way.light (omega (arith, few, several))));
    refused = tt;
  }

  -- or after one step
  pub way_met : (q : PlainSession) → Answers (command_towards direction) p Done q → IsWalk (command_towards direction) goal 1 p 1 None q → steps < most → goal q.last ≡ true →
      IsWalkUnder (weight_of direction) (command_towards direction) goal n old (steps + 1) None q
  way_met q taken one few met = record {
    allowed = most;
    within = way.within;
    walk = met_walk (command_towards direction) goal most steps 1 old p q way.on one (omega arith) (omega (arith, few)) met;
    heavy = λ fewer. let h = way.heavy fewer in (h.0, heavy_after direction p q taken h.1);
    light = λ several. light_before direction p q taken (way.light (omega (arith, few, several)));
    refused = tt;
  }

  -- the records weigh too much after it, and the goal is not met
  pub way_heavy : (q : PlainSession) → Answers (command_towards direction) p Done q → IsWalk (command_towards direction) goal 1 p 1 None q → steps < most → goal q.last ≡ false →
      IsHeavy (weight_of direction) q.earlier → IsWalkUnder (weight_of direction) (command_towards direction) goal n old (steps + 1) None q
  way_heavy q taken one few unmet heavy = record {
    allowed = steps + 1;
    within = omega (arith, few, way.within);
    walk = whole_walk (command_towards direction) goal (steps + 1) old q (goes_on_further (command_towards direction) goal old p q steps 1 way.on one unmet);
    heavy = λ fewer. (omega arith, heavy);
    light = λ several. light_before direction p q taken (way.light (omega (arith, few, several)));
    refused = tt;
  }

-- ---- what public walks say of it

-- without a weight it takes all its steps
pub unweighed : {command : Command} {goal : Goal} {n steps : ℕ} {why : Option Refusal} {old new : PlainSession} → IsWalkUnder None command goal n old steps why new → IsWalk command goal n old steps why new
unweighed {command} {goal} {n} {steps} {why} {old} {new} walk =
    let all : walk.allowed ≡ n = ⊎_elim (λ (fewer : walk.allowed < n). absurd (walk.heavy fewer).1) (λ (l : n ≤ walk.allowed). omega (arith, walk.within, l)) (cases_lt walk.allowed n) in
    subst (λ m. IsWalk command goal m old steps why new) all walk.walk

-- ---- the loop of a run

-- such a walk goes on: the records do not weigh too much
pub record GoesOnLight (most : ℕ) (goal : Goal) (old : PlainSession) (steps : ℕ) (now : PlainSession) : Type 0 where
  pub on : GoesOn Step goal old steps now
  pub light : 0 < steps → weights_from now.earlier ≤ most

-- over a step more, and then plain bytes
pub light_further : (most steps k : ℕ) (old p q r : PlainSession) → GoesOnLight most no_goal old steps p → answer Step p ≡ done q →
    weights_from q.earlier ≤ most → repeated Step k q ≡ Some r → weights_from r.earlier ≡ weights_from q.earlier →
    GoesOnLight most no_goal old (steps + 1 + k) r
light_further most steps k old p q r going taken light passed same = record {
  on = goes_on_far Step old q r (steps + 1) k (goes_on_more Step no_goal old p q steps going.on taken refl) passed;
  light = λ some. omega (arith, light, same);
}

-- a refusal ends it
pub within_refused : (most : ℕ) (goal : Goal) (n steps : ℕ) (old p q : PlainSession) (refusal : Refusal) → GoesOnLight most goal old steps p →
    steps < n → Answers Step p (Refused refusal) q → IsWalkWithin most goal n old steps (Some refusal) q
within_refused most goal n steps old p q refusal going l refused =
    let same : q ≡ p = Step_refused_same p q refusal refused in
    record {
      allowed = n;
      within = omega arith;
      walk = stopped_walk Step goal n steps old p q refusal going.on l same refused;
      heavy = λ fewer. absurd (omega (arith, fewer));
      light = λ some. omega (arith, lighter q.earlier, going.light (omega (arith, some)), ap (λ (s : PlainSession). weights_from s.earlier) same);
      refused = λ some. omega (arith, going.light some, ap (λ (s : PlainSession). weights_from s.earlier) same);
    }

-- the records weigh too much
pub within_heavy : (most n steps : ℕ) (old p q : PlainSession) → GoesOnLight most no_goal old steps p → steps < n → answer Step p ≡ done q →
    most < weights_from q.earlier → IsWalkWithin most no_goal n old (steps + 1) None q
within_heavy most n steps old p q going l taken heavy =
    let next : q.earlier ≡ p.last ∷ p.earlier = ap (λ (s : PlainSession). s.earlier) (Step_done p q taken).2 in
    record {
      allowed = steps + 1;
      within = omega (arith, l);
      walk = whole_walk Step no_goal (steps + 1) old q (goes_on_more Step no_goal old p q steps going.on taken refl);
      heavy = λ fewer. (omega arith, heavy);
      light = λ some. omega (arith, going.light (omega (arith, some)), ap (λ (states : List State). weights_from (drop 1 states)) next);
      refused = tt;
    }

-- all steps are taken
pub within_whole : (most : ℕ) (goal : Goal) (n steps : ℕ) (old q : PlainSession) → GoesOnLight most goal old steps q → steps ≡ n →
    IsWalkWithin most goal n old steps None q
within_whole most goal n steps old q going all = record {
  allowed = steps;
  within = omega (arith, all);
  walk = whole_walk Step goal steps old q going.on;
  heavy = λ fewer. absurd (omega (arith, fewer, all));
  light = λ some. omega (arith, lighter q.earlier, going.light (omega (arith, some)));
  refused = tt;
}
