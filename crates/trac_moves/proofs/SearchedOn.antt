-- Searches that go on where others ended that met nothing.
use Rattle.std.proofs.Common.{◌≡◌, ℕ, zero, suc, ◌+◌, ◌-◌, ◌<◌, ◌≤◌, ◌&&◌, Bool, true, false, List, ◌∷◌, drop, refl, sym, ap, subst, ◌∙◌, arith, inl, inr, ⊎_elim}
use Rattle.std.proofs.lemmas.Bool.{cases_Bool, cases_lt, le-ltb, lt-ltb}
use Rattle.std.specs.Prelude.{MatchOption, Option, None, Some, nat_lt}
use Rattle.trac_rules.specs.declared.refusal.Refusal.{Refusal}
use Rattle.trac_rules.specs.declared.refusal.Refusal.TheVariants.{JournalFull, TooLong, NeedInput, Ended, NotMet}
use Rattle.trac_rules.specs.declared.reply.Reply.TheVariants.{Refused}
use Rattle.trac_rules.specs.State.{State}
use Rattle.trac_rules.specs.Session.{PlainSession, Goal, Step, Answers, HasEnded, IsWalk, answer, refused, repeated}
use Rattle.trac_rules.specs.Weights.{weights_from}
use Rattle.trac_rules.proofs.Replies.{Step_done, Step_refusals, accepted_done}
use Rattle.trac_session.specs.Goals.{outcome}
use Rattle.trac_session.specs.Within.{IsSearchWithin, IsWalkWithin}
use Rattle.trac_moves.specs.Searches.{is_unmet}
use Rattle.trac_session.proofs.Walked.{GoesOn, repeated-from, whole_walk}

-- ---- a search that met nothing

-- none of so many steps met the goal, and the records weighed enough only after the last of them, if these were fewer
-- than were allowed
pub record IsUnmet (weight : ℕ) (goal : Goal) (n : ℕ) (old : PlainSession) (steps : ℕ) (now : PlainSession) : Type 0 where
  pub within : steps ≤ n
  pub on : GoesOn Step goal old steps now
  pub light : 1 < steps → weights_from (drop 1 now.earlier) ≤ weight
  pub heavy : steps < n → (0 < steps) × (weight < weights_from now.earlier)

-- no step is refused so
refused_otherwise : (p q : PlainSession) → answer Step p ≡ refused NotMet q → ⊥
refused_otherwise p q h = ⊎_elim
    (λ (full : NotMet ≡ JournalFull). cc)
    (⊎_elim (λ (long : NotMet ≡ TooLong). cc) (⊎_elim (λ (more : (NotMet ≡ NeedInput) × (p.tape.ended ≡ false)). let is = more.0 in cc) (λ (ended : NotMet ≡ Ended). cc)))
    (Step_refusals p q NotMet h)

-- of a test whether a goal is met: it was not
unmet_test : (b : Bool) (m : ℕ) → 0 < m → Some NotMet ≡ outcome (nat_lt 0 m && b) None → b ≡ false
unmet_test false m some is = refl
unmet_test true m some is =
    let no : Some NotMet ≡ None = is ∙ ap (λ c. outcome (c && true) None) (lt-ltb 0 m some) in
    absurd (cc)

unmet_by : (weight : ℕ) (goal : Goal) (n m : ℕ) (old now : PlainSession) (ended : Option Refusal) → IsWalkWithin weight goal n old m ended now →
    Some NotMet ≡ outcome (nat_lt 0 m && goal now.last) ended → IsUnmet weight goal n old m now
unmet_by weight goal n m old now None walk is =
    let unmet : 0 < m → goal now.last ≡ false = λ some. unmet_test (goal now.last) m some is in
    let all : m ≡ walk.allowed = ⊎_elim
    (λ (e : m ≡ walk.allowed). e)
    (λ (met : (0 < m) × (goal now.last ≡ true)). let no : true ≡ false = sym met.1 ∙ unmet met.0 in absurd (cc))
    walk.walk.stopped in
    record {
      within = omega (arith, walk.within, all);
      on = record {
        walked = walk.walk.walked;
        unmet = λ k p some few there. ⊎_elim
            (λ (l : k < m). walk.walk.unmet k p some l there)
            (λ (l : m ≤ k).
            let last : k ≡ m = omega (arith, l, few) in
            let both : Some p ≡ Some now = sym there ∙ ap (λ j. repeated Step j old) last ∙ walk.walk.walked in
            let same : p ≡ now = cc in
            ap (λ (s : PlainSession). goal s.last) same ∙ unmet (omega (arith, some, few)))
            (cases_lt k m);
      };
      light = walk.light;
      heavy = λ fewer. let more = walk.heavy (omega (arith, fewer, all)) in (omega (arith, more.0, all), more.1);
    }
unmet_by weight goal n m old now (Some refusal) walk is =
    let so : refusal ≡ NotMet = cc in
    absurd (refused_otherwise now now (subst (λ r. Answers Step now (Refused r) now) so walk.walk.stopped.2))

-- as the code tests it
pub unmet_why : (why : Option Refusal) → is_unmet why ≡ true → why ≡ Some NotMet
unmet_why None is = absurd (cc)
unmet_why (Some NotMet) is = refl
unmet_why (Some other) is = absurd (cc)

pub other_why : (why : Option Refusal) → is_unmet why ≡ false → why ≡ Some NotMet → ⊥
other_why why is met = let no : true ≡ false = sym (ap is_unmet met) ∙ is in cc

-- however their number is said
pub unmet : {weight k n m : ℕ} {goal : Goal} {old now : PlainSession} {why : Option Refusal} → k ≡ n → why ≡ Some NotMet → IsSearchWithin weight goal k old m why now → IsUnmet weight goal n old m now
unmet {weight} {k} {n} {m} {goal} {old} {now} {why} all is search =
    let not_met : IsSearchWithin weight goal k old m (Some NotMet) now = subst (λ r. IsSearchWithin weight goal k old m r now) is search in
    subst (λ j. IsUnmet weight goal j old m now) all (unmet_by weight goal k m old now not_met.0 not_met.1 not_met.2)

-- ---- on from there, while the records weigh no more than this

module _ (weight : ℕ) (goal : Goal) (m : ℕ) (old mid : PlainSession) (on : GoesOn Step goal old m mid) (light : 1 < m → weights_from (drop 1 mid.earlier) ≤ weight) where
  -- the goal was not met by the last of the steps
  mid_test : (nat_lt 0 m && goal mid.last) ≡ false
  mid_test = ⊎_elim
      (λ (some : 0 < m). ap (λ b. b && goal mid.last) (lt-ltb 0 m some) ∙ on.unmet m mid some (omega arith) on.walked)
      (λ (none : m ≤ 0). ap (λ b. b && goal mid.last) (le-ltb 0 m none))
      (cases_lt 0 m)

  -- it may end there: all steps are taken, or the records weigh enough
  pub stopped_there : (n : ℕ) → m ≤ n → (m < n → (0 < m) × (weight < weights_from mid.earlier)) → IsSearchWithin weight goal n old m (Some NotMet) mid
  stopped_there n few heavy = (
    None,
    record {
      allowed = m;
      within = few;
      walk = whole_walk Step goal m old mid on;
      heavy = heavy;
      light = light;
      refused = tt;
    },
    sym (ap (λ b. outcome b None) mid_test),
  )

  -- no step further is no way
  stays : (new : PlainSession) → repeated Step 0 mid ≡ Some new → new ≡ mid
  stays new walked = let both : Some mid ≡ Some new = walked in cc

  unmet_on : (k : ℕ) → ((i : ℕ) → (p : PlainSession) → 0 < i → i < k → repeated Step i mid ≡ Some p → goal p.last ≡ false) →
      (j : ℕ) → (p : PlainSession) → 0 < j → j < m + k → repeated Step j old ≡ Some p → goal p.last ≡ false
  unmet_on k later j p some few there = ⊎_elim
      (λ (before : j < m + 1). on.unmet j p some (omega arith) there)
      (λ (l : m + 1 ≤ j).
      let both : m + (j - m) ≡ j = omega arith in
      later (j - m) p (omega arith) (omega arith) (sym (repeated-from Step m (j - m) old mid on.walked) ∙ ap (λ i. repeated Step i old) both ∙ there))
      (cases_lt j (m + 1))

  last_on : (k : ℕ) (new : PlainSession) → repeated Step k mid ≡ Some new → (0 < k → goal new.last ≡ false) → 0 < m + k → goal new.last ≡ false
  last_on zero new walked later some = ap (λ (s : PlainSession). goal s.last) (stays new walked) ∙ on.unmet m mid (omega (arith, some)) (omega arith) on.walked
  last_on (suc k) new walked later some = later (omega arith)

  stopped_on : (n k : ℕ) (new : PlainSession) (ended : Option Refusal) → IsWalk Step goal n mid k ended new →
      MatchOption ended (HasEnded goal (m + n) (m + k) new) (λ refusal. (m + k < m + n) × (0 < m + k → goal new.last ≡ false) × Answers Step new (Refused refusal) new)
  stopped_on n k new None walk = ⊎_elim
      (λ (all : k ≡ n). inl (omega (arith, all)))
      (λ (met : (0 < k) × (goal new.last ≡ true)). inr (omega (arith, met.0), met.1))
      walk.stopped
  stopped_on n k new (Some refusal) walk = (omega (arith, walk.stopped.0), last_on k new walk.walked walk.stopped.1, walk.stopped.2)

  light_on : (k : ℕ) (new : PlainSession) → repeated Step k mid ≡ Some new → weights_from mid.earlier ≤ weight → (1 < k → weights_from (drop 1 new.earlier) ≤ weight) →
      1 < m + k → weights_from (drop 1 new.earlier) ≤ weight
  light_on zero new walked room later some =
      omega (arith, light (omega (arith, some)), ap (λ (s : PlainSession). weights_from (drop 1 s.earlier)) (stays new walked))
  light_on (suc zero) new walked room later some =
      let next : new.earlier ≡ mid.last ∷ mid.earlier = ap (λ (s : PlainSession). s.earlier) (Step_done mid new (accepted_done (answer Step mid) new walked)).2 in
      omega (arith, room, ap (λ (states : List State). weights_from (drop 1 states)) next)
  light_on (suc (suc k)) new walked room later some = later (omega arith)

  refused_on : (k : ℕ) (new : PlainSession) (ended : Option Refusal) → repeated Step k mid ≡ Some new → weights_from mid.earlier ≤ weight →
      MatchOption ended (Unit {0}) (λ refusal. 0 < k → weights_from new.earlier ≤ weight) → MatchOption ended (Unit {0}) (λ refusal. 0 < m + k → weights_from new.earlier ≤ weight)
  refused_on k new None walked room later = tt
  refused_on zero new (Some refusal) walked room later = λ some. omega (arith, room, ap (λ (s : PlainSession). weights_from s.earlier) (stays new walked))
  refused_on (suc k) new (Some refusal) walked room later = λ some. later (omega arith)

  test_on : (k : ℕ) (new : PlainSession) → repeated Step k mid ≡ Some new → (nat_lt 0 k && goal new.last) ≡ (nat_lt 0 (m + k) && goal new.last)
  test_on zero new walked =
      let none : m ≡ m + 0 = omega arith in
      sym mid_test ∙ ap (λ (s : PlainSession). nat_lt 0 m && goal s.last) (sym (stays new walked)) ∙ ap (λ j. nat_lt 0 j && goal new.last) none
  test_on (suc k) new walked = ap (λ b. b && goal new.last) (lt-ltb 0 (suc k) (omega arith) ∙ sym (lt-ltb 0 (m + suc k) (omega arith)))

  walk_on : (n k : ℕ) (new : PlainSession) (ended : Option Refusal) → weights_from mid.earlier ≤ weight → IsWalkWithin weight goal n mid k ended new →
      IsWalkWithin weight goal (m + n) old (m + k) ended new
  walk_on n k new ended room walk = record {
    allowed = m + walk.allowed;
    within = omega (arith, walk.within);
    walk = record {
      within = omega (arith, walk.walk.within);
      walked = repeated-from Step m k old mid on.walked ∙ walk.walk.walked;
      unmet = unmet_on k walk.walk.unmet;
      stopped = stopped_on walk.allowed k new ended walk.walk;
    };
    heavy = λ fewer. let more = walk.heavy (omega (arith, fewer)) in (omega (arith, more.0), more.1);
    light = light_on k new walk.walk.walked room walk.light;
    refused = refused_on k new ended walk.walk.walked room walk.refused;
  }

  search_on : (n k : ℕ) (new : PlainSession) (why : Option Refusal) → weights_from mid.earlier ≤ weight → IsSearchWithin weight goal n mid k why new →
      IsSearchWithin weight goal (m + n) old (m + k) why new
  search_on n k new why room search =
      (search.0, walk_on n k new search.0 room search.1, search.2 ∙ ap (λ b. outcome b search.0) (test_on k new search.1.walk.walked))

  -- where the records weighed enough at first, one step at least was taken since
  some_taken : weights_from old.earlier ≤ weight → weight < weights_from mid.earlier → 0 < m
  some_taken begun heavy = ⊎_elim
      (λ (some : 0 < m). some)
      (λ (none : m ≤ 0).
      let no : m ≡ 0 = omega (arith, none) in
      let both : Some old ≡ Some mid = sym (ap (λ j. repeated Step j old) no) ∙ on.walked in
      let same : old ≡ mid = cc in
      absurd (omega (arith, begun, heavy, ap (λ (s : PlainSession). weights_from s.earlier) same)))
      (cases_lt 0 m)

  -- a search from there that is not begun where the records weigh too much
  pub gone_on : (n k : ℕ) (new : PlainSession) (why : Option Refusal) → weights_from old.earlier ≤ weight →
      (weights_from mid.earlier ≤ weight → IsSearchWithin weight goal n mid k why new) →
      (weight < weights_from mid.earlier → (k ≡ 0) × (why ≡ Some NotMet) × (new ≡ mid)) → IsSearchWithin weight goal (m + n) old (m + k) why new
  gone_on n k new why begun going stopped = ⊎_elim
      (λ (heavy : weight < weights_from mid.earlier).
      let none = stopped heavy in
      let all : m ≡ m + k = omega (arith, none.0) in
      subst (λ j. IsSearchWithin weight goal (m + n) old j why new) all
      (subst (λ w. IsSearchWithin weight goal (m + n) old m w new) (sym none.1)
      (subst (λ (p : PlainSession). IsSearchWithin weight goal (m + n) old m (Some NotMet) p) (sym none.2)
      (stopped_there (m + n) (omega arith) (λ fewer. (some_taken begun heavy, heavy))))))
      (λ (room : weights_from mid.earlier ≤ weight). search_on n k new why room (going room))
      (cases_lt weight (weights_from mid.earlier))

-- ---- the same search, where the records may weigh more

-- it ends as before where it met its goal, was refused or took all the steps that are allowed now
ended_wider : (goal : Goal) (n wider steps : ℕ) (new : PlainSession) (ended why : Option Refusal) → n ≤ wider → (why ≡ Some NotMet → steps ≡ wider) → why ≡ outcome (nat_lt 0 steps && goal new.last) ended →
    MatchOption ended (HasEnded goal n steps new) (λ refusal. (steps < n) × (0 < steps → goal new.last ≡ false) × Answers Step new (Refused refusal) new) →
    MatchOption ended (HasEnded goal wider steps new) (λ refusal. (steps < wider) × (0 < steps → goal new.last ≡ false) × Answers Step new (Refused refusal) new)
ended_wider goal n wider steps new None why less all is stopped = ⊎_elim
    (λ (some : 0 < steps). ⊎_elim
    (λ (met : goal new.last ≡ true). inr (some, met))
    (λ (unmet : goal new.last ≡ false). inl (all (is ∙ ap (λ b. outcome (b && goal new.last) None) (lt-ltb 0 steps some) ∙ ap (λ b. outcome b None) unmet)))
    (cases_Bool (goal new.last)))
    (λ (none : steps ≤ 0). inl (all (is ∙ ap (λ b. outcome (b && goal new.last) None) (le-ltb 0 steps none))))
    (cases_lt 0 steps)
ended_wider goal n wider steps new (Some refusal) why less all is stopped = (omega (arith, stopped.0, less), stopped.1, stopped.2)

refused_wider : (weight more steps : ℕ) (new : PlainSession) (ended : Option Refusal) → weight ≤ more → MatchOption ended (Unit {0}) (λ refusal. 0 < steps → weights_from new.earlier ≤ weight) →
    MatchOption ended (Unit {0}) (λ refusal. 0 < steps → weights_from new.earlier ≤ more)
refused_wider weight more steps new None less refused = tt
refused_wider weight more steps new (Some refusal) less refused = λ some. omega (arith, refused some, less)

pub searched_wider : (weight more : ℕ) (goal : Goal) (n wider steps : ℕ) (old new : PlainSession) (why : Option Refusal) → weight ≤ more → n ≤ wider → (why ≡ Some NotMet → steps ≡ wider) →
    IsSearchWithin weight goal n old steps why new → IsSearchWithin more goal wider old steps why new
searched_wider weight more goal n wider steps old new why less longer all search =
    let walk = search.1 in (
      search.0,
      record {
        allowed = wider;
        within = omega arith;
        walk = record {
          within = omega (arith, walk.walk.within, walk.within, longer);
          walked = walk.walk.walked;
          unmet = walk.walk.unmet;
          stopped = ended_wider goal walk.allowed wider steps new search.0 why (omega (arith, walk.within, longer)) all search.2 walk.walk.stopped;
        };
        heavy = λ fewer. absurd (omega (arith, fewer));
        light = λ some. omega (arith, walk.light some, less);
        refused = refused_wider weight more steps new search.0 less walk.refused;
      },
      search.2,
    )
