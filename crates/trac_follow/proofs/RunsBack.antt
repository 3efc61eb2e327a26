-- A byte that is followed back over runs of bytes that moved one by one.
use Rattle.std.proofs.Common.{◌≡◌, ℕ, zero, suc, ◌+◌, ◌-◌, ◌<◌, ◌≤◌, Bool, List, [], ◌∷◌, ◌++◌, length, take, sym, ap, subst, ◌∙◌, arith, Option, None, Some, append-nil, length-drop, take_at}
use Rattle.trac_rules.specs.declared.item.Item.{Item}
use Rattle.trac_rules.specs.declared.width.Width.{Width}
use Rattle.trac_rules.specs.PlainRuns.{moved_on, on_the_way}
use Rattle.trac_rules.specs.Scanning.{Moves, deleted, scan}
use Rattle.trac_rules.specs.Session.{PlainSession, Back, over, repeated}
use Rattle.trac_rules.specs.State.{Environment, State}
use Rattle.trac_rules.specs.Trails.{AreSteps}
use Rattle.trac_rules.proofs.MovedOn.{active-gathered, length-on_the_way, moved_on-suc, moved_on-zero}
use Rattle.trac_origins.specs.Accounts.{Accounts}
use Rattle.trac_origins.specs.Following.{Followed, followed}
use Rattle.trac_origins.specs.Lengths.{before_moved, in_active, past_in}
use Rattle.trac_origins.specs.Places.{Place, InActive, Carried, found_at}
use Rattle.trac_origins.specs.Stepping.{origin}
use Rattle.trac_origins.proofs.Accounted.{accounted}
use Rattle.trac_origins.proofs.Moved.{one_before, plain, run_told}
use Rattle.trac_session.specs.Runs.{HasMovedBack}
use Rattle.trac_session.proofs.Walked.{repeated-from}
use Rattle.trac_follow_step.specs.Offsets.{IsPlaced}
use Rattle.trac_follow_step.proofs.Staying.{placed_before, stays_moving}
use Rattle.trac_follow.specs.Passing.{IsUnpassed, UnpassedBy}
use Rattle.trac_follow.specs.Following.{IsKnown}
use Rattle.trac_follow_step.specs.Places.{IsPassed}
use Rattle.trac_follow.proofs.StepsBack.{GoesBack, followed_on, longer, unpassed_on, went_so}

-- of steps one after another, the last and the first
pub last_steps : (environment : Environment) (way rest : List State) (t : State) → AreSteps environment (way ++ rest) t → AreSteps environment way t
last_steps environment [] rest t all = tt
last_steps environment (s ∷ way) rest t all = (all.0, last_steps environment way rest s all.1)

first_steps : (environment : Environment) (n : ℕ) (s : State) (rest : List State) → AreSteps environment (on_the_way n s ++ rest) (moved_on n s) → AreSteps environment rest s
first_steps environment zero s rest all = subst (λ (u : State). AreSteps environment rest u) (moved_on-zero s) all
first_steps environment (suc n) s rest all = first_steps environment n s rest all.1

-- where what stands after them is, as the code finds it
abbrev Says : ℕ → State → Place → Place → ℕ → Bool → Type 0
Says n s here there bytes gap =
    (item : Item) → n ≤ length s.active → found_at (moved_on n s) here ≡ Some item → IsPlaced bytes gap (moved_on n s) here → there ≡ before_moved n s here

-- no step back leaves a session
pub same_session : (n : ℕ) (cur next : PlainSession) → repeated Back n cur ≡ Some next → n ≤ 0 → cur ≡ next
same_session zero cur next h none = cc
same_session (suc n) cur next h none = absurd (omega (arith, none))

-- what moves is passed on by no step
moves_quietly : (s t : State) (p : Place) → scan s ≡ Moves t → IsPassed s p (before_moved 1 s p) → ⊥
moves_quietly s t p is passed = at p passed
  where
    of : (q : Place) (past : Option ℕ) → (IsPassed s q q → ⊥) → IsPassed s q (in_active past q) → ⊥
    of q None stays passed = stays passed
    of q (Some j) stays passed = absurd (cc)

    at : (q : Place) → IsPassed s q (before_moved 1 s q) → ⊥
    at (InActive i) passed = absurd (cc)
    at p passed = of p (past_in s.frames s p) (stays_moving s t p is) passed

run_unpassed : (environment : Environment) (s : State) (n : ℕ) (place : Place) (item : Item) → AreSteps environment (on_the_way n s) (moved_on n s) → n ≤ length s.active →
    found_at (moved_on n s) place ≡ Some item → IsUnpassed environment (on_the_way n s) place
run_unpassed environment s zero place item all within e = tt
run_unpassed environment s (suc n) place item all within e =
    let u : State = moved_on n s in
    let t : State = moved_on (suc n) s in
    let q : Place = before_moved 1 u place in
    let left : length u.active ≡ length s.active - n =
    ap (λ (text : List ℕ). length text) (active-gathered s.frames (take n s.active) (deleted n s)) ∙ length-drop n s.active in
    let some : 0 < length u.active = omega (arith, left, within) in
    let from : origin environment u place ≡ Carried q = one_before environment u t all.0 (moved_on-suc n s) some place item e in
    let stands : found_at u q ≡ Some item = subst (λ o. Accounts environment u t o item) from (accounted environment u t all.0 place item e) in
    subst (λ o. UnpassedBy u place o (λ r. IsUnpassed environment (on_the_way n s) r)) (sym from)
    (moves_quietly u t place (plain environment u t all.0 (moved_on-suc n s) some).0, run_unpassed environment s n q item all.1 (omega (arith, within)) stands)

module _ (width : Width) (old cur next : PlainSession) (place here there : Place) (steps bytes n : ℕ) (gap : Bool) (goes : GoesBack width old cur place here steps bytes gap) (h : repeated Back n cur ≡ Some next)
    (moved : HasMovedBack n cur next) (s : State) (is_next : s ≡ next.last) (says : Says n s here there bytes gap) where
  abbrev environment : Environment
  environment = over old.width old.tape

  abbrev pre : List State
  pre = take steps old.earlier

  abbrev way : List State
  way = on_the_way n next.last

  at : (item : Item) → found_at cur.last here ≡ Some item → IsPlaced bytes gap cur.last here → there ≡ before_moved n next.last here
  at item stands placed =
      subst (λ (u : State). Says n u here there bytes gap) is_next says item moved.within
      (subst (λ (u : State). found_at u here ≡ Some item) moved.last stands) (subst (λ (u : State). IsPlaced bytes gap u here) moved.last placed)

  whole_way : take (steps + n) old.earlier ≡ pre ++ way
  whole_way =
      longer old cur steps n (went_so steps old cur goes.walked)
      ∙ ap (λ (states : List State). pre ++ states) (ap (take n) moved.earlier ∙ take_at way next.earlier n (length-on_the_way n next.last))

  steps_there : IsKnown width old place → AreSteps environment (way ++ next.earlier) (moved_on n next.last)
  steps_there trail =
      subst (λ (u : State). AreSteps environment (way ++ next.earlier) u) moved.last
      (subst (λ (states : List State). AreSteps environment states cur.last) moved.earlier (goes.stood trail).taken)

  pub run_on : GoesBack width old next place there (steps + n) bytes gap
  run_on = record {
    walked = repeated-from Back steps n old cur goes.walked ∙ h;
    stood = λ trail.
        let stood = goes.stood trail in
        let item : Item = stood.stands.0 in
        let is : there ≡ before_moved n next.last here = at item stood.stands.1 stood.placed in
        let stands : found_at (moved_on n next.last) here ≡ Some item = subst (λ (u : State). found_at u here ≡ Some item) moved.last stood.stands.1 in
        let all = steps_there trail in
        let few : AreSteps environment (way ++ []) (moved_on n next.last) =
        subst (λ (states : List State). AreSteps environment states (moved_on n next.last)) (sym (append-nil way)) (last_steps environment way next.earlier (moved_on n next.last) all) in
        let told = run_told environment next.last [] n here item few moved.within stands in
        let over_way : (followed environment way here).origin ≡ Carried there =
        ap (λ (states : List State). (followed environment states here).origin) (sym (append-nil way)) ∙ ap (λ (f : Followed). f.origin) told.told ∙ ap Carried (sym is) in
        record {
          taken = first_steps environment n next.last next.earlier all;
          carried = ap (λ (states : List State). (followed environment states place).origin) whole_way
              ∙ ap (λ (f : Followed). f.origin) (followed_on environment pre way place here stood.carried) ∙ over_way;
          stands = (item, ap (found_at next.last) is ∙ told.stood);
          placed = subst (λ p. IsPlaced bytes gap next.last p) (sym is)
              (placed_before n next.last here bytes gap item stands (subst (λ (u : State). IsPlaced bytes gap u here) moved.last stood.placed));
          unpassed = subst (λ (states : List State). IsUnpassed environment states place) (sym whole_way)
              (unpassed_on environment pre way place here stood.carried stood.unpassed
              (run_unpassed environment next.last n here item (last_steps environment way next.earlier (moved_on n next.last) all) moved.within stands));
        };
  }
