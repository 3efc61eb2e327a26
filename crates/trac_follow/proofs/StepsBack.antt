-- A byte that is followed back, step by step.
use Rattle.std.proofs.Common.{◌≡◌, ℕ, zero, suc, ◌+◌, ◌-◌, ◌^◌, ◌<◌, Bool, true, false, List, [], ◌∷◌, ◌++◌, length, take, refl, sym, ap, ap₂, subst, ◌∙◌, ⊎_elim, arith, ◌⊎◌, Option, None, Some, Ok, is_some, append-nil, append_assoc, length-append}
use Rattle.std.proofs.lemmas.Option.{option_and_then_some}
use Rattle.std.proofs.Math.Seq.{take-append-add}
use Rattle.trac_rules.specs.declared.refusal.Refusal.{Refusal}
use Rattle.trac_rules.specs.declared.width.Width.{Width}
use Rattle.trac_rules.specs.Effect.{argument}
use Rattle.trac_rules.specs.Scanning.{scan}
use Rattle.trac_rules.specs.Session.{PlainSession, Back, IsWalk, accepted_by, answer, no_goal, over, repeated}
use Rattle.trac_rules.specs.State.{Environment, State}
use Rattle.trac_rules.specs.Stepping.{step}
use Rattle.trac_rules.specs.Trails.{AreSteps}
use Rattle.trac_rules.specs.declared.item.Item.{Item}
use Rattle.trac_rules.proofs.Replies.{accepted_done}
use Rattle.trac_rules.proofs.TakenAgain.{Back_done}
use Rattle.trac_origins.specs.Accounts.{Accounts}
use Rattle.trac_origins.specs.Following.{Followed, followed, going_back, one_more, state_back}
use Rattle.trac_origins.specs.Places.{Place, InForm, Origin, Carried, Read, Made, found_at}
use Rattle.trac_origins.specs.Stepping.{origin}
use Rattle.trac_origins.proofs.Accounted.{accounted}
use Rattle.trac_session.proofs.Returned.{refused_at_start}
use Rattle.trac_session.proofs.Walked.{repeated-from}
use Rattle.trac_follow.specs.declared.history.Followed.{Followed as Found}
use Rattle.trac_follow.specs.declared.history.Source as code
use Rattle.trac_follow.specs.declared.history.Turn as turning
use Rattle.trac_follow_step.specs.declared.place.After.{After}
use Rattle.trac_follow_step.specs.declared.place.Origin as code_origin
use Rattle.trac_follow_step.specs.declared.place.Place as code_place
use Rattle.trac_follow.specs.Following.{IsFollowed, IsKnown, IsOrigin, IsSource, quiet_steps}
use Rattle.trac_follow_step.specs.Items.{IsMeasured}
use Rattle.trac_follow_step.specs.Offsets.{IsPlaced}
use Rattle.trac_follow.specs.Passing.{IsUnpassed, UnpassedBy}
use Rattle.trac_follow.specs.Turns.{IsTurn}
use Rattle.trac_follow_step.specs.Places.{AreLengths, IsListing, IsPassed, Stands, Tells, TellsOf, is_in_form, is_in_storage, place_of}

-- ---- over some states, and then over more

abbrev pub after_some : ℕ → Followed → Followed
after_some n f = record { carried = n + f.carried; origin = f.origin }

pub followed_on : (environment : Environment) (pre post : List State) (place q : Place) → (followed environment pre place).origin ≡ Carried q →
    followed environment (pre ++ post) place ≡ after_some (length pre) (followed environment post q)
followed_on environment [] post place q e =
    let same : place ≡ q = cc in
    ap (followed environment post) same ∙ ap (λ n. record { carried = n; origin = (followed environment post q).origin }) (omega arith)
followed_on environment (s ∷ pre) post place q e = go (origin environment s place) e (λ r h. followed_on environment pre post r q h)
  where
    go : (o : Origin) → (going_back o (λ r. followed environment pre r)).origin ≡ Carried q →
        ((r : Place) → (followed environment pre r).origin ≡ Carried q → followed environment (pre ++ post) r ≡ after_some (length pre) (followed environment post q)) →
        going_back o (λ r. followed environment (pre ++ post) r) ≡ after_some (length (s ∷ pre)) (followed environment post q)
    go (Carried r) h further =
        ap one_more (further r h) ∙ ap (λ n. record { carried = n; origin = (followed environment post q).origin }) (omega arith)
    go other h further = absurd (cc)

-- all of them carried it
pub all_carried : (environment : Environment) (pre : List State) (place q : Place) → (followed environment pre place).origin ≡ Carried q →
    followed environment pre place ≡ record { carried = length pre; origin = Carried q }
all_carried environment pre place q e =
    ap (λ (states : List State). followed environment states place) (sym (append-nil pre)) ∙ followed_on environment pre [] place q e
    ∙ ap (λ n. record { carried = n; origin = Carried q }) (omega arith)

-- what no step passes on
pub unpassed_on : (environment : Environment) (pre post : List State) (place q : Place) → (followed environment pre place).origin ≡ Carried q → IsUnpassed environment pre place →
    IsUnpassed environment post q → IsUnpassed environment (pre ++ post) place
unpassed_on environment [] post place q e before after =
    let same : place ≡ q = cc in
    subst (λ p. IsUnpassed environment post p) (sym same) after
unpassed_on environment (s ∷ pre) post place q e before after = go (origin environment s place) e before (λ r h less. unpassed_on environment pre post r q h less after)
  where
    go : (o : Origin) → (going_back o (λ r. followed environment pre r)).origin ≡ Carried q → UnpassedBy s place o (λ r. IsUnpassed environment pre r) →
        ((r : Place) → (followed environment pre r).origin ≡ Carried q → IsUnpassed environment pre r → IsUnpassed environment (pre ++ post) r) →
        UnpassedBy s place o (λ r. IsUnpassed environment (pre ++ post) r)
    go (Carried r) h less further = (less.0, further r h less.1)
    go other h less further = absurd (cc)

-- one step
unpassed_once : (environment : Environment) (s : State) (place q : Place) → origin environment s place ≡ Carried q → (IsPassed s place q → ⊥) → IsUnpassed environment (s ∷ []) place
unpassed_once environment s place q is not = subst (λ o. UnpassedBy s place o (λ r. IsUnpassed environment [] r)) (sym is) (not, tt)

-- ---- a session that went back

-- by one step
pub record WentBack (cur next : PlainSession) : Type 0 where
  pub before : State
  pub rest : List State
  pub earlier : cur.earlier ≡ before ∷ rest
  pub next_is : next ≡ record cur { earlier = rest; last = before }
  pub walked : repeated Back 1 cur ≡ Some next

went_by : (cur next : PlainSession) → repeated Back 1 cur ≡ Some next → WentBack cur next
went_by cur next h =
    let at = Back_done cur next (accepted_done (answer Back cur) next h) in
    record { before = at.0; rest = at.1; earlier = at.2; next_is = at.3; walked = h }

pub went_back : (cur next : PlainSession) (steps : ℕ) (why : Option Refusal) → IsWalk Back no_goal 1 cur steps why next → why ≡ None → WentBack cur next
went_back cur next steps why walk none =
    let unrefused = subst (λ (w : Option Refusal). IsWalk Back no_goal 1 cur steps w next) none walk in
    ⊎_elim
    (λ (one : steps ≡ 1). went_by cur next (ap (λ n. repeated Back n cur) (sym one) ∙ unrefused.walked))
    (λ (met : (0 < steps) × (false ≡ true)). absurd (let never = met.1 in cc))
    unrefused.stopped

-- the state before the step is the last one then
before_is : (cur next : PlainSession) (went : WentBack cur next) (s : State) → s ≡ next.last → s ≡ went.before
before_is cur next went s last = last ∙ ap (λ (p : PlainSession). p.last) went.next_is

-- by so many steps
pub record WentSo (n : ℕ) (old new : PlainSession) : Type 0 where
  pub whole : old.earlier ≡ take n old.earlier ++ new.earlier
  pub count : length (take n old.earlier) ≡ n
  pub last : state_back n old.last (take n old.earlier) ≡ new.last
  pub same_width : new.width ≡ old.width
  pub same_tape : new.tape ≡ old.tape

-- and by more
pub longer : (old cur : PlainSession) (steps n : ℕ) → WentSo steps old cur → take (steps + n) old.earlier ≡ take steps old.earlier ++ take n cur.earlier
longer old cur steps n went =
    ap (take (steps + n)) went.whole
    ∙ ap (λ k. take (k + n) (take steps old.earlier ++ cur.earlier)) (sym went.count)
    ∙ take-append-add (take steps old.earlier) cur.earlier n

one_longer : (old cur next : PlainSession) (steps : ℕ) → WentSo steps old cur → (went : WentBack cur next) → take (steps + 1) old.earlier ≡ take steps old.earlier ++ went.before ∷ []
one_longer old cur next steps so went = longer old cur steps 1 so ∙ ap (λ (states : List State). take steps old.earlier ++ take 1 states) went.earlier

-- the last of so many states before one
back_to_last : (pre : List State) (n : ℕ) → length pre ≡ n → (t s : State) → state_back (suc n) t (pre ++ s ∷ []) ≡ s
back_to_last [] zero e t s = refl
back_to_last [] (suc n) e t s = absurd (omega (arith, e))
back_to_last (u ∷ pre) zero e t s = absurd (omega (arith, e))
back_to_last (u ∷ pre) (suc n) e t s = back_to_last pre n (omega (arith, e)) u s

one_more_back : (n : ℕ) (old cur next : PlainSession) → WentSo n old cur → WentBack cur next → WentSo (suc n) old next
one_more_back n old cur next so went =
    let pre = take n old.earlier in
    let s : State = went.before in
    let one : suc n ≡ n + 1 = omega arith in
    let more : take (suc n) old.earlier ≡ pre ++ s ∷ [] = ap (λ k. take k old.earlier) one ∙ one_longer old cur next n so went in
    record {
      whole = so.whole ∙ ap (λ (states : List State). pre ++ states) went.earlier ∙ sym (append_assoc pre (s ∷ []) went.rest)
          ∙ ap₂ (λ (front back : List State). front ++ back) (sym more) (sym (ap (λ (p : PlainSession). p.earlier) went.next_is));
      count = ap (λ (states : List State). length states) more ∙ length-append pre (s ∷ []) ∙ ap (λ k. k + 1) so.count ∙ sym one;
      last = ap (λ (states : List State). state_back (suc n) old.last states) more ∙ back_to_last pre n so.count old.last s ∙ sym (ap (λ (p : PlainSession). p.last) went.next_is);
      same_width = ap (λ (p : PlainSession). p.width) went.next_is ∙ so.same_width;
      same_tape = ap (λ (p : PlainSession). p.tape) went.next_is ∙ so.same_tape;
    }

pub went_so : (n : ℕ) (old new : PlainSession) → repeated Back n old ≡ Some new → WentSo n old new
went_so zero old new h =
    let same : old ≡ new = cc in
    subst (λ (p : PlainSession). WentSo 0 old p) same (record { whole = refl; count = refl; last = refl; same_width = refl; same_tape = refl })
went_so (suc n) old new h =
    option_and_then_some (λ (m : PlainSession). accepted_by (answer Back m)) (repeated Back n old) new h
    (λ m there next. one_more_back n old m new (went_so n old m there) (went_by m new next))

-- the last of the steps is from the state to which they lead
pub last_of_all : (n : ℕ) (old new : PlainSession) → repeated Back (suc n) old ≡ Some new → take (suc n) old.earlier ≡ take n old.earlier ++ new.last ∷ []
last_of_all n old new h =
    option_and_then_some (λ (m : PlainSession). accepted_by (answer Back m)) (repeated Back n old) new h
    (λ m there next.
    let one : suc n ≡ n + 1 = omega arith in
    let went = went_by m new next in
    ap (λ k. take k old.earlier) one ∙ one_longer old m new n (went_so n old m there) went
    ∙ ap (λ (s : State). take n old.earlier ++ s ∷ []) (sym (before_is m new went new.last refl)))

-- one that could not
pub no_way_back : (cur next : PlainSession) (steps : ℕ) (why : Option Refusal) (refusal : Refusal) → IsWalk Back no_goal 1 cur steps why next → why ≡ Some refusal →
    (next ≡ cur) × (next.earlier ≡ [])
no_way_back cur next steps why refusal walk some =
    let refused = subst (λ (w : Option Refusal). IsWalk Back no_goal 1 cur steps w next) some walk in
    let none : steps ≡ 0 = omega (arith, refused.stopped.0) in
    let same : Some cur ≡ Some next = ap (λ n. repeated Back n cur) (sym none) ∙ refused.walked in
    (cc, refused_at_start refusal next next refused.stopped.2)

-- ---- what is known on the way

-- of a session whose states are steps of one another
pub record Stood (old cur : PlainSession) (place here : Place) (steps bytes : ℕ) (gap : Bool) : Type 0 where
  pub taken : AreSteps (over old.width old.tape) cur.earlier cur.last
  pub carried : (followed (over old.width old.tape) (take steps old.earlier) place).origin ≡ Carried here
  pub stands : Stands cur.last here
  pub unpassed : IsUnpassed (over old.width old.tape) (take steps old.earlier) place
  pub placed : IsPlaced bytes gap cur.last here

pub record GoesBack (width : Width) (old cur : PlainSession) (place here : Place) (steps bytes : ℕ) (gap : Bool) : Type 0 where
  pub walked : repeated Back steps old ≡ Some cur
  pub stood : IsKnown width old place → Stood old cur place here steps bytes gap

-- so many steps carried it
carried_so : (width : Width) (old cur : PlainSession) (place here : Place) (steps bytes : ℕ) (gap : Bool) → GoesBack width old cur place here steps bytes gap → IsKnown width old place →
    IsOrigin old place steps steps (Carried here)
carried_so width old cur place here steps bytes gap goes trail =
    all_carried (over old.width old.tape) (take steps old.earlier) place here (goes.stood trail).carried
    ∙ ap (λ n. record { carried = n; origin = Carried here }) (went_so steps old cur goes.walked).count

-- ---- one step more

module _ (width : Width) (old cur next : PlainSession) (place here : Place) (steps bytes : ℕ) (gap : Bool) (goes : GoesBack width old cur place here steps bytes gap) (went : WentBack cur next) where
  abbrev environment : Environment
  environment = over old.width old.tape

  abbrev pre : List State
  pre = take steps old.earlier

  so : WentSo steps old cur
  so = went_so steps old cur goes.walked

  -- over one state more
  followed_one : (trail : IsKnown width old place) (o : Origin) → origin environment went.before here ≡ o →
      followed environment (take (steps + 1) old.earlier) place ≡ after_some steps (going_back o (λ q. followed environment [] q))
  followed_one trail o is =
      ap (λ (states : List State). followed environment states place) (one_longer old cur next steps so went)
      ∙ followed_on environment pre (went.before ∷ []) place here (goes.stood trail).carried
      ∙ ap₂ (λ n f. after_some n f) so.count (ap (λ r. going_back r (λ q. followed environment [] q)) is)

  -- it goes on from there, of which so much is known
  goes_on : (there : Place) (known : ℕ) (is_gap : Bool) →
      (IsKnown width old place → (origin environment went.before here ≡ Carried there) × (IsPassed went.before here there → ⊥) × (Stands went.before there → IsPlaced known is_gap went.before there)) →
      GoesBack width old next place there (steps + 1) known is_gap
  goes_on there known is_gap came = record {
    walked = repeated-from Back steps 1 old cur goes.walked ∙ went.walked;
    stood = λ trail.
        let stood = goes.stood trail in
        let at = came trail in
        let taken = subst (λ (states : List State). AreSteps environment states cur.last) went.earlier stood.taken in
        let stands : Stands went.before there =
        (stood.stands.0, subst (λ o. Accounts environment went.before cur.last o stood.stands.0) at.0 (accounted environment went.before cur.last taken.0 here stood.stands.0 stood.stands.1)) in
        record {
          taken = subst (λ (p : PlainSession). AreSteps environment p.earlier p.last) (sym went.next_is) taken.1;
          carried = ap (λ f. f.origin) (followed_one trail (Carried there) at.0);
          stands = subst (λ (p : PlainSession). Stands p.last there) (sym went.next_is) stands;
          unpassed = subst (λ (states : List State). IsUnpassed environment states place) (sym (one_longer old cur next steps so went))
              (unpassed_on environment pre (went.before ∷ []) place here stood.carried stood.unpassed (unpassed_once environment went.before here there at.0 at.1));
          placed = subst (λ (p : PlainSession). IsPlaced known is_gap p.last there) (sym went.next_is) (at.2 stands);
        };
  }

-- ---- as the code finds it

pub none_by_test : (why : Option Refusal) (some : Bool) → some ≡ is_some why → some ≡ false → why ≡ None
none_by_test None some is e = refl
none_by_test (Some refusal) some is e = let unset : true ≡ false = sym is ∙ e in absurd (cc)

pub some_by_test : (why : Option Refusal) (some : Bool) → some ≡ is_some why → some ≡ true → (refusal : Refusal) × (why ≡ Some refusal)
some_by_test None some is e = let unset : false ≡ true = sym is ∙ e in absurd (cc)
some_by_test (Some refusal) some is e = (refusal, refl)

-- a step back, and what is told of it
pub record HasTold (width : Width) (old cur next : PlainSession) (place here : Place) (steps bytes : ℕ) (gap : Bool) (told : code_origin.Origin) : Type 0 where
  pub goes : GoesBack width old cur place here steps bytes gap
  pub went : WentBack cur next
  pub tells : IsKnown width old place → Tells went.before told (origin (over old.width old.tape) went.before here)

pub has_told : (width : Width) (old cur next : PlainSession) (place here : Place) (steps bytes : ℕ) (gap : Bool) (after : After) (u v : State) (told : code_origin.Origin) →
    GoesBack width old cur place here steps bytes gap → WentBack cur next → after.active ≡ length u.active → after.output ≡ length u.output → after.extent ≡ bytes → after.is_gap ≡ gap →
    u.position < 2 ^ 64 → u ≡ cur.last → v ≡ next.last → TellsOf v width after here told → HasTold width old cur next place here steps bytes gap told
has_told width old cur next place here steps bytes gap after u v told goes went active output extent is_gap read is_cur is_next tells = record {
  goes = goes;
  went = went;
  tells = λ trail.
      let stood = goes.stood trail in
      let taken = subst (λ (states : List State). AreSteps (over old.width old.tape) states cur.last) went.earlier stood.taken in
      let lengths : AreLengths after u here =
      record {
        active = active;
        output = output;
        read = read;
        measured = subst (λ (s : State). IsMeasured after.extent after.is_gap s here) (sym is_cur)
            (subst (λ n. IsMeasured n after.is_gap cur.last here) (sym extent) (subst (λ g. IsMeasured bytes g cur.last here) (sym is_gap) stood.placed.measured));
      } in
      subst (λ s. TellsOf s width after here told) (before_is cur next went v is_next) tells (over old.width old.tape) cur.last stood.stands.0 (sym trail.0) taken.0
      (subst (λ s. AreLengths after s here) is_cur lengths) stood.stands.1;
}

module _ (width : Width) (old cur next : PlainSession) (place : Place) (now : code_place.Place) (steps bytes : ℕ) (gap : Bool) (told : code_origin.Origin)
    (has : HasTold width old cur next place (place_of now) steps bytes gap told) where
  abbrev before : State
  before = has.went.before

  abbrev here : Place
  here = place_of now

  told_as : (o : code_origin.Origin) → told ≡ o → IsKnown width old place → Tells before o (origin (over old.width old.tape) before here)
  told_as o is trail = subst (λ o. Tells before o (origin (over old.width old.tape) before here)) is (has.tells trail)

  -- how it turned
  pub turned_on : (v m : State) (turn : turning.Turn) (there : code_place.Place) (known : ℕ) (is_gap : Bool) → v ≡ next.last → IsTurn v now told turn →
      turn ≡ turning.TheVariants.On there → m ≡ next.last → (Stands m (place_of there) → IsPlaced known is_gap m (place_of there)) → GoesBack width old next place (place_of there) (steps + 1) known is_gap
  turned_on v m turn there known is_gap last turned on is_next measured =
      let at = go told refl turned in
      goes_on width old cur next place here steps bytes gap has.goes has.went (place_of there) known is_gap
      (λ trail.
      (told_as (code_origin.TheVariants.Carried there) at.0 trail, at.1, subst (λ (s : State). Stands s (place_of there) → IsPlaced known is_gap s (place_of there)) (before_is cur next has.went m is_next) measured))
    where
      go : (o : code_origin.Origin) → told ≡ o → IsTurn v now o turn → (told ≡ code_origin.TheVariants.Carried there) × (IsPassed before here (place_of there) → ⊥)
      go (code_origin.TheVariants.Carried q) from is =
          ⊎_elim
          (λ (e : (turn ≡ turning.TheVariants.On q) × (IsPassed v here (place_of q) → ⊥)).
          let turns = e.0 in
          let one : q ≡ there = cc in (
            from ∙ ap code_origin.TheVariants.Carried one,
            λ passed. e.1 (subst (λ u. IsPassed u here (place_of q)) (sym (before_is cur next has.went v last)) (subst (λ p. IsPassed before here (place_of p)) (sym one) passed)),
          ))
          (λ (e : (turn ≡ turning.TheVariants.Found (code.TheVariants.Passed q)) × IsPassed v here (place_of q) × (is_in_form (place_of q) ≡ true → is_in_storage here ≡ true)).
          let ends = e.0 in absurd (cc)) is
      go (code_origin.TheVariants.OfForm i) from is = absurd (let ends = is.0 in cc)
      go other from is = absurd (cc)

  -- what was found, in a record
  found_is : (most : ℕ) (found : Found) (source : code.Source) → found.steps ≡ steps + 1 → found.source ≡ source → quiet_steps (steps + 1) source ≡ steps → IsKnown width old place →
      IsSource old place most next (steps + 1) source → IsFollowed old place most next found
  found_is most found source count is quiet trail h = record {
    source = subst (λ n. IsSource old place most next n found.source) (sym count) (subst (λ s. IsSource old place most next (steps + 1) s) (sym is) h);
    unpassed = subst (λ n. IsUnpassed (over old.width old.tape) (take n old.earlier) place)
        (sym (ap₂ quiet_steps count is ∙ quiet)) (has.goes.stood trail).unpassed;
    nothing = λ bare. absurd (bare trail.2.0 trail.2.1);
  }

  pub turned_end : (v : State) (most : ℕ) (turn : turning.Turn) (source : code.Source) (found : Found) → v ≡ next.last → IsTurn v now told turn →
      turn ≡ turning.TheVariants.Found source → found.steps ≡ steps + 1 → found.source ≡ source → IsKnown width old place → IsFollowed old place most next found
  turned_end v most turn source found last turned end count is trail = go told refl turned
    where
      quiet : steps + 1 - 1 ≡ steps
      quiet = omega arith

      over_step : (o : Origin) → origin (over old.width old.tape) before here ≡ o →
          followed (over old.width old.tape) (take (steps + 1) old.earlier) place ≡ after_some steps (going_back o (λ q. followed (over old.width old.tape) [] q))
      over_step = followed_one width old cur next place here steps bytes gap has.goes has.went trail

      go : (o : code_origin.Origin) → told ≡ o → IsTurn v now o turn → IsFollowed old place most next found
      go (code_origin.TheVariants.Carried q) from at =
          ⊎_elim
          (λ (e : (turn ≡ turning.TheVariants.On q) × (IsPassed v here (place_of q) → ⊥)). let on = e.0 in absurd (cc))
          (λ (e : (turn ≡ turning.TheVariants.Found (code.TheVariants.Passed q)) × IsPassed v here (place_of q) × (is_in_form (place_of q) ≡ true → is_in_storage here ≡ true)).
          let is_end = e.0 in
          let ends : source ≡ code.TheVariants.Passed q = cc in
          found_is most found (code.TheVariants.Passed q) count (is ∙ ends) quiet trail (
            over_step (Carried (place_of q)) (told_as (code_origin.TheVariants.Carried q) from trail),
            (steps, (here, refl, carried_so width old cur place here steps bytes gap has.goes trail, subst (λ x. IsPassed x here (place_of q)) last e.1, e.2)),
          ))
          at
      go (code_origin.TheVariants.OfForm i) from at =
          let is_end = at.0 in
          let ends : source ≡ code.TheVariants.OfForm i = cc in
          let tells = told_as (code_origin.TheVariants.OfForm i) from trail in
          found_is most found (code.TheVariants.OfForm i) count (is ∙ ends) quiet trail (
            (tells.0, ap (λ (p : PlainSession). scan p.last) has.went.next_is ∙ tells.1, over_step (Carried (InForm (argument 1 tells.0.arguments) i)) tells.2),
            (steps, (here, refl, carried_so width old cur place here steps bytes gap has.goes trail, at.1)),
          )
      go (code_origin.TheVariants.Read n) from at =
          let ends : source ≡ code.TheVariants.Read n = cc in
          found_is most found (code.TheVariants.Read n) count (is ∙ ends) quiet trail
          (omega arith, over_step (Read n) (told_as (code_origin.TheVariants.Read n) from trail) ∙ ap (λ m. record { carried = m; origin = Read n }) (omega arith))
      go code_origin.TheVariants.Made from at =
          let ends : source ≡ code.TheVariants.Made = cc in
          found_is most found code.TheVariants.Made count (is ∙ ends) quiet trail
          (omega arith, over_step Made (told_as code_origin.TheVariants.Made from trail) ∙ ap (λ m. record { carried = m; origin = Made }) (omega arith))
      go code_origin.TheVariants.Nothing from at = absurd (told_as code_origin.TheVariants.Nothing from trail)

-- a call of `ln` of which memory was refused to tell
pub refused_end : (width : Width) (old cur next : PlainSession) (place here : Place) (steps bytes : ℕ) (gap : Bool) (v : State) (most : ℕ) (found : Found) → GoesBack width old cur place here steps bytes gap → WentBack cur next →
    v ≡ next.last → IsListing v → found.steps ≡ steps + 1 → found.source ≡ code.TheVariants.Memory → IsKnown width old place → IsFollowed old place most next found
refused_end width old cur next place here steps bytes gap v most found goes went is_next listing count source trail =
    let all : steps + 1 - 1 ≡ steps = omega arith in
    record {
      source = subst (λ n. IsSource old place most next n found.source) (sym count) (subst (λ s. IsSource old place most next (steps + 1) s) (sym source) (
        omega arith,
        (here, subst (λ n. IsOrigin old place n n (Carried here)) (sym all) (carried_so width old cur place here steps bytes gap goes trail)),
        subst (λ (s : State). IsListing s) is_next listing,
      ));
      unpassed = subst (λ n. IsUnpassed (over old.width old.tape) (take n old.earlier) place) (sym (ap₂ quiet_steps count source ∙ all)) (goes.stood trail).unpassed;
      nothing = λ bare. absurd (bare trail.2.0 trail.2.1);
    }

-- a step over which it is told where it stood before
pub step_to : (width : Width) (old cur next : PlainSession) (place here there : Place) (steps bytes : ℕ) (gap : Bool) (v : State) → GoesBack width old cur place here steps bytes gap → WentBack cur next → v ≡ next.last →
    (IsPlaced bytes gap cur.last here → (environment : Environment) (item : Item) → step environment v ≡ Ok cur.last → found_at cur.last here ≡ Some item →
    (origin environment v here ≡ Carried there) × IsPlaced bytes gap v there × (IsPassed v here there → ⊥)) → GoesBack width old next place there (steps + 1) bytes gap
step_to width old cur next place here there steps bytes gap v goes went is_next came =
    goes_on width old cur next place here steps bytes gap goes went there bytes gap
    (λ trail.
    let stood = goes.stood trail in
    let before : v ≡ went.before = before_is cur next went v is_next in
    let taken = subst (λ (states : List State). AreSteps (over old.width old.tape) states cur.last) went.earlier stood.taken in
    let at = subst (λ (u : State). (origin (over old.width old.tape) u here ≡ Carried there) × IsPlaced bytes gap u there × (IsPassed u here there → ⊥)) before
    (came stood.placed (over old.width old.tape) stood.stands.0 (subst (λ (u : State). step (over old.width old.tape) u ≡ Ok cur.last) (sym before) taken.0) stood.stands.1) in
    (at.0, at.2, λ stands. at.1))

-- where it goes no further
pub stops : (width : Width) (old cur next : PlainSession) (place : Place) (here : code_place.Place) (steps bytes : ℕ) (gap : Bool) (most : ℕ) (found : Found) → GoesBack width old cur place (place_of here) steps bytes gap →
    (steps ≡ most) ⊎ (cur.earlier ≡ []) → next ≡ cur → found.steps ≡ steps → found.source ≡ code.TheVariants.Here here → IsKnown width old place → IsFollowed old place most next found
stops width old cur next place here steps bytes gap most found goes ends is count source trail = record {
  source = subst (λ p. IsSource old place most p found.steps found.source) (sym is)
      (subst (λ n. IsSource old place most cur n found.source) (sym count)
      (subst (λ s. IsSource old place most cur steps s) (sym source) (carried_so width old cur place (place_of here) steps bytes gap goes trail, ends)));
  unpassed = subst (λ n. IsUnpassed (over old.width old.tape) (take n old.earlier) place) (sym (ap₂ quiet_steps count source)) (goes.stood trail).unpassed;
  nothing = λ bare. absurd (bare trail.2.0 trail.2.1);
}
