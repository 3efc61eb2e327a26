-- A byte that is followed back leg by leg.
use Rattle.std.proofs.Common.{◌≡◌, ℕ, ◌+◌, ◌-◌, ◌<◌, ◌≤◌, List, [], ◌∷◌, ◌++◌, length, take, refl, sym, ap, ap₂, subst, ◌∙◌, arith, inl, inr, ⊎_elim, Some, true, append-nil, append_assoc}
use Rattle.trac_rules.specs.declared.width.Width.{Width}
use Rattle.trac_rules.specs.Effect.{argument}
use Rattle.trac_rules.specs.Session.{PlainSession, Back, over, repeated}
use Rattle.trac_rules.specs.State.{State}
use Rattle.trac_rules.specs.Trails.{AreSteps}
use Rattle.trac_rules.proofs.TakenAgain.{repeated_trail}
use Rattle.trac_origins.specs.Accounts.{IsSource as IsOriginOf}
use Rattle.trac_origins.specs.Following.{Followed, followed, state_back}
use Rattle.trac_origins.specs.Places.{Place, InForm, Origin, Carried, Read, Made, found_at}
use Rattle.trac_origins.proofs.Accounted.{followed_back}
use Rattle.trac_session.proofs.Walked.{repeated-from}
use Rattle.trac_follow.specs.declared.history.Followed.{Followed as Found}
use Rattle.trac_follow.specs.declared.history.Source as code
use Rattle.trac_follow.specs.declared.tracing.End as ends
use Rattle.trac_follow.specs.declared.tracing.Traced.{Traced}
use Rattle.trac_follow.specs.Following.{IsFollowed, IsKnown, IsOrigin, IsSource}
use Rattle.trac_follow.specs.Passing.{Passing, passings}
use Rattle.trac_follow_step.specs.Places.{is_in_storage, place_of}
use Rattle.trac_follow.specs.Tracing.{AllCarried, IsEnd, IsNamed, IsTold, IsTraced, LeadsTo, ToldAll, WasOfForm, end_of, told_steps, way_of}
use Rattle.trac_follow.proofs.Legs.{HadFrom, call_of_leg, had_from, had_of_form, had_there, no_call_of_leg, told_further, told_more}
use Rattle.trac_follow.proofs.RunsBack.{last_steps}
use Rattle.trac_follow.proofs.StepsBack.{WentSo, after_some, all_carried, followed_on, longer, went_so}

-- ---- two ways are one

way_to : (old cur : PlainSession) (place here : Place) (steps n so : ℕ) (o : Origin) → WentSo steps old cur → (followed (over old.width old.tape) (take steps old.earlier) place).origin ≡ Carried here →
    IsOrigin cur here n so o → IsOrigin old place (steps + n) (steps + so) o
way_to old cur place here steps n so o went carried told =
    let environment = over old.width old.tape in
    ap (λ (states : List State). followed environment states place) (longer old cur steps n went)
    ∙ followed_on environment (take steps old.earlier) (take n cur.earlier) place here carried
    ∙ ap₂ after_some went.count (ap (λ e. followed e (take n cur.earlier) here) (sym (ap₂ over went.same_width went.same_tape)) ∙ told)

-- ---- legs

-- so many legs carried a byte from a place to here, over so many steps
pub record Way (width : Width) (old cur : PlainSession) (place here : Place) (steps legs : ℕ) : Type 0 where
  pub walked : repeated Back steps old ≡ Some cur
  pub known : IsKnown width old place → (legs ≤ steps) × ((followed (over old.width old.tape) (take steps old.earlier) place).origin ≡ Carried here)
  -- the calls on it, and after them those that are on the way further back
  pub calls : IsKnown width old place → (post : List State) →
      passings (over old.width old.tape) (take steps old.earlier ++ post) 0 place place ≡ way_of old place steps ++ passings (over old.width old.tape) post steps here here

module _ (width : Width) (old cur : PlainSession) (place here : Place) (steps legs : ℕ) (way : Way width old cur place here steps legs) where
  went : WentSo steps old cur
  went = went_so steps old cur way.walked

  carries : IsKnown width old place → followed (over old.width old.tape) (take steps old.earlier) place ≡ record { carried = length (take steps old.earlier); origin = Carried here }
  carries known = all_carried (over old.width old.tape) (take steps old.earlier) place here (way.known known).1

  -- what is known of a session is known of it further back
  pub known_there : IsKnown width old place → IsKnown width cur here
  known_there known =
      let environment = over old.width old.tape in
      let pre = take steps old.earlier in
      let item = known.2.0 in
      let few : AreSteps environment pre old.last =
      last_steps environment pre cur.earlier old.last (subst (λ (states : List State). AreSteps environment states old.last) went.whole known.1.steps) in
      let told = subst (λ (f : Followed). IsOriginOf environment pre old.last f.carried f.origin item) (carries known) (followed_back environment pre old.last few place item known.2.1) in (
        known.0 ∙ sym went.same_width,
        repeated_trail Back steps old cur known.1 way.walked,
        (item, ap (λ (s : State). found_at s here) (sym went.last ∙ ap (λ k. state_back k old.last pre) (sym went.count)) ∙ told.1),
      )

  -- and so are more steps over which it is followed from here
  on : IsKnown width old place → (n so : ℕ) (o : Origin) → IsOrigin cur here n so o → IsOrigin old place (steps + n) (steps + so) o
  on known n so o told = way_to old cur place here steps n so o went (way.known known).1 told

  pub all_so_far : IsKnown width old place → AllCarried old place steps
  all_so_far known = (here, carries known ∙ ap (λ n. record { carried = n; origin = Carried here }) went.count)

  module _ (next : PlainSession) (most : ℕ) (found : Found) (h : repeated Back found.steps cur ≡ Some next) (leg : IsKnown width cur here → IsFollowed cur here most next found) where
    pub way_walked : repeated Back (steps + found.steps) old ≡ Some next
    way_walked = repeated-from Back steps found.steps old cur way.walked ∙ h

    -- the last step of the leg passed it on
    had : (s : State) (q : Place) → s ≡ next.last → LeadsTo s found.source q → IsKnown width old place → HadFrom cur next here found.steps q
    had s q is leads known = had_from cur next here most found.steps s is found.source q (leg (known_there known)).source leads

    -- the calls on the way after more steps
    longer_way : IsKnown width old place → (n : ℕ) (post : List State) →
        passings (over old.width old.tape) (take (steps + n) old.earlier ++ post) 0 place place
        ≡ way_of old place steps ++ passings (over cur.width cur.tape) (take n cur.earlier ++ post) steps here here
    longer_way known n post =
        let environment = over old.width old.tape in
        let legs : List State = take n cur.earlier in
        ap (λ (states : List State). passings environment (states ++ post) 0 place place) (longer old cur steps n went)
        ∙ ap (λ (states : List State). passings environment states 0 place place) (append_assoc (take steps old.earlier) legs post)
        ∙ way.calls known (legs ++ post)
        ∙ ap (λ e. way_of old place steps ++ passings e (legs ++ post) steps here here) (sym (ap₂ over went.same_width went.same_tape))

    -- they are these
    one_more_call : (s : State) (q : Place) → s ≡ next.last → LeadsTo s found.source q → IsKnown width old place →
        way_of old place (steps + found.steps) ≡ way_of old place steps ++ record { state = s; steps = steps + found.steps; from = here } ∷ []
    one_more_call s q is leads known =
        ap (λ (states : List State). passings (over old.width old.tape) states 0 place place) (sym (append-nil (take (steps + found.steps) old.earlier)))
        ∙ longer_way known found.steps []
        ∙ ap (λ (later : List Passing). way_of old place steps ++ later) (call_of_leg cur next here most found h (leg (known_there known)) s q is leads steps [])
        ∙ ap (λ (t : State). way_of old place steps ++ record { state = t; steps = steps + found.steps; from = here } ∷ []) (sym is)

    -- and no more where it ends
    no_more_calls : IsKnown width old place → way_of old place (told_steps (steps + found.steps) (end_of found.source)) ≡ way_of old place steps
    no_more_calls known =
        let n : ℕ = told_steps found.steps (end_of found.source) in
        ap (way_of old place) (told_further cur next here most found h (leg (known_there known)) steps)
        ∙ ap (λ (states : List State). passings (over old.width old.tape) states 0 place place) (sym (append-nil (take (steps + n) old.earlier)))
        ∙ longer_way known n []
        ∙ ap (λ (states : List State). way_of old place steps ++ passings (over cur.width cur.tape) states steps here here) (append-nil (take n cur.earlier))
        ∙ ap (λ (later : List Passing). way_of old place steps ++ later) (no_call_of_leg cur next here most found h (leg (known_there known)) steps)
        ∙ append-nil (way_of old place steps)

    pub way_goes_on : (s : State) (q : Place) → s ≡ next.last → LeadsTo s found.source q → Way width old next place q (steps + found.steps) (legs + 1)
    way_goes_on s q is leads = record {
      walked = way_walked;
      known = λ known.
          let from = had s q is leads known in
          (omega (arith, from.passed.1.1, (way.known known).0), ap (λ (f : Followed). f.origin) (on known found.steps found.steps (Carried q) from.origin));
      calls = λ known post.
          longer_way known found.steps post
          ∙ ap (λ (later : List Passing). way_of old place steps ++ later) (call_of_leg cur next here most found h (leg (known_there known)) s q is leads steps post)
          ∙ sym (append_assoc (way_of old place steps) (record { state = next.last; steps = steps + found.steps; from = here } ∷ []) (passings (over cur.width cur.tape) post (steps + found.steps) q q))
          ∙ ap (λ (t : State). (way_of old place steps ++ record { state = t; steps = steps + found.steps; from = here } ∷ []) ++ passings (over cur.width cur.tape) post (steps + found.steps) q q) (sym is)
          ∙ ap₂ (λ (way : List Passing) e. way ++ passings e post (steps + found.steps) q q) (sym (one_more_call s q is leads known)) (ap₂ over went.same_width went.same_tape);
    }

    -- how it may end
    pub way_ends : (all : ℕ) → steps ≤ all → most ≡ all - steps → IsNamed found.source → IsKnown width old place → IsEnd old place all next (steps + found.steps) (end_of found.source)
    way_ends all within is named known = go found.source named (leg there).source
      where
        there : IsKnown width cur here
        there = known_there known

        one_less : 0 < found.steps → (o : Origin) → IsOrigin cur here found.steps (found.steps - 1) o → IsOrigin old place (steps + found.steps) (steps + found.steps - 1) o
        one_less some o told = on known found.steps (found.steps - 1) o told ∙ ap (λ k. record { carried = k; origin = o }) (omega (arith, some))

        of_form : (q : Place) → is_in_storage q ≡ true → HadFrom cur next here found.steps q → WasOfForm old place (steps + found.steps) next
        of_form q stored from =
            let last = from.passed in
            (q, on known found.steps found.steps (Carried q) from.origin, stored, (steps + last.0, (last.1.0, omega (arith, last.1.1), on known last.0 last.0 (Carried last.1.0) last.1.2, last.1.3)))

        go : (source : code.Source) → IsNamed source → IsSource cur here most next found.steps source → IsEnd old place all next (steps + found.steps) (end_of source)
        go code.TheVariants.Nothing named told = absurd (told.1 there.2.0 there.2.1)
        go (code.TheVariants.Here q) named told = (
          (place_of q, on known found.steps found.steps (Carried (place_of q)) told.0),
          ⊎_elim (λ (n : found.steps ≡ most). inl (omega (arith, n, is, within))) (λ (none : next.earlier ≡ []). inr none) told.1,
        )
        go (code.TheVariants.Passed q) named told = inr (of_form (place_of q) named (had_there cur next here most found.steps q told))
        go (code.TheVariants.OfForm i) named told = inr (of_form (InForm (argument 1 told.0.0.arguments) i) refl (had_of_form cur next here most found.steps i told))
        go (code.TheVariants.Read n) named told = (omega (arith, told.0), one_less told.0 (Read n) told.1)
        go code.TheVariants.Made named told = (omega (arith, told.0), one_less told.0 Made told.1)
        go code.TheVariants.Memory named told = inl (
          omega (arith, told.0),
          (
            told.1.0,
            subst (λ n. IsOrigin old place n n (Carried told.1.0)) (omega (arith, told.0)) (on known (found.steps - 1) (found.steps - 1) (Carried told.1.0) told.1.1),
          ),
          told.2,
        )

    -- where a call passed it on
    module _ (s : State) (q : Place) (is : s ≡ next.last) (leads : LeadsTo s found.source q) (known : IsKnown width old place) where
      pub ends_untold : AllCarried old place (steps + found.steps)
      ends_untold = (q, on known found.steps found.steps (Carried q) (had s q is leads known).origin)

      module _ {W : Type 0} (passes : W → Passing → W → Type 0) (first before after : W) (told : ToldAll passes first (way_of old place steps) before) (there : Place) (same : there ≡ here) where
        -- the witness is told of it
        pub told_of_call : passes before (record { state = s; steps = steps + found.steps; from = there }) after → ToldAll passes first (way_of old place (steps + found.steps)) after
        told_of_call one =
            subst (λ way. ToldAll passes first way after) (sym (one_more_call s q is leads known))
            (told_more passes (way_of old place steps) (record { state = s; steps = steps + found.steps; from = here }) first before after told
            (subst (λ p. passes before (record { state = s; steps = steps + found.steps; from = p }) after) same one))

        -- or it refuses that
        pub told_before_call : (refuses : W → Passing → W → Type 0) → refuses before (record { state = s; steps = steps + found.steps; from = there }) after →
            IsTold passes refuses (way_of old place (steps + found.steps)) (steps + found.steps) ends.TheVariants.Untold first after
        told_before_call refuses one = (
          way_of old place steps,
          (
            record { state = s; steps = steps + found.steps; from = here },
            (before, one_more_call s q is leads known, refl, told, subst (λ p. refuses before (record { state = s; steps = steps + found.steps; from = p }) after) same one),
          ),
        )

    -- where it is followed no further, it is told of no more
    pub told_to_the_end : {W : Type 0} (passes refuses : W → Passing → W → Type 0) (first last : W) → IsKnown width old place → ToldAll passes first (way_of old place steps) last →
        IsTold passes refuses (way_of old place (told_steps (steps + found.steps) (end_of found.source))) (steps + found.steps) (end_of found.source) first last
    told_to_the_end {W} passes refuses first last known told =
        subst (λ way. IsTold passes refuses way (steps + found.steps) (end_of found.source) first last) (sym (no_more_calls known)) (go found.source)
      where
        go : (source : code.Source) → IsTold passes refuses (way_of old place steps) (steps + found.steps) (end_of source) first last
        go code.TheVariants.Nothing = told
        go (code.TheVariants.Here q) = told
        go (code.TheVariants.Read n) = told
        go code.TheVariants.Made = told
        go other = told

-- what was found, in a record
pub traced_so : (width : Width) (old new : PlainSession) (place : Place) (most steps : ℕ) (end : ends.End) (found : Traced) → found.steps ≡ steps → found.end ≡ end → IsKnown width old place →
    IsEnd old place most new steps end → IsTraced old place most new found
traced_so width old new place most steps end found count is known h = record {
  end = subst (λ n. IsEnd old place most new n found.end) (sym count) (subst (λ e. IsEnd old place most new steps e) (sym is) h);
  nothing = λ bare. absurd (bare known.2.0 known.2.1);
}

-- who was told, in a record
pub told_so : {W : Type 0} (passes refuses : W → Passing → W → Type 0) (old : PlainSession) (place : Place) (steps : ℕ) (end : ends.End) (first last : W) (found : Traced) → found.steps ≡ steps → found.end ≡ end →
    IsTold passes refuses (way_of old place (told_steps steps end)) steps end first last → IsTold passes refuses (way_of old place (told_steps found.steps found.end)) found.steps found.end first last
told_so passes refuses old place steps end first last found count is h =
    subst (λ n. IsTold passes refuses (way_of old place (told_steps n found.end)) n found.end first last) (sym count)
    (subst (λ e. IsTold passes refuses (way_of old place (told_steps steps e)) steps e first last) (sym is) h)

-- after as many legs as steps were wanted
pub way_is_long : (width : Width) (old cur : PlainSession) (place here : Place) (steps most : ℕ) → Way width old cur place here steps most → steps ≤ most → IsKnown width old place →
    IsEnd old place most cur steps ends.TheVariants.Earlier
way_is_long width old cur place here steps most way within known =
    (all_so_far width old cur place here steps most way known, inl (omega (arith, (way.known known).0, within)))
