-- The calls on the way of a byte over the steps of a leg.
use Rattle.std.proofs.Common.{◌≡◌, ℕ, suc, ◌+◌, ◌-◌, ◌<◌, false, not, List, [], ◌∷◌, ◌++◌, length, take, refl, sym, ap, ap₂, subst, ◌∙◌, arith, Some, append-nil, append_assoc, length-append}
use Rattle.std.proofs.lemmas.Bool.{cond-true, cond-false, false_from_ne_true, true≢false}
use Rattle.trac_rules.specs.Effect.{argument}
use Rattle.trac_rules.specs.Scanning.{scan}
use Rattle.trac_rules.specs.Session.{PlainSession, Back, over, repeated}
use Rattle.trac_rules.specs.State.{Environment, State}
use Rattle.trac_origins.specs.Following.{Followed, followed, going_back}
use Rattle.trac_origins.specs.Places.{Place, InHeld, InForm, Origin, Carried, Read, Made}
use Rattle.trac_origins.specs.Stepping.{origin}
use Rattle.trac_follow.specs.declared.history.Followed.{Followed as Found}
use Rattle.trac_follow.specs.declared.history.Source as code
use Rattle.trac_follow_step.specs.declared.place.Place as code_place
use Rattle.trac_follow.specs.Following.{IsFollowed, IsOrigin, IsSource, quiet_steps}
use Rattle.trac_follow.specs.Passing.{IsUnpassed, Passing, UnpassedBy, passed_by, passings}
use Rattle.trac_follow_step.specs.Places.{IsPassed, is_in_storage, is_passed, place_of}
use Rattle.trac_follow.specs.Tracing.{LeadsTo, ToldAll, WasPassed, end_of, told_steps}
use Rattle.trac_follow.proofs.StepsBack.{followed_on, last_of_all, went_so}

-- ---- steps that pass nothing on

-- no call is among them
quiet : (environment : Environment) (pre post : List State) (k : ℕ) (from place here : Place) → (followed environment pre place).origin ≡ Carried here → IsUnpassed environment pre place →
    passings environment (pre ++ post) k from place ≡ passings environment post (k + length pre) from here
quiet environment [] post k from place here e unpassed =
    let same : place ≡ here = cc in
    ap (passings environment post k from) same ∙ ap (λ n. passings environment post n from here) (omega arith)
quiet environment (s ∷ pre) post k from place here e unpassed = go (origin environment s place) e unpassed (λ r h less. quiet environment pre post (k + 1) from r here h less)
  where
    go : (o : Origin) → (going_back o (λ r. followed environment pre r)).origin ≡ Carried here → UnpassedBy s place o (λ r. IsUnpassed environment pre r) →
        ((r : Place) → (followed environment pre r).origin ≡ Carried here → IsUnpassed environment pre r →
        passings environment (pre ++ post) (k + 1) from r ≡ passings environment post (k + 1 + length pre) from here) →
        passed_by s (k + 1) from place o (λ next r. passings environment (pre ++ post) (k + 1) next r) ≡ passings environment post (k + length (s ∷ pre)) from here
    go (Carried r) h less further =
        cond-false (is_passed s place r) (record { state = s; steps = k + 1; from = from } ∷ passings environment (pre ++ post) (k + 1) r r) (passings environment (pre ++ post) (k + 1) from r) (false_from_ne_true (is_passed s place r) less.0)
        ∙ further r h less.1
        ∙ ap (λ n. passings environment post n from here) (omega arith)
    go other h less further = absurd (cc)

-- the step from which a byte comes is none
no_more : (s : State) (k : ℕ) (from place : Place) (o p : Origin) (more : Place → Followed) (later : Place → Place → List Passing) → going_back o more ≡ record { carried = 0; origin = p } → passed_by s k from place o later ≡ []
no_more s k from place (Carried q) p more later e = absurd (let n : suc (more q).carried ≡ 0 = ap (λ (f : Followed). f.carried) e in omega (arith, n))
no_more s k from place other p more later e = refl

-- nor are those after it that only carried the byte
silent : (environment : Environment) (pre : List State) (s : State) (k : ℕ) (from place : Place) (o : Origin) → followed environment (pre ++ s ∷ []) place ≡ record { carried = length pre; origin = o } →
    IsUnpassed environment pre place → passings environment (pre ++ s ∷ []) k from place ≡ []
silent environment [] s k from place o e unpassed =
    no_more s (k + 1) from place (origin environment s place) o (λ q. followed environment [] q) (λ next there. passings environment [] (k + 1) next there) e
silent environment (u ∷ pre) s k from place o e unpassed = go (origin environment u place) e unpassed (λ r h less. silent environment pre s (k + 1) from r o h less)
  where
    go : (p : Origin) → going_back p (λ r. followed environment (pre ++ s ∷ []) r) ≡ record { carried = length (u ∷ pre); origin = o } → UnpassedBy u place p (λ r. IsUnpassed environment pre r) →
        ((r : Place) → followed environment (pre ++ s ∷ []) r ≡ record { carried = length pre; origin = o } → IsUnpassed environment pre r → passings environment (pre ++ s ∷ []) (k + 1) from r ≡ []) →
        passed_by u (k + 1) from place p (λ next r. passings environment (pre ++ s ∷ []) (k + 1) next r) ≡ []
    go (Carried r) h less further =
        let count : suc (followed environment (pre ++ s ∷ []) r).carried ≡ suc (length pre) = ap (λ (f : Followed). f.carried) h in
        let here : (followed environment (pre ++ s ∷ []) r).origin ≡ o = ap (λ (f : Followed). f.origin) h in
        let same : followed environment (pre ++ s ∷ []) r ≡ record { carried = length pre; origin = o } = ap₂ (λ n p. let f : Followed = record { carried = n; origin = p } in f) (omega (arith, count)) here in
        cond-false (is_passed u place r) (record { state = u; steps = k + 1; from = from } ∷ passings environment (pre ++ s ∷ []) (k + 1) r r) (passings environment (pre ++ s ∷ []) (k + 1) from r) (false_from_ne_true (is_passed u place r) less.0)
        ∙ further r same less.1
    go other h less further = absurd (let n : 0 ≡ suc (length pre) = ap (λ (f : Followed). f.carried) h in omega (arith, n))

-- ---- a leg to a call

-- what one step carried came from there
carried_once : (o : Origin) (q : Place) → (going_back o (λ r. record { carried = 0; origin = Carried r })).origin ≡ Carried q → o ≡ Carried q
carried_once (Carried r) q e = e
carried_once (Read n) q e = e
carried_once Made q e = e

-- after steps that pass nothing on comes one that does
one_call : (environment : Environment) (pre post : List State) (s : State) (k : ℕ) (from place here there : Place) → (followed environment pre place).origin ≡ Carried here → IsUnpassed environment pre place →
    (followed environment (pre ++ s ∷ []) place).origin ≡ Carried there → IsPassed s here there →
    passings environment (pre ++ s ∷ post) k from place ≡ record { state = s; steps = k + length pre + 1; from = from } ∷ passings environment post (k + length pre + 1) there there
one_call environment pre post s k from place here there e unpassed all passed =
    let once : (followed environment (s ∷ []) here).origin ≡ Carried there = ap (λ (f : Followed). f.origin) (sym (followed_on environment pre (s ∷ []) place here e)) ∙ all in
    let step : origin environment s here ≡ Carried there = carried_once (origin environment s here) there once in
    let steps = k + length pre + 1 in
    quiet environment pre (s ∷ post) k from place here e unpassed
    ∙ ap (λ o. passed_by s steps from here o (λ next r. passings environment post steps next r)) step
    ∙ cond-true (is_passed s here there) (record { state = s; steps = steps; from = from } ∷ passings environment post steps there there) (passings environment post steps from there) passed

-- ---- from where a call passed it on

-- what stands in no form and in no block was passed on, where a call took it out of a form
taken_out : (s : State) (here : Place) (name : List ℕ) (i : ℕ) → is_in_storage here ≡ false → IsPassed s here (InForm name i)
taken_out s (InForm other k) name i aside = absurd (true≢false aside)
taken_out s (InHeld number other k) name i aside = refl
taken_out s here name i aside = ap not aside

-- the last of so many steps passed on what it had from this place, from where it is followed further
pub record HadFrom (cur next : PlainSession) (here : Place) (steps : ℕ) (q : Place) : Type 0 where
  pub origin : IsOrigin cur here steps steps (Carried q)
  pub passed : WasPassed cur here steps next q

module _ (cur next : PlainSession) (here : Place) (most steps : ℕ) where
  pub had_there : (p : code_place.Place) → IsSource cur here most next steps (code.TheVariants.Passed p) → HadFrom cur next here steps (place_of p)
  had_there p told = record { origin = told.0; passed = (told.1.0, (told.1.1.0, told.1.1.1, told.1.1.2, told.1.1.3)) }

  pub had_of_form : (i : ℕ) (told : IsSource cur here most next steps (code.TheVariants.OfForm i)) → HadFrom cur next here steps (InForm (argument 1 told.0.0.arguments) i)
  had_of_form i told = record {
    origin = told.0.2;
    passed = (told.1.0, (told.1.1.0, told.1.1.1, told.1.1.2, taken_out next.last told.1.1.0 (argument 1 told.0.0.arguments) i told.1.1.3));
  }

  pub had_from : (s : State) → s ≡ next.last → (source : code.Source) (q : Place) → IsSource cur here most next steps source → LeadsTo s source q → HadFrom cur next here steps q
  had_from s is (code.TheVariants.Passed p) q told leads = subst (HadFrom cur next here steps) (sym leads) (had_there p told)
  had_from s is (code.TheVariants.OfForm i) q told leads = subst (HadFrom cur next here steps) (sym (leads told.0.0 (ap scan is ∙ told.0.1))) (had_of_form i told)
  had_from s is other q told leads = absurd leads

-- no step before the last one passed it on
quiet_before : (steps : ℕ) (s : State) (source : code.Source) (q : Place) → LeadsTo s source q → quiet_steps steps source ≡ steps - 1
quiet_before steps s (code.TheVariants.Here p) q leads = absurd leads
quiet_before steps s other q leads = refl

-- ---- the calls of a leg

module _ (cur next : PlainSession) (here : Place) (most : ℕ) (found : Found) (h : repeated Back found.steps cur ≡ Some next) (leg : IsFollowed cur here most next found) where
  abbrev environment : Environment
  environment = over cur.width cur.tape

  -- the last step of the leg is from the state to which it leads
  split : (before : ℕ) → found.steps ≡ suc before → take found.steps cur.earlier ≡ take before cur.earlier ++ next.last ∷ []
  split before is = ap (λ n. take n cur.earlier) is ∙ last_of_all before cur next (subst (λ n. repeated Back n cur ≡ Some next) is h)

  count : (before : ℕ) → found.steps ≡ suc before → length (take before cur.earlier) ≡ before
  count before is =
      let all : length (take before cur.earlier ++ next.last ∷ []) ≡ found.steps =
      ap (λ (states : List State). length states) (sym (split before is)) ∙ (went_so found.steps cur next h).count in
      omega (arith, all, is, length-append (take before cur.earlier) (next.last ∷ []))

  -- one call, from where the byte is followed further
  pub call_of_leg : (s : State) (q : Place) → s ≡ next.last → LeadsTo s found.source q → (k : ℕ) (post : List State) →
      passings environment (take found.steps cur.earlier ++ post) k here here
      ≡ record { state = next.last; steps = k + found.steps; from = here } ∷ passings environment post (k + found.steps) q q
  call_of_leg s q is leads k post =
      let had = had_from cur next here most found.steps s is found.source q leg.source leads in
      let before : ℕ = had.passed.0 in
      let there : Place = had.passed.1.0 in
      let last : found.steps ≡ suc before = omega (arith, had.passed.1.1) in
      let pre = take before cur.earlier in
      let steps : k + length pre + 1 ≡ k + found.steps = omega (arith, last, count before last) in
      let unpassed : quiet_steps found.steps found.source ≡ before = quiet_before found.steps s found.source q leads ∙ omega (arith, last) in
      ap (λ (states : List State). passings environment (states ++ post) k here here) (split before last)
      ∙ ap (λ (states : List State). passings environment states k here here) (append_assoc pre (next.last ∷ []) post)
      ∙ one_call environment pre post next.last k here here there q (ap (λ (f : Followed). f.origin) had.passed.1.2)
      (subst (λ n. IsUnpassed environment (take n cur.earlier) here) unpassed leg.unpassed)
      (ap (λ (states : List State). (followed environment states here).origin) (sym (split before last)) ∙ ap (λ (f : Followed). f.origin) had.origin) had.passed.1.3
      ∙ ap (λ n. record { state = next.last; steps = n; from = here } ∷ passings environment post n q q) steps

  from_there : (k : ℕ) (o : Origin) → 0 < found.steps → IsOrigin cur here found.steps (found.steps - 1) o → IsUnpassed environment (take (found.steps - 1) cur.earlier) here →
      passings environment (take found.steps cur.earlier) k here here ≡ []
  from_there k o some told unpassed =
      let before = found.steps - 1 in
      let one : found.steps ≡ suc before = omega (arith, some) in
      ap (λ (states : List State). passings environment states k here here) (split before one)
      ∙ silent environment (take before cur.earlier) next.last k here here o
      (ap (λ (states : List State). followed environment states here) (sym (split before one)) ∙ told ∙ ap (λ n. record { carried = n; origin = o }) (sym (count before one))) unpassed

  -- none over steps that all carried it on
  none_over : (n k : ℕ) (q : Place) (told : IsOrigin cur here n n (Carried q)) → IsUnpassed environment (take n cur.earlier) here → passings environment (take n cur.earlier) k here here ≡ []
  none_over n k q told unpassed =
      ap (λ (states : List State). passings environment states k here here) (sym (append-nil (take n cur.earlier)))
      ∙ quiet environment (take n cur.earlier) [] k here here q (ap (λ (f : Followed). f.origin) told) unpassed

  -- none before a step that has it from elsewhere
  none_before : (before k : ℕ) (q : Place) → found.steps ≡ before + 1 → IsOrigin cur here before before (Carried q) → IsUnpassed environment (take (found.steps - 1) cur.earlier) here →
      passings environment (take (found.steps - 1) cur.earlier) k here here ≡ []
  none_before before k q more told = none_over (found.steps - 1) k q (subst (λ n. IsOrigin cur here n n (Carried q)) (omega (arith, more)) told)

  -- none where it is followed no further
  pub no_call_of_leg : (k : ℕ) → passings environment (take (told_steps found.steps (end_of found.source)) cur.earlier) k here here ≡ []
  no_call_of_leg k = go found.source leg.source leg.unpassed
    where
      go : (source : code.Source) → IsSource cur here most next found.steps source → IsUnpassed environment (take (quiet_steps found.steps source) cur.earlier) here →
          passings environment (take (told_steps found.steps (end_of source)) cur.earlier) k here here ≡ []
      go code.TheVariants.Nothing told unpassed = ap (λ n. passings environment (take n cur.earlier) k here here) told.0
      go (code.TheVariants.Here q) told unpassed = none_over found.steps k (place_of q) told.0 unpassed
      go (code.TheVariants.Passed q) told unpassed = none_before told.1.0 k told.1.1.0 told.1.1.1 told.1.1.2 unpassed
      go (code.TheVariants.OfForm i) told unpassed = none_before told.1.0 k told.1.1.0 told.1.1.1 told.1.1.2 unpassed
      go (code.TheVariants.Read n) told unpassed = from_there k (Read n) told.0 told.1 unpassed
      go code.TheVariants.Made told unpassed = from_there k Made told.0 told.1 unpassed
      go code.TheVariants.Memory told unpassed = none_over (found.steps - 1) k told.1.0 told.1.1 unpassed

  -- over how many steps it is told of calls, after some more
  pub told_further : (steps : ℕ) → told_steps (steps + found.steps) (end_of found.source) ≡ steps + told_steps found.steps (end_of found.source)
  told_further steps = go found.source leg.source
    where
      go : (source : code.Source) → IsSource cur here most next found.steps source → told_steps (steps + found.steps) (end_of source) ≡ steps + told_steps found.steps (end_of source)
      go (code.TheVariants.Passed q) told = omega (arith, told.1.1.1)
      go (code.TheVariants.OfForm i) told = omega (arith, told.1.1.1)
      go code.TheVariants.Memory told = omega (arith, told.0)
      go other told = refl

-- ---- a witness

-- that was told of some calls is told of one more
pub told_more : {W : Type 0} (passes : W → Passing → W → Type 0) (way : List Passing) (p : Passing) (old m new : W) → ToldAll passes old way m → passes m p new → ToldAll passes old (way ++ p ∷ []) new
told_more passes [] p old m new told one = (new, subst (λ w. passes w p new) told one, refl)
told_more passes (q ∷ way) p old m new told one = (told.0, told.1, told_more passes way p told.0 m new told.2 one)
