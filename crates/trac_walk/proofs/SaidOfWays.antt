-- Calls of which a witness was told one after another.
use Rattle.std.proofs.Common.{◌≡◌, ℕ, ◌+◌, ◌-◌, ◌^◌, ◌<◌, ◌≤◌, List, [], ◌∷◌, ◌++◌, length, map, min, take, refl, sym, ap, subst, ◌∙◌, arith, ⊎_elim}
use Rattle.std.specs.Prelude.{nat_lt, if◌then◌else◌}
use Rattle.std.proofs.lemmas.Bool.{cases_lt, le-ltb, lt-ltb}
use Rattle.std.proofs.lemmas.List.{append-nil, append_assoc, length-append, length-map, map-append, take-append-le, take-map, take-take}
use Rattle.trac_follow.specs.declared.tracing.End as ends
use Rattle.trac_follow.specs.Passing.{Passing}
use Rattle.trac_follow.specs.Tracing.{IsTold, ToldAll}
use Rattle.trac_replies.specs.declared.telling.TheConstants.{LINE_COUNT}
use Rattle.trac_walk.specs.declared.calls_told.TheConstants.{FIRST_COUNT}
use Rattle.trac_walk.specs.declared.calls_told.Told.{Told}
use Rattle.trac_walk.specs.declared.calls_told.Way.{Way}
use Rattle.trac_walk.specs.Ways.{AreTold, Deed, HasTold, Tells, deed_at, deed_of, deeds_said, shown}

-- of lists of deeds: what is said after one more is what is shown of all
more_said : (n : ℕ) (all : List Deed) (deed : Deed) → length all ≡ n →
    (if nat_lt (n + 1) LINE_COUNT then shown n all ++ deed ∷ [] else take FIRST_COUNT (shown n all)) ≡ shown (n + 1) (all ++ deed ∷ [])
more_said n all deed count = ⊎_elim few many (cases_lt (n + 1) LINE_COUNT)
  where
    one_more : List Deed
    one_more = all ++ deed ∷ []

    few : n + 1 < LINE_COUNT → (if nat_lt (n + 1) LINE_COUNT then shown n all ++ deed ∷ [] else take FIRST_COUNT (shown n all)) ≡ shown (n + 1) (all ++ deed ∷ [])
    few l =
        let whole : shown n all ≡ all = ap (λ b. if b then all else take FIRST_COUNT all) (lt-ltb n LINE_COUNT (omega (arith, l))) in
        ap (λ b. if b then shown n all ++ deed ∷ [] else take FIRST_COUNT (shown n all)) (lt-ltb (n + 1) LINE_COUNT l)
        ∙ ap (λ (deeds : List Deed). deeds ++ deed ∷ []) whole
        ∙ sym (ap (λ b. if b then all ++ deed ∷ [] else take FIRST_COUNT (all ++ deed ∷ [])) (lt-ltb (n + 1) LINE_COUNT l))

    first_shown : LINE_COUNT ≤ n + 1 → take FIRST_COUNT (shown n all) ≡ take FIRST_COUNT all
    first_shown l = ⊎_elim
        (λ (last : n < LINE_COUNT). ap (λ b. take FIRST_COUNT (if b then all else take FIRST_COUNT all)) (lt-ltb n LINE_COUNT last))
        (λ (over : LINE_COUNT ≤ n). ap (λ b. take FIRST_COUNT (if b then all else take FIRST_COUNT all)) (le-ltb n LINE_COUNT over) ∙ take-take FIRST_COUNT FIRST_COUNT all (omega arith))
        (cases_lt n LINE_COUNT)

    many : LINE_COUNT ≤ n + 1 → (if nat_lt (n + 1) LINE_COUNT then shown n all ++ deed ∷ [] else take FIRST_COUNT (shown n all)) ≡ shown (n + 1) (all ++ deed ∷ [])
    many l =
        ap (λ b. if b then shown n all ++ deed ∷ [] else take FIRST_COUNT (shown n all)) (le-ltb (n + 1) LINE_COUNT l)
        ∙ first_shown l
        ∙ sym (take-append-le FIRST_COUNT all (deed ∷ []) (omega (arith, l, count)))
        ∙ sym (ap (λ b. if b then all ++ deed ∷ [] else take FIRST_COUNT (all ++ deed ∷ [])) (le-ltb (n + 1) LINE_COUNT l))

-- ---- the witness

module _ {A : Type 0} (old new : Way A) (call : Passing) (begins : new.step ≡ old.step) (count : new.count ≡ min (old.count + 1) (2 ^ 64 - 1)) where
  -- a call that is not shown
  pub tells_no_more : LINE_COUNT ≤ new.count → new.told.items ≡ take FIRST_COUNT old.told.items → Tells old call new
  tells_no_more many kept = record {
    begins = begins;
    count = count;
    said =
        ap (map (λ (told : Told A). record { step = told.step; done = told.deed })) kept
        ∙ sym (take-map (λ (told : Told A). record { step = told.step; done = told.deed }) FIRST_COUNT old.told.items)
        ∙ sym (ap (λ b. if b then deeds_said old ++ deed_of old.step call ∷ [] else take FIRST_COUNT (deeds_said old)) (le-ltb new.count LINE_COUNT many));
  }

  -- one that is
  pub tells_more : (told : Told A) → new.count < LINE_COUNT → new.told.items ≡ old.told.items ++ told ∷ [] → told.step ≡ old.step - call.steps → told.deed ≡ deed_at call.from → Tells old call new
  tells_more told few pushed at deed = record {
    begins = begins;
    count = count;
    said =
        ap (map (λ (t : Told A). record { step = t.step; done = t.deed })) pushed
        ∙ map-append (λ (t : Told A). record { step = t.step; done = t.deed }) old.told.items (told ∷ [])
        ∙ (λ i. deeds_said old ++ record { step = at i; done = deed i } ∷ [])
        ∙ sym (ap (λ b. if b then deeds_said old ++ deed_of old.step call ∷ [] else take FIRST_COUNT (deeds_said old)) (lt-ltb new.count LINE_COUNT few));
  }

-- ---- calls one after another

module _ {A : Type 0} (step : ℕ) where
  -- one call more
  told_one : (calls : List Passing) (call : Passing) (old new : Way A) → HasTold step calls old → Tells old call new → HasTold step (calls ++ call ∷ []) new
  told_one calls call old new has tells =
      let n : ℕ = length calls in
      let all : List Deed = map (deed_of step) calls in
      let deed : Deed = deed_of step call in
      let longer : length (calls ++ call ∷ []) ≡ n + 1 = length-append calls (call ∷ []) in
      let same : nat_lt new.count LINE_COUNT ≡ nat_lt (n + 1) LINE_COUNT = ⊎_elim
      (λ (l : n + 1 < LINE_COUNT). lt-ltb new.count LINE_COUNT (omega (arith, l, tells.count, has.count)) ∙ sym (lt-ltb (n + 1) LINE_COUNT l))
      (λ (l : LINE_COUNT ≤ n + 1). le-ltb new.count LINE_COUNT (omega (arith, l, tells.count, has.count)) ∙ sym (le-ltb (n + 1) LINE_COUNT l))
      (cases_lt (n + 1) LINE_COUNT) in
      record {
        begins = tells.begins ∙ has.begins;
        count = omega (arith, tells.count, has.count, longer);
        said =
            tells.said
            ∙ ap (λ b. if b then deeds_said old ++ deed_of old.step call ∷ [] else take FIRST_COUNT (deeds_said old)) same
            ∙ ap (λ s. if nat_lt (n + 1) LINE_COUNT then deeds_said old ++ deed_of s call ∷ [] else take FIRST_COUNT (deeds_said old)) has.begins
            ∙ ap (λ (said : List Deed). if nat_lt (n + 1) LINE_COUNT then said ++ deed ∷ [] else take FIRST_COUNT said) has.said
            ∙ more_said n all deed (length-map calls (deed_of step))
            ∙ ap (λ k. shown k (all ++ deed ∷ [])) (sym longer)
            ∙ ap (shown (length (calls ++ call ∷ []))) (sym (map-append (deed_of step) calls (call ∷ [])));
      }

  -- before the first
  pub nothing_told : (way : Way A) → way.step ≡ step → way.count ≡ 0 → way.told.items ≡ [] → HasTold step [] way
  nothing_told way begins none empty = record {
    begins = begins;
    count = none;
    said = ap (map (λ (told : Told A). record { step = told.step; done = told.deed })) empty;
  }

  -- and all of them
  told_all : (before calls : List Passing) (old new : Way A) → HasTold step before old → ToldAll (λ way call next. Tells way call next) old calls new → HasTold step (before ++ calls) new
  told_all before [] old new has told =
      subst (λ (way : Way A). HasTold step (before ++ []) way) (sym told) (subst (λ (calls : List Passing). HasTold step calls old) (sym (append-nil before)) has)
  told_all before (call ∷ later) old new has told =
      subst (λ (calls : List Passing). HasTold step calls new) (append_assoc before (call ∷ []) later)
      (told_all (before ++ call ∷ []) later told.0 new (told_one before call old told.0 has told.1) told.2)

  -- after a trace
  pub are_told : (refuses : Way A → Passing → Way A → Type 0) (calls : List Passing) (steps : ℕ) (end : ends.End) (first last : Way A) →
      HasTold step [] first → IsTold (λ way call next. Tells way call next) refuses calls steps end first last → AreTold step calls end last
  are_told refuses calls steps ends.TheVariants.Untold first last none told = λ other. absurd (other refl)
  are_told refuses calls steps end first last none told = λ other. told_all [] calls first last none told
