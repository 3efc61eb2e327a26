-- What a search within the room that there is answers.
use Rattle.std.proofs.Common.{◌≡◌, ℕ, ◌+◌, ◌-◌, ◌<◌, ◌≤◌, refl, subst, arith, ⊎_elim}
use Rattle.std.proofs.lemmas.Bool.{cases_lt}
use Rattle.std.specs.Prelude.{Option, None, Some}
use Rattle.trac_rules.specs.declared.refusal.Refusal.{Refusal}
use Rattle.trac_rules.specs.declared.refusal.Refusal.TheVariants.{JournalFull, NotMet}
use Rattle.trac_rules.specs.Session.{PlainSession, Goal}
use Rattle.trac_rules.specs.Weights.{weights_from}
use Rattle.trac_session.specs.Within.{IsSearchWithin}
use Rattle.trac_moves.specs.declared.searching.Search.{Search}
use Rattle.trac_moves.specs.declared.searching.Search.TheVariants.{Met, Unmet}
use Rattle.trac_moves.specs.Searches.{HasWalked, IsAnswered, IsAsNear, IsReason, found_by, near_weight}
use Rattle.trac_moves.proofs.SearchedOn.{IsUnmet, gone_on, searched_wider, stopped_there}

-- ---- what is answered

answered : (steps : ℕ) (why : Option Refusal) (there : PlainSession) → IsAnswered steps why there (found_by steps why) there
answered steps None there = (refl, refl)
answered steps (Some JournalFull) there = tt
answered steps (Some refusal) there = refl

-- of a search what it found
as_found : (weight : ℕ) (goal : Goal) (room most steps : ℕ) (why : Option Refusal) (old there : PlainSession) → HasWalked weight goal room most old steps why there →
    IsAsNear weight goal room most old (found_by steps why) there
as_found weight goal room most steps why old there walked = (steps, why, there, walked, answered steps why there)

-- it met its goal
pub near_met : {weight : ℕ} {goal : Goal} {room most : ℕ} {why : Option Refusal} {old new : PlainSession} (steps : ℕ) → IsAsNear weight goal room most old (found_by steps why) new → why ≡ None →
    IsAsNear weight goal room most old Met new
near_met {weight} {goal} {room} {most} {why} {old} {new} steps near none = subst (λ w. IsAsNear weight goal room most old (found_by steps w) new) none near

-- a step was refused, and wherever the session is then
elsewhere : (steps k : ℕ) (why : Option Refusal) (refusal : Refusal) (there new last : PlainSession) → IsAnswered steps why there (Unmet refusal k) new → IsAnswered steps why there (Unmet refusal k) last
elsewhere steps k None refusal there new last answered = let no = answered.0 in absurd (cc)
elsewhere steps k (Some JournalFull) refusal there new last answered = tt
elsewhere steps k (Some other) refusal there new last answered = answered

pub near_unmet : {weight : ℕ} {goal : Goal} {room most : ℕ} {why : Option Refusal} {old new : PlainSession} (steps : ℕ) (refusal : Refusal) (last : PlainSession) →
    IsAsNear weight goal room most old (found_by steps why) new → why ≡ Some refusal → IsAsNear weight goal room most old (Unmet refusal steps) last
near_unmet {weight} {goal} {room} {most} {why} {old} {new} steps refusal last near is =
    let at : IsAsNear weight goal room most old (Unmet refusal steps) new = subst (λ w. IsAsNear weight goal room most old (found_by steps w) new) is near in
    (at.0, at.1, at.2, at.3, elsewhere at.0 steps at.1 refusal at.2 new last at.4)

-- where it lacked room, whatever is answered in its place
lacking : (steps k : ℕ) (why : Option Refusal) (there new : PlainSession) (found : Search) (last : PlainSession) → IsAnswered steps why there (Unmet JournalFull k) new →
    IsAnswered steps why there found last
lacking steps k None there new found last answered = let no = answered.0 in absurd (cc)
lacking steps k (Some JournalFull) there new found last answered = tt
lacking steps k (Some other) there new found last answered = absurd (cc)

pub near_far : {weight : ℕ} {goal : Goal} {room most k : ℕ} {old new : PlainSession} {refusal : Refusal} (found : Search) (last : PlainSession) → refusal ≡ JournalFull →
    IsAsNear weight goal room most old (Unmet refusal k) new → IsAsNear weight goal room most old found last
near_far {weight} {goal} {room} {most} {k} {old} {new} {refusal} found last full near =
    (near.0, near.1, near.2, near.3, lacking near.0 k near.1 near.2 new found last (subst (λ r. IsAnswered near.0 near.1 near.2 (Unmet r k) new) full near.4))

-- ---- in one leg, or in two

-- it met its goal in the first, or was refused
pub near_first : (weight more : ℕ) (goal : Goal) (n room most steps : ℕ) (old new : PlainSession) (said why : Option Refusal) → weight ≤ more → n ≤ room →
    (said ≡ Some NotMet → ⊥) → IsSearchWithin weight goal n old steps said new → IsReason steps most said why → IsAsNear more goal room most old (found_by steps why) new
near_first weight more goal n room most steps old new said why less longer ended search reason =
    as_found more goal room most steps why old new
    (said, searched_wider weight more goal n room steps old new said less longer (λ is. absurd (ended is)) search, reason)

-- it met nothing there, and lacks room for the steps that are left
lacking_room : (weight : ℕ) (goal : Goal) (room most m : ℕ) (old mid new : PlainSession) (found : Search) → m < most → IsSearchWithin weight goal room old m (Some NotMet) mid →
    IsAsNear weight goal room most old found new
lacking_room weight goal room most m old mid new found fewer search =
    (m, Some JournalFull, mid, (Some NotMet, search, (λ l. refl, λ all. absurd (omega (arith, fewer, all)))), tt)

-- the first leg met nothing, and then the second one ended so: of so many steps at most (`n`), while the records weigh no
-- more than `bound`
module _ (light weight : ℕ) (goal : Goal) (room most m n bound k : ℕ) (old mid new : PlainSession) (said why : Option Refusal) (less : light ≤ weight) (few : room ≤ most)
    (begun : weights_from old.earlier ≤ light) (first : IsUnmet light goal room old m mid) (kept : m < room → (n ≡ room - m) × (bound ≡ weight))
    (others : room ≤ m → (n ≡ most - m) × (bound ≡ light)) (within : k ≤ n) (going : weights_from mid.earlier ≤ bound → IsSearchWithin bound goal n mid k said new)
    (stopped : bound < weights_from mid.earlier → (k ≡ 0) × (said ≡ Some NotMet) × (new ≡ mid)) (reason : IsReason (m + k) most said why) where
  -- both legs are one search
  in_one : (w all : ℕ) → bound ≡ w → light ≤ w → m + n ≡ all → IsSearchWithin w goal all old (m + k) said new
  in_one w all is more sum =
      subst (λ j. IsSearchWithin w goal j old (m + k) said new) sum
      (gone_on w goal m old mid first.on (λ some. omega (arith, first.light some, more)) n k new said (omega (arith, begun, more))
      (λ room. subst (λ b. IsSearchWithin b goal n mid k said new) is (going (omega (arith, room, is))))
      (λ heavy. stopped (omega (arith, heavy, is))))

  -- over all that is wanted
  on_light : room ≤ m → IsSearchWithin light goal most old (m + k) said new
  on_light all = let rest = others all in in_one light most rest.1 (omega arith) (omega (arith, rest.0, first.within, few))

  pub near_second : IsAsNear light goal most most old (found_by (m + k) why) new
  near_second = ⊎_elim
      (λ (left : m < room).
      lacking_room light goal most most m old mid new (found_by (m + k) why) (omega (arith, left, few))
      (stopped_there light goal m old mid first.on first.light most (omega (arith, left, few)) (λ fewer. first.heavy left)))
      (λ (all : room ≤ m). as_found light goal most most (m + k) why old new (said, on_light all, reason))
      (cases_lt m room)

  pub kept_second : IsAsNear weight goal room most old (found_by (m + k) why) new
  kept_second = ⊎_elim
      (λ (left : m < room).
      let rest = kept left in
      as_found weight goal room most (m + k) why old new (said, in_one weight room rest.1 less (omega (arith, rest.0, left)), reason))
      (λ (all : room ≤ m). ⊎_elim
      (λ (fewer : m < most).
      lacking_room weight goal room most m old mid new (found_by (m + k) why) fewer
      (stopped_there weight goal m old mid first.on (λ some. omega (arith, first.light some, less)) room first.within (λ left. absurd (omega (arith, left, all)))))
      (λ (whole : most ≤ m).
      let same : most ≡ room = omega (arith, whole, few, first.within) in
      let rest = others all in
      as_found weight goal room most (m + k) why old new (
        said,
        subst (λ j. IsSearchWithin weight goal j old (m + k) said new) same
            (searched_wider light weight goal most most (m + k) old new said less (omega arith) (λ is. omega (arith, whole, rest.0, within, few, first.within)) (on_light all)),
        reason,
      ))
      (cases_lt m most))
      (cases_lt m room)

-- ---- of the whole search

-- of records that weigh no more than they may in all
pub near_at : {most_weight w : ℕ} {goal : Goal} {most : ℕ} {old new : PlainSession} {found : Search} → w ≡ near_weight most_weight old →
    (weights_from old.earlier ≤ w → IsAsNear w goal most most old found new) → weights_from old.earlier ≤ most_weight →
    IsAsNear (near_weight most_weight old) goal most most old found new
near_at {most_weight} {w} {goal} {most} {old} {new} {found} same near light =
    subst (λ n. IsAsNear n goal most most old found new) same (near (omega (arith, light, same)))

pub kept_at : {weight w room : ℕ} {goal : Goal} {most : ℕ} {old new : PlainSession} {found : Search} → w ≡ near_weight weight old →
    (weights_from old.earlier ≤ w → IsAsNear weight goal room most old found new) → weights_from old.earlier ≤ weight → IsAsNear weight goal room most old found new
kept_at less kept within = kept (omega (arith, within, less))
