-- Outcomes that are limited, and seen in another way.
use Rattle.std.proofs.Common.{◌≡◌, Bool, true, false, refl, sym, ap, ◌∙◌, subst, inl, inr, ⊎_elim}
use Rattle.std.specs.Prelude.{Result, Ok, Err, ◌⊎◌}
use Rattle.std.proofs.lemmas.Bool.{cases_Bool}
use Rattle.trac_rules.specs.declared.refusal.Refusal.{Refusal}
use Rattle.trac_rules.specs.declared.refusal.Refusal.TheVariants.{TooLong}
use Rattle.trac_rules.specs.Outcomes.{MayLackMemory, limited, seen_as}

pub limited_within : {T : Type 0} (fits : T → Bool) (t : T) → fits t ≡ true → limited fits (Ok t) ≡ Ok t
limited_within fits t h = rw h refl

pub limited_beyond : {T : Type 0} (fits : T → Bool) (t : T) → fits t ≡ false → limited fits (Ok t) ≡ Err TooLong
limited_beyond fits t h = rw h refl

pub lacks_limited : {T : Type 0} (fits : T → Bool) (t : T) → MayLackMemory (limited fits (Ok t))
lacks_limited fits t =
    ⊎_elim
    (λ (w : fits t ≡ true). subst MayLackMemory (sym (limited_within fits t w)) tt)
    (λ (w : fits t ≡ false). subst MayLackMemory (sym (limited_beyond fits t w)) tt)
    (cases_Bool (fits t))

pub limited_Ok : {T : Type 0} (fits : T → Bool) (x : Result T Refusal) (t : T) → limited fits x ≡ Ok t → (x ≡ Ok t) × (fits t ≡ true)
limited_Ok fits (Ok u) t h =
    ⊎_elim
    (λ (w : fits u ≡ true). let same : u ≡ t = (let e : limited fits (Ok u) ≡ Ok u = limited_within fits u w in cc) in (ap Ok same, rw (← same) w))
    (λ (w : fits u ≡ false). absurd (let e : limited fits (Ok u) ≡ Err TooLong = limited_beyond fits u w in cc))
    (cases_Bool (fits u))
limited_Ok fits (Err refusal) t h = absurd (cc)

pub limited_Err : {T : Type 0} (fits : T → Bool) (x : Result T Refusal) (refusal : Refusal) → limited fits x ≡ Err refusal → (refusal ≡ TooLong) ⊎ (x ≡ Err refusal)
limited_Err fits (Ok u) r h =
    ⊎_elim
    (λ (w : fits u ≡ true). absurd (let e : limited fits (Ok u) ≡ Ok u = limited_within fits u w in cc))
    (λ (w : fits u ≡ false). inl (let e : limited fits (Ok u) ≡ Err TooLong = limited_beyond fits u w in cc))
    (cases_Bool (fits u))
limited_Err fits (Err refusal) r h = inr h

-- what is seen in another way fits where it fits as it was
pub limited-seen_as : {T U : Type 0} (fits : T → Bool) (fits_so : U → Bool) (view : T → U) → ((t : T) → fits_so (view t) ≡ fits t) → (x : Result T Refusal) →
    limited fits_so (seen_as view x) ≡ seen_as view (limited fits x)
limited-seen_as fits fits_so view alike (Ok t) =
    ⊎_elim
    (λ (w : fits t ≡ true). limited_within fits_so (view t) (alike t ∙ w) ∙ ap (seen_as view) (sym (limited_within fits t w)))
    (λ (w : fits t ≡ false). limited_beyond fits_so (view t) (alike t ∙ w) ∙ ap (seen_as view) (sym (limited_beyond fits t w)))
    (cases_Bool (fits t))
limited-seen_as fits fits_so view alike (Err refusal) = refl

pub seen_as-Ok : {T U : Type 0} (view : T → U) (x : Result T Refusal) (u : U) → seen_as view x ≡ Ok u → (t : T) × (x ≡ Ok t) × (u ≡ view t)
seen_as-Ok view (Ok t) u e = (t, refl, cc)
seen_as-Ok view (Err refusal) u e = absurd (cc)

pub seen_as-Err : {T U : Type 0} (view : T → U) (x : Result T Refusal) (refusal : Refusal) → seen_as view x ≡ Err refusal → x ≡ Err refusal
seen_as-Err view (Ok t) r e = absurd (cc)
seen_as-Err view (Err refusal) r e = let same : refusal ≡ r = cc in ap Err same
