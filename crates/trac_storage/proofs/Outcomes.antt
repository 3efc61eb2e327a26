-- Why a call is refused: for memory, or for a test.
use Rattle.std.proofs.Common.{◌≡◌, refl, sym, ◌∙◌, subst, true, false, Bool, ⊎_elim}
use Rattle.std.specs.Prelude.{Result, Ok, Err}
use Rattle.trac_rules.specs.declared.refusal.Refusal.{Refusal}
use Rattle.trac_rules.specs.declared.refusal.Refusal.TheVariants.{Memory, TooLong}
use Rattle.trac_rules.specs.Outcomes.{limited, MayLackMemory, MayRefuse}
use Rattle.trac_rules.proofs.Outcomes.{lacks_limited, limited_Err, limited_beyond, limited_within}

-- memory, where it may be refused
pub refuses_memory : {T : Type 0} (outcome : Result T Refusal) (e : Refusal) → e ≡ Memory → MayLackMemory outcome → MayRefuse outcome e
refuses_memory outcome e is lacks = subst (MayRefuse outcome) (sym is) lacks

-- what is refused for a test is refused for another one that fails with it
pub refuses_with : {T U : Type 0} (fits : T → Bool) (t : T) (fits_too : U → Bool) (u : U) (e : Refusal) → (fits t ≡ false → fits_too u ≡ false) →
    MayRefuse (limited fits (Ok t)) e → MayRefuse (limited fits_too (Ok u)) e
refuses_with fits t fits_too u Memory fails refused = lacks_limited fits_too u
refuses_with fits t fits_too u TooLong fails refused = limited_beyond fits_too u (fails (beyond (fits t) refl))
  where
    beyond : (b : Bool) → b ≡ fits t → fits t ≡ false
    beyond true e = absurd (let none : Ok t ≡ Err TooLong = sym (limited_within fits t (sym e)) ∙ refused in cc)
    beyond false e = sym e
refuses_with fits t fits_too u e fails refused =
    ⊎_elim (λ (is : e ≡ TooLong). absurd (cc)) (λ (is : Ok t ≡ Err e). absurd (cc)) (limited_Err fits (Ok t) e refused)
