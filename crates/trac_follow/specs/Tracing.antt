-- A byte that was followed back to where it comes from, in the words of `trac_origins`.
use Rattle.std.specs.Prelude.{◌≡◌, ◌⊎◌, ◌+◌, ◌-◌, ℕ, List, [], ◌∷◌, ◌++◌, take, true}
use Rattle.trac_rules.specs.Effect.{argument}
use Rattle.trac_rules.specs.Scanning.{Call, Calls, scan}
use Rattle.trac_rules.specs.Session.{PlainSession, over}
use Rattle.trac_rules.specs.State.{State}
use Rattle.trac_origins.specs.Places.{Place, InForm, Carried}
use Rattle.trac_follow.specs.declared.history.Source as code
use Rattle.trac_follow.specs.declared.tracing.End as ends
use Rattle.trac_follow.specs.declared.tracing.Traced.{Traced}
use Rattle.trac_follow.specs.Following.{IsOrigin, IsSource}
use Rattle.trac_follow.specs.Passing.{Passing, passings}
use Rattle.trac_follow_step.specs.Places.{IsBare, IsPassed, is_in_storage, place_of}

-- all of the last so many steps carried a byte
abbrev pub AllCarried : PlainSession → Place → ℕ → Type 0
AllCarried old place steps = (q : Place) × IsOrigin old place steps steps (Carried q)

-- the last of so many steps passed a byte on, which it had from there
abbrev pub WasPassed : PlainSession → Place → ℕ → PlainSession → Place → Type 0
WasPassed old place steps new q = (before : ℕ) × ((here : Place) × (steps ≡ before + 1)
    × IsOrigin old place before before (Carried here) × IsPassed new.last here q)

-- it passed on what stood in a form, or in one of a block
abbrev pub WasOfForm : PlainSession → Place → ℕ → PlainSession → Type 0
WasOfForm old place steps new = (q : Place) × IsOrigin old place steps steps (Carried q) × (is_in_storage q ≡ true)
    × WasPassed old place steps new q

-- where it comes from: nothing stood there; all steps carried it, and there are no more, or as many were wanted; the
-- last of them read or made it, and the others carried it; all carried it, and the last of them passed it on, by a call
-- of which the witness refused to be told; or memory was refused: to tell where the call of `ln` which is the last of
-- them has it from, and the others carried it, or to keep the name of the form from which the last of them passed it on
abbrev pub IsEnd : PlainSession → Place → ℕ → PlainSession → ℕ → ends.End → Type 0
IsEnd old place most new steps ends.TheVariants.Nothing = IsSource old place most new steps code.TheVariants.Nothing
IsEnd old place most new steps ends.TheVariants.Earlier =
    AllCarried old place steps × ((steps ≡ most) ⊎ (new.earlier ≡ []))
IsEnd old place most new steps (ends.TheVariants.Read n) = IsSource old place most new steps (code.TheVariants.Read n)
IsEnd old place most new steps ends.TheVariants.Made = IsSource old place most new steps code.TheVariants.Made
IsEnd old place most new steps ends.TheVariants.Untold = AllCarried old place steps
IsEnd old place most new steps ends.TheVariants.Memory =
    IsSource old place most new steps code.TheVariants.Memory ⊎ WasOfForm old place steps new

pub record IsTraced (old : PlainSession) (place : Place) (most : ℕ) (new : PlainSession) (found : Traced) : Type 0 where
  pub end : IsEnd old place most new found.steps found.end
  -- if nothing stands, that is said
  pub nothing : IsBare old.last place → found.end ≡ ends.TheVariants.Nothing

-- ---- who is told of the calls on the way

-- a witness was told of all these calls, one after another, and of nothing else
abbrev pub ToldAll : {W : Type 0} → (W → Passing → W → Type 0) → W → List Passing → W → Type 0
ToldAll passes old [] new = new ≡ old
ToldAll {W} passes old (p ∷ later) new = (m : W) × passes old p m × ToldAll passes m later new

-- it was told of all these over so many steps. If it refused one, it was told of all but the last, to which they lead
-- and which it refused
abbrev pub IsTold : {W : Type 0} → (W → Passing → W → Type 0) → (W → Passing → W → Type 0) → List Passing → ℕ →
    ends.End → W → W → Type 0
IsTold {W} passes refuses way steps ends.TheVariants.Untold old new = (before : List Passing) × ((p : Passing)
    × ((m : W) × (way ≡ before ++ p ∷ []) × (p.steps ≡ steps) × ToldAll passes old before m × refuses m p new))
IsTold passes refuses way steps end old new = ToldAll passes old way new

-- over how many of the steps it was told of them: over all, but for the one at which memory was refused
abbrev pub told_steps : ℕ → ends.End → ℕ
told_steps steps ends.TheVariants.Memory = steps - 1
told_steps steps end = steps

-- the calls on the way of a byte over the last so many steps
abbrev pub way_of : PlainSession → Place → ℕ → List Passing
way_of old place steps = passings (over old.width old.tape) (take steps old.earlier) 0 place place

-- ---- leg after leg

-- the place from which a byte is followed further, if a call passed it on by what was found
abbrev pub LeadsTo : State → code.Source → Place → Type 0
LeadsTo s (code.TheVariants.Passed there) q = q ≡ place_of there
LeadsTo s (code.TheVariants.OfForm i) q =
    (call : Call) → scan s ≡ Calls call → q ≡ InForm (argument 1 call.arguments) i
LeadsTo s source q = ⊥

-- how the trace ends if it is not followed further, and that it stood in a form then if a call passed it on
abbrev pub end_of : code.Source → ends.End
end_of code.TheVariants.Nothing = ends.TheVariants.Nothing
end_of (code.TheVariants.Here there) = ends.TheVariants.Earlier
end_of (code.TheVariants.Read n) = ends.TheVariants.Read n
end_of code.TheVariants.Made = ends.TheVariants.Made
end_of source = ends.TheVariants.Memory

abbrev pub IsNamed : code.Source → Type 0
IsNamed (code.TheVariants.Passed there) = is_in_storage (place_of there) ≡ true
IsNamed source = Unit {0}
