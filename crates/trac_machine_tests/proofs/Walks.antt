-- Walks that lead to what a loaded machine shows.
use Rattle.std.proofs.Common.{◌≡◌, ℕ, zero, suc, ◌<◌, ◌∙◌, Bool, true, false, List, [], ◌∷◌, length, map, replicate, refl, sym, ap, subst, arith, codes}
use Rattle.std.specs.Prelude.{◌&&◌, nat_le, Option, Some, None, Result, Ok, Err, IfOk, IsSomeAnd, IsTrue, is_some}
use Rattle.std.specs.Cmp.Lexicographic.{slice_cmp}
use Rattle.std.specs.Ordering.{nat_cmp}
use Rattle.std.specs.FinMap as finite
use Rattle.std.proofs.lemmas.Bool.{and_parts, false≢true, leb-true}
use Rattle.trac_machine_tests.specs.Walks.{IsLoaded, LeadsTo, begun_with, over_whole}
use Rattle.trac_rules.specs.declared.refusal.Refusal.{Refusal}
use Rattle.trac_rules.specs.Form.{Form}
use Rattle.trac_rules.specs.Limits.{marks, text_bytes, texts_fit}
use Rattle.trac_rules.specs.Matching.{match_of}
use Rattle.trac_rules.specs.Outcomes.{MayAnswer}
use Rattle.trac_rules.specs.Performing.{performed}
use Rattle.trac_rules.specs.Scanning.{scan}
use Rattle.trac_rules.specs.State.{Environment, Forms, State, initial}
use Rattle.trac_rules.specs.Stepping.{step}
use Rattle.trac_rules.proofs.Outcomes.{limited_Ok}
use Rattle.trac_storage.specs.declared.parts.Parts as code
use Rattle.trac_storage.specs.Loading.{loaded, parts_fit, state_in}
use Rattle.trac_step.specs.Layout.{Shown}
use Rattle.trac_step.specs.Loading.{HasAsked}
use Rattle.trac_step.specs.Room.{HasRoom, IsNoLess}
use Rattle.trac_step.proofs.Rooms.{HasRoom-kept}

-- ---- one step back

-- what is known to be the state before can be gone back to, where there was room for it
pub goes_back : (o : Option State) (s : State) (old new : Shown) → o ≡ Some s → IsNoLess old new → HasRoom old s → IsSomeAnd o (λ u. HasRoom new u)
goes_back o s old new is more room = subst (λ x. IsSomeAnd x (λ u. HasRoom new u)) (sym is) (HasRoom-kept old new s more room)

-- where at least one step leads to what a machine shows, it has room for the state before it
pub room_before : (e : Environment) (n : ℕ) (s : State) (m : Shown) → 0 < n → LeadsTo e n s m → HasRoom m s
room_before e zero s m some leads = absurd (omega (arith, some))
room_before e (suc n) s m some leads = leads.0

-- ---- a machine that is loaded

-- it shows the state of its parts, and has the rooms that they ask for; here all is as at the start but for texts and places
pub shows_loaded : {A : Type 0} (parts : code.Parts A) (active output : List ℕ) (result : Result Shown Refusal) →
    parts.active.items ≡ active → parts.base.items ≡ [] → parts.frames.items ≡ [] → parts.forms.items ≡ [] → parts.blocks.items ≡ [] →
    parts.meta ≡ 39 → parts.trace ≡ false → parts.output.items ≡ output →
    MayAnswer (λ (m : Shown). m.state) (loaded parts) result → IfOk result (HasAsked parts) →
    IfOk result (IsLoaded (begun_with active output parts.position) parts.text_room parts.mark_room parts.output_room)
shows_loaded parts active output (Err refusal) a b f n h m t o answer asked = tt
shows_loaded parts active output (Ok m) a b f n h c t o answer asked =
    let is : Ok (state_in parts) ≡ Ok m.state = (limited_Ok (λ _. parts_fit parts) (Ok (state_in parts)) m.state answer).0 in
    let shown : m.state ≡ state_in parts = cc in
    let same : state_in parts ≡ begun_with active output parts.position = rw a (rw b (rw f (rw n (rw h (rw c (rw t (rw o refl))))))) in
    record { state = shown ∙ same; text = asked.text; marks = asked.marks; output = asked.output }

-- ---- walks that are computed

-- the state after a step, or the state before it where the step is refused
abbrev next : State → Result State Refusal → State
next s (Ok t) = t
next s (Err refusal) = s

-- the states before each of so many steps
abbrev states_on : Environment → ℕ → State → List State
states_on e zero s = []
states_on e (suc n) s = s ∷ states_on e n (next s (step e s))

-- and the one after all of them
abbrev end_of : Environment → ℕ → State → State
end_of e zero s = s
end_of e (suc n) s = end_of e n (next s (step e s))

-- whether texts, marks and output of a state are within these numbers
abbrev is_within : ℕ → ℕ → ℕ → State → Bool
is_within text mark_count output s = nat_le (text_bytes s) text && (nat_le (marks s.frames) mark_count && nat_le (length s.output) output)

-- and those of each of these
abbrev are_within : ℕ → ℕ → ℕ → List State → Bool
are_within text mark_count output [] = true
are_within text mark_count output (s ∷ states) = is_within text mark_count output s && are_within text mark_count output states

-- a machine has room for a state without forms that is within its rooms
has_room : (m : Shown) (s final : State) (text mark_count output : ℕ) → IsLoaded final text mark_count output m →
    is_within text mark_count output s ≡ true → s.forms ≡ finite.empty → HasRoom m s
has_room m s final text mark_count output loaded within none =
    let first = and_parts (nat_le (text_bytes s) text) (nat_le (marks s.frames) mark_count && nat_le (length s.output) output) within in
    let second = and_parts (nat_le (marks s.frames) mark_count) (nat_le (length s.output) output) first.1 in
    record {
      text = omega (arith, loaded.text, leb-true (text_bytes s) text first.0);
      marks = omega (arith, loaded.marks, leb-true (marks s.frames) mark_count second.0);
      output = omega (arith, loaded.output, leb-true (length s.output) output second.1);
      names = λ name there. absurd (false≢true (let empty : finite.get s.forms name ≡ None = ap (λ (forms : Forms). finite.get forms name) none ∙ finite.get-empty (slice_cmp nat_cmp) name in subst (λ (found : Option Form). IsTrue (is_some found)) empty there));
    }

-- what is known of the next state is known where the step is not refused
of_next : (P : State → Type 0) (s : State) (outcome : Result State Refusal) → P (next s outcome) → IfOk outcome P
of_next P s (Ok t) p = p
of_next P s (Err refusal) p = tt

-- so many steps lead to what a machine shows, where they end in that and all states before are within its rooms, and have no form
leads_so : (e : Environment) (n : ℕ) (s final : State) (text mark_count output : ℕ) (m : Shown) → IsLoaded final text mark_count output m → final ≡ end_of e n s →
    are_within text mark_count output (states_on e n s) ≡ true → map (λ (t : State). t.forms) (states_on e n s) ≡ replicate n finite.empty → LeadsTo e n s m
leads_so e zero s final text mark_count output m loaded ends within none = loaded.state ∙ ends
leads_so e (suc n) s final text mark_count output m loaded ends within none =
    let both = and_parts (is_within text mark_count output s) (are_within text mark_count output (states_on e n (next s (step e s)))) within in
    let first : s.forms ≡ finite.empty = (let h = none in cc) in
    let others : map (λ (t : State). t.forms) (states_on e n (next s (step e s))) ≡ replicate n finite.empty = (let h = none in cc) in (
      has_room m s final text mark_count output loaded both.0 first,
      of_next (λ (t : State). LeadsTo e n t m) s (step e s) (leads_so e n (next s (step e s)) final text mark_count output m loaded ends both.1 others),
    )

-- ---- the walks of the tests

-- `AB` is read and printed
pub eleven_lead : (m : Shown) → IsLoaded (begun_with [] (codes "AB") 3) 11 3 2 m → LeadsTo (over_whole (codes "AB'")) 11 initial m
unfolding match_of scan texts_fit performed step
eleven_lead m loaded = leads_so (over_whole (codes "AB'")) 11 initial (begun_with [] (codes "AB") 3) 11 3 2 m loaded refl refl refl
