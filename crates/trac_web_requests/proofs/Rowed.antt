-- Rows of calls of which a witness was told one after another.
use Rattle.std.proofs.Common.{◌≡◌, ℕ, List, [], ◌∷◌, ◌++◌, refl, sym, ap, subst, ◌∙◌}
use Rattle.std.specs.List.{flat_map}
use Rattle.std.proofs.lemmas.List.{append-nil, append_assoc}
use Rattle.trac_follow.specs.declared.tracing.End as ends
use Rattle.trac_follow.specs.Passing.{Passing}
use Rattle.trac_follow.specs.Tracing.{IsTold, ToldAll, told_steps}
use Rattle.trac_web_requests.specs.declared.rows.Rows.{Rows}
use Rattle.trac_web_requests.specs.Rows.{AddsRow, AreRows, HasRows, row, rows_of}
use Rattle.trac_web_requests.specs.Ways.{IsSaid}

-- if there was memory for all, the witness was told of the calls of all steps
all_told : (steps : ℕ) (end : ends.End) → IsSaid end → told_steps steps end ≡ steps
all_told steps ends.TheVariants.Memory said = absurd said
all_told steps end said = refl

module _ {A : Type 0} (step released : ℕ) where
  -- the rows of some calls, and those of the calls after
  added_all : (calls : List Passing) (before : List ℕ) (old new : Rows A) → old.step ≡ step → old.released ≡ released → old.text.items ≡ before →
      ToldAll (λ rows call next. AddsRow rows call next) old calls new → (new.step ≡ step) × (new.released ≡ released) × (new.text.items ≡ before ++ rows_of step released calls)
  added_all [] before old new begins after text same =
      (ap (λ (r : Rows A). r.step) same ∙ begins, ap (λ (r : Rows A). r.released) same ∙ after, ap (λ (r : Rows A). r.text.items) same ∙ text ∙ sym (append-nil before))
  added_all (call ∷ calls) before old new begins after text told =
      let next : Rows A = told.0 in
      let adds : AddsRow old call next = told.1 in
      let longer : next.text.items ≡ before ++ row step released call =
      adds.text ∙ ap (λ (t : List ℕ). t ++ row old.step old.released call) text
      ∙ ap (λ s. before ++ row s old.released call) begins ∙ ap (λ r. before ++ row step r call) after in
      let rest = added_all calls (before ++ row step released call) next new (adds.begins ∙ begins) (adds.after ∙ after) longer told.2 in
      (rest.0, rest.1, rest.2 ∙ append_assoc before (row step released call) (rows_of step released calls))

  are_rows : (refuses : Rows A → Passing → Rows A → Type 0) (calls : List Passing) (steps : ℕ) (end : ends.End) (first last : Rows A) →
      HasRows step released [] first → IsTold (λ rows call next. AddsRow rows call next) refuses calls steps end first last → AreRows step released calls end last
  are_rows refuses calls steps ends.TheVariants.Untold first last none told = λ other. absurd (other refl)
  are_rows refuses calls steps end first last none told = λ other.
      let all = added_all calls [] first last none.begins none.after none.text told in
      record { begins = all.0; after = all.1; text = all.2 }

  -- if there was memory for all, they are those of the calls of all steps
  pub all_rows : (refuses : Rows A → Passing → Rows A → Type 0) (way : ℕ → List Passing) (steps : ℕ) (end : ends.End) (first last : Rows A) →
      HasRows step released [] first → IsSaid end → IsTold (λ rows call next. AddsRow rows call next) refuses (way (told_steps steps end)) steps end first last → HasRows step released (way steps) last
  all_rows refuses way steps end first last none said told =
      subst (λ n. HasRows step released (way n) last) (all_told steps end said)
      (are_rows refuses (way (told_steps steps end)) steps end first last none told (λ is. subst IsSaid is said))
