-- The replies tell what becomes of the output.
use Rattle.std.proofs.Common.{◌≡◌, ℕ, ◌+◌, ◌-◌, true, List, [], ◌∷◌, ◌++◌, refl, sym, subst, arith}
use Rattle.std.specs.Prelude.{Some}
use Rattle.std.proofs.lemmas.List.{append-nil}
use Rattle.trac_rules.specs.declared.width.Width.{Width}
use Rattle.trac_rules.specs.Session as session
use Rattle.trac_rules.specs.Session.{PlainSession, first_kept, repeated}
use Rattle.trac_session.specs.Outputs.{HasReleased}
use Rattle.trac_session.proofs.Released.{back_released, commit_released, new_released, stepped_released}
use Rattle.trac_streams.specs.declared.ending.Ending.{Ending}
use Rattle.trac_debug.specs.Commands.{LineCommand, Forward, Back, Until, Return, Print, Commit, Quit}
use Rattle.trac_debug.specs.Replies.{Replies}
use Rattle.trac_debug.specs.Outputs.{Tells}
use Rattle.trac_debug.specs.Debugging.{Turn, Passes, Does, Ends, Takes, MayWrite, TellsOutput, TurnTells, ready, turn_at}

-- a reply tells what becomes of the output by its command
record IsTold (command : LineCommand) (input : List ℕ) (steps : ℕ) (text reply : List ℕ) (q : PlainSession) : Type 0 where
  after : ℕ
  more : List ℕ
  tells : Tells command reply steps after more
  has : HasReleased input after (text ++ more) q

module _ (input : List ℕ) (steps : ℕ) (text : List ℕ) (p : PlainSession) (has : HasReleased input steps text p) where
  nothing_more : (after : ℕ) (q : PlainSession) → HasReleased input after text q → HasReleased input after (text ++ []) q
  nothing_more after q still = subst (λ (all : List ℕ). HasReleased input after all q) (sym (append-nil text)) still

  walked_on : (k : ℕ) (q : PlainSession) → repeated session.Step k p ≡ Some q → HasReleased input (steps + k) (text ++ []) q
  walked_on k q walked = nothing_more (steps + k) q (stepped_released k input text steps p q has walked)

  walked_back : (k : ℕ) (q : PlainSession) → repeated session.Back k p ≡ Some q → (steps ≡ (steps - k) + k) × HasReleased input (steps - k) (text ++ []) q
  walked_back k q walked = let back = back_released k input text steps p q has walked in (omega (arith, back.0), nothing_more (steps - k) q back.1)

  stayed : (q : PlainSession) → q ≡ p → HasReleased input steps (text ++ []) q
  stayed q same = nothing_more steps q (subst (λ (r : PlainSession). HasReleased input steps text r) (sym same) has)

  one_told : (command : LineCommand) (reply : List ℕ) (q : PlainSession) → Replies command p reply q → IsTold command input steps text reply q
  one_told (Forward n) reply q replies =
      let k : ℕ = replies.0 in
      record { after = steps + k; more = []; tells = ((k, replies.1, replies.3, refl), refl); has = walked_on k q replies.2.walked }
  one_told (Back n) reply q replies =
      let k : ℕ = replies.0 in
      let back = walked_back k q replies.2.walked in
      record { after = steps - k; more = []; tells = ((k, replies.1, replies.3, back.0), refl); has = back.1 }
  one_told (Until name n) reply q replies =
      let k : ℕ = replies.0 in
      record { after = steps + k; more = []; tells = ((k, replies.1, replies.3, refl), refl); has = walked_on k q replies.2.1.walked }
  one_told (Return name) reply q replies =
      let k : ℕ = replies.0 in
      let back = walked_back k q replies.2.1.walked in
      record { after = steps - k; more = []; tells = ((k, replies.1, replies.3, back.0), refl); has = back.1 }
  one_told (Commit keep) reply q replies = record { after = steps; more = (first_kept keep p).output; tells = (refl, replies.0); has = commit_released keep input text steps p q has replies.1 }
  one_told Print reply q replies = record { after = steps; more = []; tells = (refl, refl); has = stayed q replies.1 }
  one_told Quit reply q replies = record { after = steps; more = []; tells = (refl, refl); has = stayed q replies.1 }

-- so does a turn
turn_told : (turn : Turn) (input : List ℕ) (steps : ℕ) (text : List ℕ) (p : PlainSession) (Writes : PlainSession → List ℕ → Type 0) (Rest : ℕ → List ℕ → PlainSession → List ℕ → Type 0) (written : List ℕ) (stop : Ending) →
    HasReleased input steps text p → ((after : ℕ) (all : List ℕ) (q : PlainSession) (rest : List ℕ) → HasReleased input after all q → Writes q rest → Rest after all q rest) →
    Takes turn p Writes written stop → TurnTells turn steps text p Rest written
turn_told Passes input steps text p Writes Rest written stop has on takes = on steps text p written has takes
turn_told (Does command) input steps text p Writes Rest written stop has on takes =
    let told = one_told input steps text p has command takes.0 takes.1 takes.3 in
    (takes.0, takes.1, takes.2, told.after, told.more, takes.3, told.tells, takes.4, on told.after (text ++ told.more) takes.1 takes.2 told.has takes.5)
turn_told (Ends last) input steps text p Writes Rest written stop has on takes = takes.0

pub all_told : (lines : List (List ℕ)) (input : List ℕ) (number steps : ℕ) (text : List ℕ) (p : PlainSession) (written : List ℕ) (stop : Ending) → HasReleased input steps text p → MayWrite lines number p written stop →
    TellsOutput input lines number steps text p written
all_told [] input number steps text p written stop has may = (has, may.0)
all_told (line ∷ lines) input number steps text p written stop has may = (
  has,
  turn_told (turn_at number line) input steps text p (λ q rest. MayWrite lines (number + 1) q rest stop) (λ after all q rest. TellsOutput input lines (number + 1) after all q rest) written stop has
      (λ after all q rest still more. all_told lines input (number + 1) after all q rest stop still more) may,
)

-- the session over a tape has released nothing
pub ready_released : (tape : List ℕ) (limit : ℕ) (width : Width) → HasReleased tape 0 [] (ready tape limit width)
ready_released tape limit width = new_released limit width (record { bytes = tape; ended = true })
