-- Which states of a run a session keeps.
use Rattle.std.specs.Prelude.{◌≡◌, ℕ, zero, suc, ◌-◌, ◌≤◌, List, [], ◌∷◌, length, drop, Ok, true}
use Rattle.trac_rules.specs.GoingOn.{whole}
use Rattle.trac_rules.specs.Running.{silent}
use Rattle.trac_rules.specs.Session.{PlainSession, over}
use Rattle.trac_rules.specs.State.{Environment, State, Tape, initial}
use Rattle.trac_rules.specs.Stepping.{step}

-- so many steps lead from the initial state to this one, if the output is emptied before each step
abbrev pub IsAfter : Environment → ℕ → State → Type 0
IsAfter environment zero s = s ≡ initial
IsAfter environment (suc n) s =
    (before : State) × IsAfter environment n before × (step environment (silent before) ≡ Ok s)

-- a state is the one after so many steps, but for its output. So many bytes that it has read are dropped from the tape
pub record IsOfRun (environment : Environment) (dropped steps : ℕ) (s : State) : Type 0 where
  pub state : State
  pub reached : IsAfter environment steps state
  pub read : dropped ≤ state.position
  pub same : silent s ≡ record state { output = []; position = state.position - dropped }

-- so is each of these states, after a step less than the one before; they come newest first
abbrev pub AreOfRun : Environment → ℕ → ℕ → State → List State → Type 0
AreOfRun environment dropped steps s [] = IsOfRun environment dropped steps s
AreOfRun environment dropped steps s (t ∷ earlier) =
    IsOfRun environment dropped steps s × (1 ≤ steps) × AreOfRun environment dropped (steps - 1) t earlier

-- a session keeps states of a run over this input, however it goes on, the last of which comes after so many steps. Its
-- tape is what is not dropped of the input
pub record KeepsStates (input : Tape) (steps : ℕ) (p : PlainSession) : Type 0 where
  pub dropped : ℕ
  pub few : dropped ≤ length input.bytes
  pub tape : p.tape ≡ record input { bytes = drop dropped input.bytes }
  pub states : (more : List ℕ) → (input.ended ≡ true → more ≡ []) →
      AreOfRun (over p.width (whole input more)) dropped steps p.last p.earlier
