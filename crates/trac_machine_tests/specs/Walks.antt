-- Walks of one machine, over which another one goes back.
use Rattle.std.specs.Prelude.{◌≡◌, ℕ, zero, suc, ◌≤◌, List, true, IfOk}
use Rattle.trac_rules.specs.declared.width.Width.TheVariants.{W128}
use Rattle.trac_rules.specs.State.{Environment, State, initial}
use Rattle.trac_rules.specs.Stepping.{step}
use Rattle.trac_step.specs.Layout.{Shown}
use Rattle.trac_step.specs.Room.{HasRoom}

-- what a step over this whole input is given beside the state, if numbers are of 128 bits
abbrev pub over_whole : List ℕ → Environment
over_whole input = record { tape = record { bytes = input; ended = true }; width = W128 }

-- so many steps lead from a state to the one that a machine shows, and the machine has room for each state before it
abbrev pub LeadsTo : Environment → ℕ → State → Shown → Type 0
LeadsTo environment zero s m = m.state ≡ s
LeadsTo environment (suc n) s m = HasRoom m s × IfOk (step environment s) (λ t. LeadsTo environment n t m)

-- the state at the start with another active text, another output, and so many bytes read
abbrev pub begun_with : List ℕ → List ℕ → ℕ → State
begun_with active output position = record initial { active = active; output = output; position = position }

-- a machine shows a state, and has at least so much room for texts, marks and output
pub record IsLoaded (s : State) (texts mark_count printed : ℕ) (m : Shown) : Type 0 where
  pub state : m.state ≡ s
  pub text : texts ≤ m.text_room
  pub marks : mark_count ≤ m.mark_room
  pub output : printed ≤ m.output_room
