-- What a window shows of the output.
use Rattle.std.specs.Prelude.{◌≡◌, ℕ, ◌-◌, ◌^◌, List, length, min}
use Rattle.trac_rules.specs.declared.width.Width.{Width}
use Rattle.trac_rules.specs.Session.{PlainSession}
use Rattle.trac_rules.specs.State.{Tape}
use Rattle.trac_session.specs.Outputs.{HasReleased}
use Rattle.trac_moves.specs.declared.window.Window.{Window}
use Rattle.trac_moves.specs.States.{KeepsStates}

-- so many steps over this input led to the session of a window, which has released this text. The window has forgotten
-- so many of the steps, and so many bytes of the text: all that the session has released, as far as 64 bits count
pub record IsWindow (input : List ℕ) (steps : ℕ) (text : List ℕ) (forgotten released : ℕ) (p : PlainSession)
    : Type 0 where
  pub has : HasReleased input steps text p
  pub steps_forgotten : forgotten ≡ min (steps - length p.earlier) (2 ^ 64 - 1)
  pub bytes_forgotten : released ≡ min (length text) (2 ^ 64 - 1)

-- so many steps over this input, with numbers of this width, led to where a window stands. It keeps states of a run
-- over that input, and has released some text
pub record IsOver {A : Type 0} (input : Tape) (width : Width) (steps : ℕ) (w : Window A) : Type 0 where
  pub text : List ℕ
  pub is : IsWindow input.bytes steps text w.forgotten w.released w.session
  pub states : KeepsStates input steps w.session
  pub wide : w.session.width ≡ width

-- wherever a window stands, it stands there still, over the same input
abbrev pub StaysOver : {A : Type 0} → Window A → Window A → Type 0
StaysOver old new = (input : Tape) (width : Width) (steps : ℕ) → IsOver input width steps old →
    IsOver input width steps new
