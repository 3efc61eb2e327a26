-- Directions of walks as the definitions see them.
use Rattle.std.specs.Prelude.{ℕ, Option, None}
use Rattle.trac_rules.specs.Session.{Command, Step, Back}
use Rattle.trac_session.specs.declared.walking.Direction.{Direction}
use Rattle.trac_session.specs.declared.walking.Direction.TheVariants as towards

abbrev pub command_towards : Direction → Command
command_towards (towards.Forward weight) = Step
command_towards towards.Backward = Back

-- more than how much the records may not weigh for a walk to go on, if a weight is given
abbrev pub weight_of : Direction → Option ℕ
weight_of (towards.Forward weight) = weight
weight_of towards.Backward = None

abbrev pub IsForward : Direction → Type 0
IsForward (towards.Forward weight) = Unit {0}
IsForward towards.Backward = ⊥
