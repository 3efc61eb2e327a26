-- Walks to a goal.
use Rattle.std.specs.Prelude.{◌≡◌, ℕ, nat_lt, ◌&&◌, List, map, Bool, true, false, Option, None, Some}
use Rattle.std.specs.Str.{bytes_eq}
use Rattle.trac_rules.specs.declared.refusal.Refusal.{Refusal}
use Rattle.trac_rules.specs.declared.refusal.Refusal.TheVariants.{NotMet}
use Rattle.trac_rules.specs.Session.{PlainSession, Command, Goal, IsWalk, no_goal}
use Rattle.trac_rules.specs.Stepping.{call_at}
use Rattle.trac_rules.specs.Doubts.{is_doubtful}
use Rattle.trac_rules.specs.Goals.{has_other_form, is_call_with, is_end_of, is_own_call, is_shallower, is_unprinted}
use Rattle.trac_rules.specs.Goals.{leaves_at_most}
use Rattle.trac_session.specs.declared.goal.Goal as code

-- whether a name is that of the call, byte for byte; if there is no call, there is no name
abbrev pub is_named : List ℕ → Option (List ℕ) → Bool
is_named name None = false
is_named name (Some called) = bytes_eq called name

-- the goal that the next step would perform a call of this name
abbrev pub is_call_of : List ℕ → Goal
is_call_of name s = is_named name (call_at s)

-- what a search says of the walk that it was: a refusal ends both; without one the goal was met, or
-- the steps were spent
abbrev pub outcome : Bool → Option Refusal → Option Refusal
outcome met (Some refusal) = Some refusal
outcome true None = None
outcome false None = Some NotMet

-- a search is a walk to a goal, which is not met by standing still. If all the steps were taken and the goal is not
-- met, it says so
abbrev pub IsSearch : Command → Goal → ℕ → PlainSession → ℕ → Option Refusal → PlainSession → Type 0
IsSearch command goal n old steps why new = (ended : Option Refusal) × IsWalk command goal n old steps ended new
    × (why ≡ outcome (nat_lt 0 steps && goal new.last) ended)

-- the goals that the code names
abbrev pub goal_of : {A : Type 0} → code.Goal A → Goal
goal_of (code.TheVariants.Call wanted) = is_call_with (map (λ text. text.now) wanted.now)
goal_of code.TheVariants.OwnCall = is_own_call
goal_of (code.TheVariants.End depth) = is_end_of depth
goal_of (code.TheVariants.Shallower count) = is_shallower count
goal_of (code.TheVariants.Rest most) = leaves_at_most most
goal_of (code.TheVariants.OtherForm name form) = has_other_form name.now form.now
goal_of (code.TheVariants.Unprinted count) = is_unprinted count
goal_of (code.TheVariants.Doubtful width) = is_doubtful width

-- the goal of a walk that may have none
abbrev pub goal_at : {A : Type 0} → Option (code.Goal A) → Goal
goal_at None = no_goal
goal_at (Some goal) = goal_of goal
