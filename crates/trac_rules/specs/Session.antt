-- The plain session: a limit, the width of numbers, a tape, and a list of states that is never empty.
use Rattle.std.specs.Prelude.{◌≡◌, ◌⊎◌, ℕ, zero, suc, ◌+◌, ◌-◌, ◌<◌, ◌≤◌, nat_lt, nat_le, List, [], ◌∷◌, ◌++◌, length}
use Rattle.std.specs.Prelude.{map, take, drop, if◌then◌else◌, Bool, true, false, Option, None, Some, Result, Ok, Err}
use Rattle.std.specs.Prelude.{MatchOption, option_and_then}
use Rattle.trac_rules.specs.declared.limit.TheConstants.{TAPE_LIMIT}
use Rattle.trac_rules.specs.declared.refusal.Refusal.{Refusal}
use Rattle.trac_rules.specs.declared.refusal.Refusal.TheVariants.{TooLong, JournalFull, AtStart, Closed}
use Rattle.trac_rules.specs.declared.reply.Reply.{Reply}
use Rattle.trac_rules.specs.declared.reply.Reply.TheVariants.{Done, Refused}
use Rattle.trac_rules.specs.declared.width.Width.{Width}
use Rattle.trac_rules.specs.State.{Environment, State, Tape, initial}
use Rattle.trac_rules.specs.Outcomes.{OrMemory}
use Rattle.trac_rules.specs.Stepping.{step}

pub record PlainSession : Type 0 where
  -- how many states there may be before the last one
  pub limit : ℕ
  -- how wide numbers are: no command changes it
  pub width : Width
  pub tape : Tape
  -- the states before the last one, the newest first
  pub earlier : List State
  pub last : State

abbrev pub new_session : ℕ → Width → PlainSession
new_session limit width =
    record { limit = limit; width = width; tape = record { bytes = []; ended = false }; earlier = []; last = initial }

pub data Command : Type 0 where
  Feed : List ℕ → Command
  End : Command
  Step : Command
  Back : Command
  -- how many states are to stay before the last one
  Commit : ℕ → Command

-- ---- each command: the reply, and the session after it

pub record Answer : Type 0 where
  pub reply : Reply
  pub session : PlainSession

abbrev pub done : PlainSession → Answer
done p = record { reply = Done; session = p }

-- whatever is refused changes nothing
abbrev pub refused : Refusal → PlainSession → Answer
refused refusal p = record { reply = Refused refusal; session = p }

abbrev pub fed : List ℕ → PlainSession → Answer
fed bytes p = if p.tape.ended then refused Closed p else if nat_le (length p.tape.bytes + length bytes) TAPE_LIMIT
    then done (record p { tape = record p.tape { bytes = p.tape.bytes ++ bytes } }) else refused TooLong p

-- the next state is added to the list
abbrev pub stepped_to : Result State Refusal → PlainSession → Answer
stepped_to (Ok t) p = done (record p { earlier = p.last ∷ p.earlier; last = t })
stepped_to (Err refusal) p = refused refusal p

-- the last state is taken away; the first argument is the states before it
abbrev pub backed_to : List State → PlainSession → Answer
backed_to [] p = refused AtStart p
backed_to (s ∷ earlier) p = done (record p { earlier = earlier; last = s })

-- what a step is given if numbers are of this width, over this tape
abbrev pub over : Width → Tape → Environment
over width tape = record { tape = tape; width = width }

-- the state without the first `output` bytes of its output, over a tape that has lost its first `position` bytes
abbrev pub released : ℕ → ℕ → State → State
released output position s = record s { output = drop output s.output; position = s.position - position }

-- the state with all its output released, over a tape that has lost what the state has read
abbrev pub settled : State → State
settled s = released (length s.output) s.position s

-- the first of a list of states, which is given by its last state and those before it, the newest first
abbrev pub first_of : State → List State → State
first_of s [] = s
first_of s (t ∷ earlier) = first_of t earlier

-- the first state that a commit keeps: so many states before the last one, or the first of all if there are fewer
abbrev pub first_kept : ℕ → PlainSession → State
first_kept keep p = first_of p.last (take keep p.earlier)

-- a state after the output of the first one is released, over a tape that has lost what the first one has read
abbrev pub released_by : State → State → State
released_by first s = released (length first.output) first.position s

-- the last state stays, and so many before it, or all if there are fewer. The output of the first of these is released:
-- each of them loses it from the front of its own output. The tape loses what the first one has read, and each position
-- falls by as much
abbrev pub committed : ℕ → PlainSession → PlainSession
committed keep p = record p {
  tape = record p.tape { bytes = drop (first_kept keep p).position p.tape.bytes };
  earlier = map (released_by (first_kept keep p)) (take keep p.earlier);
  last = released_by (first_kept keep p) p.last;
}

unfoldable pub answer : Command → PlainSession → Answer
answer (Feed bytes) p = fed bytes p
answer End p = done (record p { tape = record p.tape { ended = true } })
answer Step p = if nat_lt (length p.earlier) p.limit then stepped_to (step (over p.width p.tape) p.last) p
    else refused JournalFull p
answer Back p = backed_to p.earlier p
answer (Commit keep) p = done (committed keep p)

-- ---- the one free choice: memory

-- memory may be refused in place of a feed's `Done` and of a step's `Done` or `TooLong`, and of nothing else
abbrev pub MayRunOut : Command → Reply → Type 0
MayRunOut (Feed bytes) Done = Unit {0}
MayRunOut Step Done = Unit {0}
MayRunOut Step (Refused TooLong) = Unit {0}
MayRunOut command reply = ⊥

-- from the session `old` the command may be answered so, and leave the session `new`
abbrev pub Answers : Command → PlainSession → Reply → PlainSession → Type 0
Answers command old Done new = answer command old ≡ done new
Answers command old (Refused refusal) new = OrMemory (MayRunOut command (answer command old).reply × (new ≡ old))
    (λ said. answer command old ≡ refused said new) refusal

-- ---- walks

-- the session after the command, if that is not refused
abbrev pub accepted_by : Answer → Option PlainSession
accepted_by a = accepted_as a.reply a.session
  where
    accepted_as : Reply → PlainSession → Option PlainSession
    accepted_as Done p = Some p
    accepted_as (Refused refusal) p = None

-- the session after n times this command; none if one of them is refused
abbrev pub repeated : Command → ℕ → PlainSession → Option PlainSession
repeated command zero p = Some p
repeated command (suc n) p = option_and_then (λ q. accepted_by (answer command q)) (repeated command n p)

-- a goal of a walk: whether it is met at a state
abbrev pub Goal : Type 0
Goal = State → Bool

-- the goal that is never met
abbrev pub no_goal : Goal
no_goal s = false

-- a walk has come to its end: all its steps were accepted, or it took one at least and its goal is met
abbrev pub HasEnded : Goal → ℕ → ℕ → PlainSession → Type 0
HasEnded goal n steps new = (steps ≡ n) ⊎ ((0 < steps) × (goal new.last ≡ true))

-- a walk from one session to another of at most n steps forward or back, to a goal. `steps` of them were accepted, and
-- the goal was not met before the last of them. If the walk is not over then, a refusal ended it. That a goal was not
-- met after all its steps is no refusal of the walk; who set the goal may say so
pub record IsWalk (command : Command) (goal : Goal) (n : ℕ) (old : PlainSession) (steps : ℕ) (why : Option Refusal)
    (new : PlainSession) : Type 0 where
  pub within : steps ≤ n
  pub walked : repeated command steps old ≡ Some new
  pub unmet : (k : ℕ) → (p : PlainSession) → 0 < k → k < steps → repeated command k old ≡ Some p → goal p.last ≡ false
  pub stopped : MatchOption why (HasEnded goal n steps new) (λ refusal.
      (steps < n) × (0 < steps → goal new.last ≡ false) × Answers command new (Refused refusal) new)

-- ---- lists of commands

-- these may be the replies to these commands, one after another, from the session `old` to the session `new`
abbrev pub Run : List Command → List Reply → PlainSession → PlainSession → Type 0
Run [] [] old new = new ≡ old
Run (command ∷ commands) (reply ∷ replies) old new =
    (middle : PlainSession) × (Answers command old reply middle) × Run commands replies middle new
Run [] (reply ∷ replies) old new = ⊥
Run (command ∷ commands) [] old new = ⊥
