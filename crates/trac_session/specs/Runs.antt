-- Steps that move a byte each, which a session passes at once, there and back.
use Rattle.std.specs.Prelude.{◌≡◌, ◌<◌, ◌≤◌, ◌++◌, ℕ, List, [], ◌∷◌, length, Option, None, Some}
use Rattle.trac_rules.specs.declared.refusal.Refusal.{Refusal}
use Rattle.trac_rules.specs.declared.refusal.Refusal.TheVariants.{Memory}
use Rattle.trac_rules.specs.declared.width.Width.{Width}
use Rattle.trac_rules.specs.Doubts.{doubts}
use Rattle.trac_rules.specs.Goals.{next_call}
use Rattle.trac_rules.specs.PlainRuns.{BeginsPlain, moved_on, on_the_way}
use Rattle.trac_rules.specs.Records.{Moved, recorded}
use Rattle.trac_rules.specs.Session.{PlainSession}
use Rattle.trac_rules.specs.State.{State}

-- the last so many steps of a session moved the first bytes of the active text to the current text, one by one. The
-- second session is that before them
pub record HasMovedBack (n : ℕ) (old new : PlainSession) : Type 0 where
  pub others : new ≡ record old { earlier = new.earlier; last = new.last }
  pub within : n ≤ length new.last.active
  pub last : old.last ≡ moved_on n new.last
  pub earlier : old.earlier ≡ on_the_way n new.last ++ new.earlier

-- these are the states before the last one, the newest first. The step from the first of them, if there is one, moves
-- no byte to the current text
abbrev pub HasNotMovedLast : List State → Type 0
HasNotMovedLast [] = Unit {0}
HasNotMovedLast (s ∷ states) = recorded s ≡ Moved → ⊥

-- the active text does not begin with a plain byte, which a step would move, or there is no place for its record
abbrev pub HasNoPlain : PlainSession → Type 0
HasNoPlain p = length p.earlier < p.limit → BeginsPlain 1 p.last → ⊥

-- if memory was refused for the step from this state, that step moves no plain byte: to move one takes no memory
abbrev pub IsAsked : Option Refusal → State → Type 0
IsAsked (Some Memory) s = BeginsPlain 1 s → ⊥
IsAsked why s = Unit {0}

-- the next step performs no call, and there is no doubt of it, however wide numbers are. So it is of each step that
-- moves a byte
pub record IsQuiet (s : State) : Type 0 where
  pub no_call : next_call s ≡ None
  pub no_doubt : (width : Width) → doubts width s ≡ []
