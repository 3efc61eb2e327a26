-- Searches back that go forward again if they meet nothing.
use Rattle.std.specs.Prelude.{◌≡◌, ◌<◌, ℕ, max, length, false, None, Some}
use Rattle.std.specs.List.{All}
use Rattle.trac_rules.specs.declared.refusal.Refusal.{Refusal}
use Rattle.trac_rules.specs.declared.refusal.Refusal.TheVariants.{Memory}
use Rattle.trac_rules.specs.PlainRuns.{BeginsPlain}
use Rattle.trac_rules.specs.Session.{PlainSession, Back, Goal, repeated}
use Rattle.trac_session.specs.declared.walk.Return.{Return}
use Rattle.trac_session.specs.declared.walk.Return.TheVariants.{Met, NotMet, Stopped}
use Rattle.trac_session.specs.Goals.{IsSearch}

-- no state before the last one meets the goal
abbrev pub IsNeverMet : Goal → PlainSession → Type 0
IsNeverMet goal p = All (λ s. goal s ≡ false) p.earlier

-- so many steps are left of those that are taken again, one at least. For the first of these memory was refused: it is
-- a step that takes memory, and moves no plain byte
pub record IsStopped (left : ℕ) (why : Refusal) (old new : PlainSession) : Type 0 where
  pub memory : why ≡ Memory
  pub some : 0 < left
  pub back : repeated Back left old ≡ Some new
  pub asked : BeginsPlain 1 new.last → ⊥

-- the goal was met by a search back, or it is met nowhere. If it is met nowhere, the session is as it was, or stopped
-- on the way there
abbrev pub IsReturn : Goal → PlainSession → Return → PlainSession → Type 0
IsReturn goal old (Met steps) new = IsSearch Back goal (max 1 (length old.earlier)) old steps None new
IsReturn goal old NotMet new = IsNeverMet goal old × (new ≡ old)
IsReturn goal old (Stopped left why) new = IsNeverMet goal old × IsStopped left why old new
