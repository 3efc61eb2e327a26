-- Searches forward that stay where they began unless they meet something.
use Rattle.std.specs.Prelude.{◌≡◌, ◌⊎◌, ℕ, ◌+◌, ◌<◌, ◌≤◌, min, Bool, true, false, Option, None, Some}
use Rattle.trac_rules.specs.declared.refusal.Refusal.{Refusal}
use Rattle.trac_rules.specs.declared.refusal.Refusal.TheVariants.{JournalFull, NotMet, TooLong}
use Rattle.trac_rules.specs.Session.{PlainSession, Goal, Step, repeated}
use Rattle.trac_session.specs.Within.{IsSearchWithin}
use Rattle.trac_rules.specs.Weights.{weights_from}
use Rattle.trac_moves.specs.declared.searching.TheConstants.{NEAR_WEIGHT}
use Rattle.trac_moves.specs.declared.searching.Search.{Search}
use Rattle.trac_moves.specs.declared.searching.Search.TheVariants.{Met, Unmet}

-- a search that did not meet its goal has left this as it was
abbrev pub HasStayed : {X : Type 0} → Search → X → X → Type 0
HasStayed Met old new = Unit {0}
HasStayed (Unmet why step) old new = new ≡ old

-- one that met its goal has gone forward, by so many steps at most; else it stopped after so many at most
abbrev pub HasGone : Search → ℕ → PlainSession → PlainSession → Type 0
HasGone Met most old new = (steps : ℕ) × (steps ≤ most) × (repeated Step steps old ≡ Some new)
HasGone (Unmet why steps) most old new = steps ≤ most

-- ---- within the room that there is

-- how much the records may weigh if the session is not run anew, of which they may weigh so much in all
abbrev pub near_weight : ℕ → PlainSession → ℕ
near_weight most old = min most (weights_from old.earlier + NEAR_WEIGHT)

-- why a search of at most so many steps ended, after so many: as it says. But it may lack room if it has steps left, or
-- if the output is too long
abbrev pub IsReason : ℕ → ℕ → Option Refusal → Option Refusal → Type 0
IsReason steps most (Some NotMet) why = (steps < most → why ≡ Some JournalFull) × (steps ≡ most → why ≡ Some NotMet)
IsReason steps most (Some TooLong) why = (why ≡ Some TooLong) ⊎ (why ≡ Some JournalFull)
IsReason steps most said why = why ≡ said

-- whether a search ended so that met nothing, and of which no step was refused
abbrev pub is_unmet : Option Refusal → Bool
is_unmet (Some NotMet) = true
is_unmet why = false

-- a search of at most `most` steps, and why it ended. It stops if the records weigh more than `weight`, and takes at
-- most `room` of these steps
abbrev pub HasWalked : ℕ → Goal → ℕ → ℕ → PlainSession → ℕ → Option Refusal → PlainSession → Type 0
HasWalked weight goal room most old steps why new =
    (said : Option Refusal) × IsSearchWithin weight goal room old steps said new × IsReason steps most said why

-- what a search found that ended so
abbrev pub found_by : ℕ → Option Refusal → Search
found_by steps None = Met
found_by steps (Some refusal) = Unmet refusal steps

-- what is answered of it, with where it came to: it stays there if it met its goal; that it lacked room is no
-- answer, and then nothing is said here
abbrev pub IsAnswered : ℕ → Option Refusal → PlainSession → Search → PlainSession → Type 0
IsAnswered steps None there found new = (found ≡ Met) × (new ≡ there)
IsAnswered steps (Some JournalFull) there found new = Unit {0}
IsAnswered steps (Some refusal) there found new = found ≡ Unmet refusal steps

-- so a search ends for which there is room
abbrev pub IsAsNear : ℕ → Goal → ℕ → ℕ → PlainSession → Search → PlainSession → Type 0
IsAsNear weight goal room most old found new = (steps : ℕ) × (why : Option Refusal) × (there : PlainSession)
    × HasWalked weight goal room most old steps why there × IsAnswered steps why there found new
