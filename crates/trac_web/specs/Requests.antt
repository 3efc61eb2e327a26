-- What a dialogue and a search for doubts write, of whole texts.
use Rattle.std.specs.Prelude.{◌≡◌, ◌≢◌, ◌↔◌, ℕ, ◌<◌, ◌≤◌, List, [], length}
use Rattle.trac_rules.specs.declared.limit.TheConstants.{TAPE_LIMIT}
use Rattle.trac_streams.specs.declared.ending.Ending.{Ending}
use Rattle.trac_streams.specs.declared.ending.Ending.TheVariants.{Ended, Budget, Limit, Memory, Write}
use Rattle.trac_walk.specs.Ends.{MayEnd}
use Rattle.trac_places.specs.declared.report.TheConstants.{PLACE_LIMIT}
use Rattle.trac_places.specs.declared.report.Halt.{Halt}
use Rattle.trac_places.specs.declared.report.Halt.TheVariants as halts

-- a dialogue over this program ended so: how it may end, and nothing is said of a program that is too long
pub record WritesTalk (program written : List ℕ) (ending : Ending) : Type 0 where
  pub ends : MayEnd ending
  pub too_long : (ending ≡ Limit) ↔ (TAPE_LIMIT < length program)
  pub nothing : ending ≡ Limit → written ≡ []

-- how a search for doubts ended, as a run does
abbrev pub search_ending : Halt → Ending
search_ending halts.Ended = Ended
search_ending halts.Spent = Budget
search_ending (halts.Limit steps) = Limit
search_ending halts.TooLong = Limit
search_ending halts.Memory = Memory
search_ending halts.Write = Write

-- a search for doubts told so many places by this, and ended so: it wrote nothing exactly if no place is told, unless
-- the buffer is full. Which doubts and places these are is not stated
pub record WritesDoubts (told : ℕ) (written : List ℕ) (ending : Ending) : Type 0 where
  pub few : told ≤ PLACE_LIMIT
  pub none : told ≡ 0 → written ≡ []
  pub some : 0 < told → ending ≢ Write → 0 < length written
  pub halt : Halt
  pub ends : ending ≡ search_ending halt
