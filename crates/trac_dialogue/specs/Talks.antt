-- What a dialogue with a person reads and writes, and how it ends.
use Rattle.std.specs.Prelude.{◌≡◌, ◌⊎◌, ℕ, ◌*◌, ◌<◌, ◌≤◌, List, Option, length}
use Rattle.std.specs.Io.KnownBytes.{Appends, Consumes}
use Rattle.trac_streams.specs.declared.ending.Ending.{Ending}
use Rattle.trac_streams.specs.declared.ending.Ending.TheVariants.{Ended, Budget, Limit, Memory, Read, Write}
use Rattle.trac_streams.specs.declared.ending.Ending.TheVariants.{NotUnderstood}
use Rattle.trac_streams.specs.declared.lines.TheConstants.{LINE_COUNT_LIMIT, LINE_LIMIT}
use Rattle.trac_streams.specs.Reading.{HELD_LIMIT}

-- some bytes were read, from the front of what there is
pub record Takes (old new : Option (List ℕ)) : Type 0 where
  pub got : List ℕ
  pub took : Consumes old new got

-- some bytes were written, after those that were there
pub record Gives (old new : Option (List ℕ)) : Type 0 where
  pub written : List ℕ
  pub gave : Appends old new written

-- nothing can be said: there is no memory for it, or the writer failed
abbrev pub IsFault : Ending → Type 0
IsFault ending = (ending ≡ Memory) ⊎ (ending ≡ Write)

-- how a dialogue may end that was begun: not for a line that is not understood, nor for a limit. This says which
-- endings there are, and not when they come
abbrev pub IsStop : Ending → Type 0
IsStop Ended = Unit {0}
IsStop Budget = Unit {0}
IsStop Limit = ⊥
IsStop Memory = Unit {0}
IsStop Read = Unit {0}
IsStop Write = Unit {0}
IsStop (NotUnderstood line) = ⊥

-- ---- a line that is passed over

-- no more bytes were read than so many parts of a line have
pub record TakesFew (old new : Option (List ℕ)) : Type 0 where
  pub got : List ℕ
  pub took : Consumes old new got
  pub few : length got ≤ LINE_COUNT_LIMIT * HELD_LIMIT

-- more bytes were read than so many lines may have
pub record TakesMany (old new : Option (List ℕ)) : Type 0 where
  pub got : List ℕ
  pub took : Consumes old new got
  pub many : LINE_COUNT_LIMIT * LINE_LIMIT < length got

-- how passing a line over may end before its end: for its length only if so many bytes were read
abbrev pub IsRestStop : Option (List ℕ) → Option (List ℕ) → Ending → Type 0
IsRestStop old new Budget = TakesMany old new
IsRestStop old new Memory = Unit {0}
IsRestStop old new Read = Unit {0}
IsRestStop old new ending = ⊥
