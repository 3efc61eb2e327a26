-- A tape that is read, and why there is no session over one.
use Rattle.std.specs.Prelude.{◌≡◌, ◌⊎◌, ℕ, ◌+◌, ◌<◌, ◌≤◌, List, ◌++◌, length, Option}
use Rattle.std.specs.Io.KnownBytes.{Consumes, IsAtEnd}
use Rattle.trac_rules.specs.declared.limit.TheConstants.{TAPE_LIMIT}
use Rattle.trac_streams.specs.declared.ending.Ending.{Ending}
use Rattle.trac_streams.specs.declared.ending.Ending.TheVariants.{Limit, Memory, Read}

-- it is all that the reader had, and no more than a tape may have
pub record IsTape (in_old in_new : Option (List ℕ)) (tape : List ℕ) : Type 0 where
  pub took : Consumes in_old in_new tape
  pub at_end : IsAtEnd in_new
  pub within : length tape ≤ TAPE_LIMIT

-- there is none: what was read is one byte too long; or the reader failed, or memory was refused,
-- and no more was read than that
pub record IsNoTape (in_old in_new : Option (List ℕ)) (ending : Ending) : Type 0 where
  pub got : List ℕ
  pub took : Consumes in_old in_new got
  pub most : length got ≤ TAPE_LIMIT + 1
  pub why : ((ending ≡ Limit) × (length got ≡ TAPE_LIMIT + 1)) ⊎ ((ending ≡ Memory) ⊎ (ending ≡ Read))

-- why there is no session over a tape: the tape is too long; or it is not, and memory was refused
abbrev pub MayRefuseTape : List ℕ → Ending → Type 0
MayRefuseTape tape ending =
    ((ending ≡ Memory) × (length tape ≤ TAPE_LIMIT)) ⊎ ((ending ≡ Limit) × (TAPE_LIMIT < length tape))

-- ---- one read

-- what it gave came after the bytes that were there; nothing comes at the end
pub record AddsPart (in_old in_new : Option (List ℕ)) (old new : List ℕ) (count : ℕ) : Type 0 where
  pub got : List ℕ
  pub took : Consumes in_old in_new got
  pub bytes : new ≡ old ++ got
  pub at_end : count ≡ 0 → IsAtEnd in_new
  pub most : length new ≤ TAPE_LIMIT + 1

-- it failed, or there was no memory for what it gave
pub record IsNoPart (in_old in_new : Option (List ℕ)) (old : List ℕ) (ending : Ending) : Type 0 where
  pub got : List ℕ
  pub took : Consumes in_old in_new got
  pub most : length old + length got ≤ TAPE_LIMIT + 1
  pub why : (ending ≡ Memory) ⊎ (ending ≡ Read)
