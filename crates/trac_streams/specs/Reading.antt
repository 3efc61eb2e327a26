-- What stands at the front of bytes that were read, and what reads do.
use Rattle.std.specs.Prelude.{◌≡◌, ◌⊎◌, ℕ, ◌+◌, ◌*◌, ◌<◌, ◌≤◌, ◌==◌, List, [], ◌∷◌, ◌++◌, length, take, drop, Bool}
use Rattle.std.specs.Prelude.{true, false, Option, None, Some}
use Rattle.std.specs.Io.KnownBytes.{Consumes, IsAtEnd}
use Rattle.trac_streams.specs.declared.ending.Ending.{Ending}
use Rattle.trac_streams.specs.declared.ending.Ending.TheVariants.{Memory, Read}
use Rattle.trac_streams.specs.declared.input.TheConstants.{READ_SIZE}
use Rattle.trac_streams.specs.declared.lines.NextLine.{NextLine}
use Rattle.trac_streams.specs.declared.lines.NextLine.TheVariants.{Line, TooLong, Part, End}
use Rattle.trac_streams.specs.declared.lines.TheConstants.{LINE_LIMIT}
use Rattle.trac_streams.specs.Lines.{feed_count, lines_of}
use Rattle.trac_streams.specs.Pending.{Pending}

-- so many bytes are read and not taken yet at most: no more is read once a line is too long
abbrev pub HELD_LIMIT : ℕ
HELD_LIMIT = LINE_LIMIT + 1 + READ_SIZE

-- what stands at the front of these bytes, whatever more comes after them: nothing, if they have ended. What ends a
-- line has two bytes at most
abbrev pub IsFront : List ℕ → Bool → NextLine → Type 0
IsFront bytes ended (Line len whole) = (len ≤ length bytes) × (whole ≤ length bytes)
    × ((more : List ℕ) → (ended ≡ true → more ≡ []) →
    lines_of (bytes ++ more) ≡ take len bytes ∷ lines_of (drop whole bytes ++ more)) × (whole ≤ len + 2)
IsFront bytes ended TooLong = (more : List ℕ) →
    (line : List ℕ) × (rest : List (List ℕ)) × (LINE_LIMIT < length line) × (lines_of (bytes ++ more) ≡ line ∷ rest)
IsFront bytes ended Part = (ended ≡ false) × (length bytes ≤ LINE_LIMIT + 1) × (feed_count bytes ≡ 0)
IsFront bytes ended End = (ended ≡ true) × (bytes ≡ [])

-- not a part of a line
abbrev pub IsWhole : NextLine → Type 0
IsWhole (Line len whole) = Unit {0}
IsWhole TooLong = Unit {0}
IsWhole Part = ⊥
IsWhole End = Unit {0}

-- no byte of a text passes a test
abbrev pub HasNone : (ℕ → Bool) → List ℕ → Type 0
HasNone test [] = Unit {0}
HasNone test (b ∷ bs) = (test b ≡ false) × HasNone test bs

-- the place of the first byte of this value
abbrev pub IsPlace : ℕ → List ℕ → Option ℕ → Type 0
IsPlace wanted bytes None = HasNone (λ b. b == wanted) bytes
IsPlace wanted bytes (Some place) = (place < length bytes) × HasNone (λ b. b == wanted) (take place bytes)
    × (bytes ≡ take place bytes ++ wanted ∷ drop (place + 1) bytes)

-- ---- how many reads there were

-- so many reads gave these bytes: each of them one at least, and no more than one read may
abbrev pub CameBy : ℕ → List ℕ → Type 0
CameBy reads got = (reads ≤ length got) × (length got ≤ reads * READ_SIZE)

-- a read that saw the end
abbrev pub end_reads : Bool → ℕ
end_reads true = 1
end_reads false = 0

-- a read that failed
abbrev pub fault_reads : Ending → ℕ
fault_reads Read = 1
fault_reads ending = 0

-- how many reads gave nothing, by whether the end was seen and by how it ended: the read that saw the end,
-- or that failed. It is the last
abbrev pub empty_reads : Bool → Ending → ℕ
empty_reads true ending = 1
empty_reads false ending = fault_reads ending

-- so many reads in all gave these bytes, and perhaps saw the end or failed
abbrev pub CountsReads : ℕ → List ℕ → Bool → Ending → Type 0
CountsReads reads got saw_end ending = (full : ℕ) × CameBy full got × (reads ≡ full + empty_reads saw_end ending)

-- ---- what reads do

-- the last of the reads that gave this in all, after the bytes that were there: a line was still being read before it,
-- as what stood there was no whole line yet, and not too long. It gave this piece, and nothing if it saw the end
pub record LastRead (old : Pending) (saw_end : Bool) (got : List ℕ) : Type 0 where
  pub before : List ℕ
  pub piece : List ℕ
  pub all : got ≡ before ++ piece
  pub few : length piece ≤ READ_SIZE
  pub part : IsFront (old.bytes ++ before) old.ended Part
  pub at_end : saw_end ≡ true → piece ≡ []

-- a line was still being read before each read: so it was before the last of them, if there was one
abbrev pub AreInLine : Pending → Bool → List ℕ → Type 0
AreInLine old saw_end got = ((got ≡ []) × (saw_end ≡ old.ended)) ⊎ LastRead old saw_end got

-- the reader gave some bytes, which came after those that were there, and perhaps its end was seen. Before each read a
-- line was still being read
pub record Gathers (in_old in_new : Option (List ℕ)) (old new : Pending) : Type 0 where
  pub got : List ℕ
  pub took : Consumes in_old in_new got
  pub bytes : new.bytes ≡ old.bytes ++ got
  pub closed : old.ended ≡ true → (got ≡ []) × (new.ended ≡ true)
  pub at_end : new.ended ≡ true → IsAtEnd in_new
  pub in_line : AreInLine old new.ended got

-- a read failed, or memory was refused before one. What earlier reads gave was gathered, and is not a whole line yet
pub record MayFail (in_old in_new : Option (List ℕ)) (old new : Pending) (ending : Ending) : Type 0 where
  pub gathers : Gathers in_old in_new old new
  pub part : IsFront new.bytes new.ended Part
  pub fault : (ending ≡ Memory) ⊎ (ending ≡ Read)

-- bytes were gathered, and the reads counted
pub record GathersBy (in_old in_new : Option (List ℕ)) (reads_old reads_new : ℕ) (old new : Pending) : Type 0 where
  pub gathers : Gathers in_old in_new old new
  pub full : ℕ
  pub came : CameBy full gathers.got
  pub counted : reads_new + end_reads old.ended ≡ reads_old + full + end_reads new.ended

-- the same of one read, which gave a byte at least, or saw the end
pub record ReadsMore (in_old in_new : Option (List ℕ)) (reads_old reads_new : ℕ) (old new : Pending) : Type 0 where
  pub gathers : GathersBy in_old in_new reads_old reads_new old new
  pub more : ((new.ended ≡ true) × (new.bytes ≡ old.bytes))
      ⊎ ((new.ended ≡ false) × (length old.bytes < length new.bytes))

-- the same, and the reads are counted, one that failed too
pub record FailsBy
    (in_old in_new : Option (List ℕ)) (reads_old reads_new : ℕ) (old new : Pending) (ending : Ending) : Type 0 where
  pub fails : MayFail in_old in_new old new ending
  pub full : ℕ
  pub came : CameBy full fails.gathers.got
  pub counted : reads_new ≡ reads_old + full + fault_reads ending
