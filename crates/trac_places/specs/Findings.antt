-- What is written of a program, and how that ends.
use Rattle.std.specs.Prelude.{◌≡◌, ◌≢◌, ◌<◌, ◌≤◌, nat_lt, ℕ, List, [], ◌++◌, if◌then◌else◌, length, Option}
use Rattle.std.specs.Prelude.{codes, decimal}
use Rattle.std.specs.Io.KnownBytes.{Appends}
use Rattle.trac_streams.specs.Escapes.{feed}
use Rattle.trac_places.specs.declared.sources.Spot.{Spot}
use Rattle.trac_places.specs.declared.report.TheConstants.{PLACE_LIMIT}
use Rattle.trac_places.specs.declared.report.Found.{Found}
use Rattle.trac_places.specs.declared.report.Halt.{Halt}
use Rattle.trac_places.specs.declared.report.Halt.TheVariants.{TooLong, Memory, Write}

-- a line: a place, what is doubtful there, and the number of the step
abbrev pub spot_text : Spot → List ℕ
spot_text spot = spot.name.now ++ (codes ":" ++ (decimal spot.line ++ (codes ":" ++ decimal spot.column)))

abbrev pub line_text : List ℕ → List ℕ → ℕ → List ℕ
line_text place words step =
    place ++ (codes ": " ++ (words ++ (codes " (step " ++ (decimal step ++ (codes ")" ++ feed)))))

-- a line that goes on with that of a doubt: a place, and what may be wrong there
abbrev pub note_text : List ℕ → List ℕ → List ℕ
note_text place words = place ++ (codes ": note: " ++ (words ++ feed))

-- the last line, if so many places more are not told
abbrev pub more_text : ℕ → List ℕ
more_text more =
    codes ".. and " ++ (decimal more ++ (codes " more place" ++ ((if nat_lt 1 more then codes "s" else []) ++ feed)))

-- so many places are told by a text: no more than are, and none exactly if it is empty
pub record IsReport (told : ℕ) (text : List ℕ) : Type 0 where
  pub most : told ≤ PLACE_LIMIT
  pub none : told ≡ 0 → text ≡ []
  pub some : 0 < told → 0 < length text

-- what is told of a program: how many places, and the text
pub record Lines : Type 0 where
  pub told : ℕ
  pub text : List ℕ

-- what was found is written: nothing exactly if no place is told, but for a writer that fails
pub record IsWritten (old new : Option (List ℕ)) (found : Found) : Type 0 where
  pub written : List ℕ
  pub gave : Appends old new written
  pub none : found.told ≡ 0 → written ≡ []
  pub some : 0 < found.told → found.halt ≢ Write → 0 < length written

-- the exit status of the program: whether it was not looked through, or its doubts not told; else whether there are
-- some
abbrev pub status_by : Halt → ℕ → ℕ
status_by TooLong told = 2
status_by Memory told = 2
status_by Write told = 2
status_by halt told = if nat_lt 0 told then 1 else 0

abbrev pub status_of : Found → ℕ
status_of found = status_by found.halt found.told
