-- The command that a line says.
use Rattle.std.specs.Prelude.{ℕ, ◌==◌, ◌&&◌, nat_le, List, [], ◌∷◌, length, if◌then◌else◌, Option, None, Some, codes}
use Rattle.std.specs.Prelude.{option_map}
use Rattle.std.specs.List.{slice_split}
use Rattle.std.specs.Str.{all_ascii_digits, bytes_eq}
use Rattle.std.specs.Str.Parse.{digits_value}
use Rattle.trac_debug.specs.declared.command.TheConstants.{SPACE, DIGIT_LIMIT}

-- what the debugger can be told to do
pub data LineCommand : Type 0 where
  -- so many steps forward
  Forward : ℕ → LineCommand
  -- so many steps back
  Back : ℕ → LineCommand
  -- forward to a call of this name, by so many steps at most
  Until : List ℕ → ℕ → LineCommand
  -- back to a call of this name
  Return : List ℕ → LineCommand
  -- show the state
  Print : LineCommand
  -- keep so many steps, and show what was released
  Commit : ℕ → LineCommand
  Quit : LineCommand

-- ---- words

-- the words of a line, of which any two have exactly one space between them. So two spaces have an empty word between
-- them, and a space at an end of the line has one beside it
abbrev pub words_of : List ℕ → List (List ℕ)
words_of line = slice_split (λ b. b == SPACE) line

-- the number that a word of one to nine digits writes
abbrev pub count_of : List ℕ → Option ℕ
count_of word =
    if nat_le 1 (length word) && nat_le (length word) DIGIT_LIMIT && all_ascii_digits word
    then Some (digits_value 10 word)
    else None

-- a name is a word that is not null
abbrev pub name_of : List ℕ → Option (List ℕ)
name_of [] = None
name_of (b ∷ bs) = Some (b ∷ bs)

-- ---- commands

-- a command of a letter alone
abbrev pub alone : List ℕ → Option LineCommand
alone word =
    if bytes_eq word (codes "p") then Some Print else
    if bytes_eq word (codes "c") then Some (Commit 0) else
    if bytes_eq word (codes "q") then Some Quit else
    None

-- a command of a letter and one word
abbrev pub with_one : List ℕ → List ℕ → Option LineCommand
with_one word first =
    if bytes_eq word (codes "s") then option_map Forward (count_of first) else
    if bytes_eq word (codes "b") then option_map Back (count_of first) else
    if bytes_eq word (codes "r") then option_map Return (name_of first) else
    if bytes_eq word (codes "c") then option_map Commit (count_of first) else
    None

-- until a name is met: if there are both a name and a count
abbrev pub until_met : Option (List ℕ) → Option ℕ → Option LineCommand
until_met None count = None
until_met (Some name) None = None
until_met (Some name) (Some n) = Some (Until name n)

-- a command of a letter and two words
abbrev pub with_two : List ℕ → List ℕ → List ℕ → Option LineCommand
with_two word first second =
    if bytes_eq word (codes "u") then until_met (name_of first) (count_of second) else
    None

-- the command that these words say, if they say one
abbrev pub said_by : List (List ℕ) → Option LineCommand
said_by [] = None
said_by (word ∷ []) = alone word
said_by (word ∷ first ∷ []) = with_one word first
said_by (word ∷ first ∷ second ∷ []) = with_two word first second
said_by (word ∷ first ∷ second ∷ third ∷ rest) = None

-- the command that a line says, if it says one
unfoldable pub command_of : List ℕ → Option LineCommand
command_of line = said_by (words_of line)
