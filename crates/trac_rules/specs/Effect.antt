-- What a call does. Active text, base text and begun functions are no part of it, so no primitive changes them.
use Rattle.std.specs.Prelude.{ℕ, List, [], get_or, Bool, true, false, Option, None, Some}
use Rattle.trac_rules.specs.State.{Storage}

-- the argument of this number, the name being number 0; empty if it is missing
abbrev pub argument : ℕ → List (List ℕ) → List ℕ
argument k arguments = get_or arguments k []

-- what a primitive gives, prints and reads, and what it leaves
pub record Effect : Type 0 where
  pub value : List ℕ
  -- whether the value is scanned though the function may be neutral
  pub forced : Bool
  pub printed : List ℕ
  -- how many bytes of the tape are read
  pub read : ℕ
  -- the meta character, if it is set
  pub meta : Option ℕ
  -- whether each call is printed from now on, if that is set
  pub trace : Option Bool
  -- forms and blocks afterwards
  pub storage : Storage

-- an empty value, and nothing else but this storage
abbrev pub leaves : Storage → Effect
leaves storage =
    record { value = []; forced = false; printed = []; read = 0; meta = None; trace = None; storage = storage }

-- a value, which is not forced
abbrev pub gives : List ℕ → Storage → Effect
gives value storage = record (leaves storage) { value = value }

-- a value that is forced
abbrev pub forces : List ℕ → Storage → Effect
forces value storage = record (leaves storage) { value = value; forced = true }

-- an empty value, and this meta character from now on
abbrev pub sets_meta : ℕ → Storage → Effect
sets_meta meta storage = record (leaves storage) { meta = Some meta }

-- an empty value, and each call is printed from now on, or none is
abbrev pub sets_trace : Bool → Storage → Effect
sets_trace trace storage = record (leaves storage) { trace = Some trace }

-- a printed text
abbrev pub prints : List ℕ → Storage → Effect
prints text storage = record (leaves storage) { printed = text }

-- a value that takes n bytes of the tape
abbrev pub reads : List ℕ → ℕ → Storage → Effect
reads value n storage = record (leaves storage) { value = value; read = n }

-- a value; if there is none, the default argument, which is forced
abbrev pub gives_or_forces : Option (List ℕ) → List ℕ → Storage → Effect
gives_or_forces (Some value) other storage = gives value storage
gives_or_forces None other storage = forces other storage
