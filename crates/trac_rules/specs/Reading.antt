-- Reading the input. What is read at its end is this project's profile.
use Rattle.std.specs.Prelude.{ℕ, ◌+◌, ◌==◌, List, [], ◌∷◌, length, take, drop, Bool, true, false, Option, None, Some}
use Rattle.std.specs.Prelude.{Result, Ok, Err, position}
use Rattle.trac_rules.specs.declared.refusal.Refusal.{Refusal}
use Rattle.trac_rules.specs.declared.refusal.Refusal.TheVariants.{NeedInput, Ended}
use Rattle.trac_rules.specs.State.{State, Storage, Tape}
use Rattle.trac_rules.specs.Effect.{Effect, reads}

-- the input that is not read yet
abbrev pub unread : Tape → State → List ℕ
unread tape s = drop s.position tape.bytes

-- the rest of the input, in which no meta character stands. If the input has not ended, more is needed. If it has, the
-- whole rest is given; but if nothing is left, it is the end
abbrev pub rest_read : List ℕ → Bool → Storage → Result Effect Refusal
rest_read rest false storage = Err NeedInput
rest_read [] true storage = Err Ended
rest_read (b ∷ rest) true storage = Ok (reads (b ∷ rest) (length (b ∷ rest)) storage)

-- unread input up to the place of its first meta character, which is read and not given; without a
-- place there is none in it
abbrev pub read_up_to : Option ℕ → List ℕ → Bool → Storage → Result Effect Refusal
read_up_to (Some k) text ended storage = Ok (reads (take k text) (k + 1) storage)
read_up_to None text ended storage = rest_read text ended storage

-- `rs`: unread input, whether the input has ended after it, and the meta character
abbrev pub string_read : List ℕ → Bool → ℕ → Storage → Result Effect Refusal
string_read text ended meta storage = read_up_to (position (λ b. b == meta) text) text ended storage

-- `rc`: the first byte of unread input, whichever it is; if there is none, as for `rs`
abbrev pub byte_read : List ℕ → Bool → Storage → Result Effect Refusal
byte_read [] ended storage = rest_read [] ended storage
byte_read (b ∷ rest) ended storage = Ok (reads (b ∷ []) 1 storage)
