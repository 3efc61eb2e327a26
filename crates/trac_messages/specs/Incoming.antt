-- What a reader gives of the frames of its bytes.
use Rattle.std.specs.Prelude.{◌≡◌, ◌≢◌, ◌⊎◌, ℕ, ◌+◌, ◌<◌, ◌≤◌, Bool, true, false}
use Rattle.std.specs.Prelude.{List, [], ◌∷◌, ◌++◌, length, take, drop}
use Rattle.std.specs.Prelude.{Option, refl}
use Rattle.std.specs.Coded.{Coded, code_by, coded×, coded_bool, coded_ℕ}
use Rattle.std.specs.Io.KnownBytes.{Consumes, IsAtEnd}
use Rattle.trac_rules.specs.Codes.{text_code}
use Rattle.trac_streams.specs.declared.ending.Ending.{Ending}
use Rattle.trac_streams.specs.declared.ending.Ending.TheVariants.{Memory, Read}
use Rattle.trac_messages.specs.declared.header.TheConstants.{HEADER_LIMIT, MESSAGE_LIMIT}
use Rattle.trac_messages.specs.declared.incoming.Front.{Front}
use Rattle.trac_messages.specs.declared.incoming.Front.TheVariants.{Whole, Beyond, Unannounced, Broken, End, Part}
use Rattle.trac_messages.specs.declared.incoming.Next.{Next}
use Rattle.trac_messages.specs.Frames.{Frame, frames_of}

-- bytes that were read: the message that was given last, the bytes after it, how many are to be passed over that are
-- not read yet, and whether there are no more to be read
pub record Pending : Type 0 where
  pub message : List ℕ
  pub bytes : List ℕ
  pub skip : ℕ
  pub ended : Bool

abbrev pub pending_code : Coded Pending
pending_code = code_by (List ℕ × (List ℕ × (ℕ × Bool)))
    (coded× text_code (coded× text_code (coded× coded_ℕ coded_bool)))
    (λ p. (p.message, (p.bytes, (p.skip, p.ended))))
    (λ p. record { message = p.0; bytes = p.1.0; skip = p.1.1.0; ended = p.1.1.1 }) (λ _. refl)

-- the bytes that come next, if a reader gives these
abbrev pub coming : Pending → List ℕ → List ℕ
coming p more = drop p.skip (p.bytes ++ more)

-- a reader gave some bytes, which came after those that were there, and perhaps its end was seen. It was, if there are
-- no more to be read
pub record Gathers (in_old in_new : Option (List ℕ)) (old new : Pending) : Type 0 where
  pub got : List ℕ
  pub took : Consumes in_old in_new got
  pub same : (more : List ℕ) → coming new more ≡ coming old (got ++ more)
  pub at_end : (old.ended ≡ true → IsAtEnd in_old) → new.ended ≡ true → IsAtEnd in_new

-- the frames of the bytes that come, if these come after the next
abbrev pub told : Next → List ℕ → List Frame → List Frame
told Next.Message message rest = Frame.Message message ∷ rest
told (Next.TooLong len) message rest = Frame.TooLong len ∷ rest
told Next.NoLength message rest = Frame.NoLength ∷ rest
told Next.Cut message rest = Frame.Cut ∷ rest
told Next.End message rest = []

-- this is the first frame of the bytes that come, whatever comes after those that are held; nothing, if they have ended
abbrev pub IsGiven : Pending → Pending → Next → Type 0
IsGiven old new next = (more : List ℕ) → (new.ended ≡ true → more ≡ []) →
    frames_of (coming old more) ≡ told next new.message (frames_of (coming new more))

-- a reader gave some bytes, of which this is the first frame, whatever more comes; nothing comes after its end
pub record Gives (in_old in_new : Option (List ℕ)) (old new : Pending) (next : Next) : Type 0 where
  pub got : List ℕ
  pub took : Consumes in_old in_new got
  pub frames : (more : List ℕ) → (new.ended ≡ true → more ≡ []) →
      frames_of (coming old (got ++ more)) ≡ told next new.message (frames_of (coming new more))
  pub at_end : (old.ended ≡ true → IsAtEnd in_old) → new.ended ≡ true → IsAtEnd in_new

-- a read failed, or memory was refused before one: the bytes that come are those that came before
pub record Fails (in_old in_new : Option (List ℕ)) (old new : Pending) (ending : Ending) : Type 0 where
  pub gathers : Gathers in_old in_new old new
  pub fault : (ending ≡ Memory) ⊎ (ending ≡ Read)

-- one read, which gave a byte at least, or saw the end
pub record ReadsMore (in_old in_new : Option (List ℕ)) (old new : Pending) : Type 0 where
  pub gathers : Gathers in_old in_new old new
  pub more : ((new.ended ≡ true) × (new.skip ≡ old.skip) × (new.bytes ≡ old.bytes))
      ⊎ ((new.ended ≡ false) × (new.skip ≤ old.skip) × (length old.bytes ≤ length new.bytes)
      × (new.skip + length old.bytes < old.skip + length new.bytes))

-- ---- the front

-- so many bytes are held at most while a frame is not whole
abbrev pub HELD_LIMIT : ℕ
HELD_LIMIT = HEADER_LIMIT + MESSAGE_LIMIT

-- what stands at the front of these bytes, whatever more comes after them: nothing, if they have ended
abbrev pub IsFront : List ℕ → Bool → Front → Type 0
IsFront bytes ended (Whole size len) = (size + len ≤ length bytes) × ((more : List ℕ) →
    frames_of (bytes ++ more)
    ≡ Frame.Message (take len (drop size bytes)) ∷ frames_of (drop (size + len) (bytes ++ more)))
IsFront bytes ended (Beyond size len) = (size ≤ length bytes) × ((more : List ℕ) →
    frames_of (bytes ++ more) ≡ Frame.TooLong len ∷ frames_of (drop (size + len) (bytes ++ more)))
IsFront bytes ended (Unannounced size) = (more : List ℕ) →
    frames_of (bytes ++ more) ≡ Frame.NoLength ∷ frames_of (drop size (bytes ++ more))
IsFront bytes ended Broken = (ended ≡ true) × (frames_of bytes ≡ Frame.Cut ∷ [])
IsFront bytes ended End = (ended ≡ true) × (bytes ≡ [])
IsFront bytes ended Part = (ended ≡ false) × (length bytes < HELD_LIMIT)

-- something stands at the front of these bytes that is seen without a read
pub record IsReady (bytes : List ℕ) (ended : Bool) : Type 0 where
  pub front : Front
  pub is : IsFront bytes ended front
  pub whole : front ≢ Part
