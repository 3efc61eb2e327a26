-- The frames of bytes.
use Rattle.std.specs.Prelude.{ℕ, zero, suc, ◌+◌, nat_le, List, [], ◌∷◌, ◌++◌, length, take, drop, if◌then◌else◌}
use Rattle.std.specs.Prelude.{decimal}
use Rattle.trac_messages.specs.declared.header.TheConstants.{HEADER_LIMIT, MESSAGE_LIMIT}
use Rattle.trac_messages.specs.declared.header.Heading.{Heading}
use Rattle.trac_messages.specs.declared.header.Heading.TheVariants.{Open, Silent, Announces}
use Rattle.trac_messages.specs.Headers.{header_end, heading_of, length_field}

-- what stands in a frame
pub data Frame : Type 0 where
  -- a message
  Message : List ℕ → Frame
  -- a message of this length, which is more than a message may have
  TooLong : ℕ → Frame
  -- a header that announces no length
  NoLength : Frame
  -- a frame in which the bytes end
  Cut : Frame

-- so many bytes make the frame with this header; if the bytes end in it, there are fewer
abbrev pub size_of : Heading → ℕ
size_of Open = HEADER_LIMIT
size_of (Silent size) = size
size_of (Announces size len) = size + len

-- what stands in the frame with this header, with which bytes begin
abbrev pub framed : Heading → List ℕ → Frame
framed Open bytes = Cut
framed (Silent size) bytes = NoLength
framed (Announces size len) bytes =
    if nat_le len MESSAGE_LIMIT
    then (if nat_le (size + len) (length bytes) then Message (take len (drop size bytes)) else Cut)
    else TooLong len

-- the first frame of bytes
abbrev pub first_frame : List ℕ → Frame
first_frame bytes = framed (heading_of bytes) bytes

-- the bytes after it
abbrev pub after_first : List ℕ → List ℕ
after_first bytes = drop (size_of (heading_of bytes)) bytes

-- the first frames of bytes, at most so many
abbrev pub frames_up_to : ℕ → List ℕ → List Frame
frames_up_to zero bytes = []
frames_up_to (suc n) [] = []
frames_up_to (suc n) (b ∷ bytes) = first_frame (b ∷ bytes) ∷ frames_up_to n (after_first (b ∷ bytes))

-- the frames of bytes: no more than there are bytes
unfoldable pub frames_of : List ℕ → List Frame
frames_of bytes = frames_up_to (length bytes) bytes

-- the bytes of a message's frame
abbrev pub frame_bytes : List ℕ → List ℕ
frame_bytes message = length_field ++ (decimal (length message) ++ (header_end ++ message))
