-- What the debugger reads and writes.
use Rattle.std.specs.Prelude.{◌≡◌, ◌⊎◌, ℕ, ◌+◌, ◌*◌, ◌≤◌, Bool, true, false, List, [], ◌∷◌, ◌++◌, drop, length, Option}
use Rattle.std.specs.Io.KnownBytes.{Appends, Consumes, IsAtEnd, Keeps}
use Rattle.trac_rules.specs.declared.width.Width.{Width}
use Rattle.trac_rules.specs.declared.limit.TheConstants.{TAPE_LIMIT}
use Rattle.trac_rules.specs.Fronts.{IsFrontOf}
use Rattle.trac_rules.specs.Session.{PlainSession}
use Rattle.trac_streams.specs.declared.ending.Ending.{Ending}
use Rattle.trac_streams.specs.declared.ending.Ending.TheVariants.{Memory, Read, Write}
use Rattle.trac_streams.specs.Lines.{feed_count, lines_of}
use Rattle.trac_debug.specs.Commands.{LineCommand}
use Rattle.trac_debug.specs.Replies.{Replies, is_walk}
use Rattle.trac_debug.specs.Debugging.{Turn, Passes, Does, Ends, LeadsTo, MayWrite, RepliesInPart, ready, turn_at}
use Rattle.trac_streams.specs.declared.input.TheConstants.{READ_SIZE}
use Rattle.trac_streams.specs.declared.lines.TheConstants.{LINE_LIMIT, LINE_COUNT_LIMIT}
use Rattle.trac_streams.specs.Pending.{Pending}
use Rattle.trac_streams.specs.Reading.{HELD_LIMIT, AreInLine, CameBy, CountsReads, end_reads, empty_reads}
use Rattle.trac_streams.specs.Written.{WritesFront}

-- ---- a whole session

-- what is said of an ending that is no fault
abbrev pub UnlessFault : Ending → Type 0 → Type 0
UnlessFault Memory Fact = Unit {0}
UnlessFault Read Fact = Unit {0}
UnlessFault Write Fact = Unit {0}
UnlessFault ending Fact = Fact

-- what is said of an ending but a fault of the writer
abbrev pub UnlessWrite : Ending → Type 0 → Type 0
UnlessWrite Write Fact = Unit {0}
UnlessWrite ending Fact = Fact

-- what is said of a fault of the writer
abbrev pub OnWrite : Ending → Type 0 → Type 0
OnWrite Write Fact = Fact
OnWrite ending Fact = Unit {0}

-- a line is still being read, once so many are done with. Each line feed that was read ended one of these, and the end
-- was not seen
abbrev pub IsReading : ℕ → Bool → List ℕ → Type 0
IsReading done saw_end read = (saw_end ≡ false) × (feed_count read ≡ done)

-- the first of these lines, of this number, is a command of this kind, which is to be replied to
abbrev pub BeginsWith : (LineCommand → Type 0) → ℕ → List (List ℕ) → Type 0
BeginsWith IsKind number lines = (line : List ℕ) × (later : List (List ℕ)) × (command : LineCommand)
    × (lines ≡ line ∷ later) × (turn_at number line ≡ Does command) × IsKind command

-- where a session ends for a fault: it is done with so many of the lines of these commands, of which it read this. The
-- reader fails as the next line is being read, and the writer in the reply to the next. Memory is wanting as the next
-- line is being read, or for the reply to it. Such a reply is the state or what was released, and never that to a walk
abbrev pub FaultsAt : Ending → ℕ → ℕ → Bool → List ℕ → List ℕ → Type 0
FaultsAt Memory done number saw_end read commands =
    IsReading done saw_end read ⊎ BeginsWith (λ command. is_walk command ≡ false) number (drop done (lines_of commands))
FaultsAt Read done number saw_end read commands = IsReading done saw_end read
FaultsAt Write done number saw_end read commands =
    BeginsWith (λ command. Unit {0}) number (drop done (lines_of commands))
FaultsAt ending done number saw_end read commands = Unit {0}

-- a session reads no more bytes of commands than this. They are as many lines as there may be, each as long as it may
-- be and with what ends it. Then come as many bytes as are held at most
abbrev pub MOST_READ : ℕ
MOST_READ = LINE_COUNT_LIMIT * (LINE_LIMIT + 2) + HELD_LIMIT

-- the reads of a session that is done with so many lines, which gave this in all. No byte was read but while a line was
-- being read: before the last read that gave any, no more lines had ended than these. Nor have more if the end was seen
pub record ReadsInLines (done : ℕ) (saw_end : Bool) (got : List ℕ) : Type 0 where
  pub before : List ℕ
  pub piece : List ℕ
  pub all : got ≡ before ++ piece
  pub few : length piece ≤ READ_SIZE
  pub feeds : feed_count before ≤ done
  pub at_end : saw_end ≡ true → feed_count got ≤ done

-- a session read some commands, no more than it may, and perhaps saw the end of them, and wrote some bytes. The
-- commands may go on after what was read, but not if the end was seen. However they go on, what was written is a front
-- of a text that is stated for all of them. If the ending of the session is not a fault or want of memory, what was
-- written is a whole one, with that ending. Unless the writer failed, it is the replies to the first so many lines: no
-- reply for which memory was refused is written in part. A fault comes where it may come after them. No byte was read
-- once the line was read that ended the session
pub record Debugs (in_old in_new out_old out_new : Option (List ℕ)) (Stated : List ℕ → List ℕ → Ending → Type 0)
    (ToFirst : ℕ → List ℕ → List ℕ → Type 0) (ending : Ending) : Type 0 where
  pub got : List ℕ
  pub few : length got ≤ MOST_READ
  pub written : List ℕ
  pub saw_end : Bool
  pub took : Consumes in_old in_new got
  pub gave : Appends out_old out_new written
  pub at_end : saw_end ≡ true → IsAtEnd in_new
  pub front : (more : List ℕ) → (saw_end ≡ true → more ≡ []) →
      (text : List ℕ) × (stop : Ending) × Stated (got ++ more) text stop × IsFrontOf written text
  pub whole : (more : List ℕ) → (saw_end ≡ true → more ≡ []) → UnlessFault ending (Stated (got ++ more) written ending)
  pub replied : ℕ
  pub few_lines : replied ≤ LINE_COUNT_LIMIT
  pub replies : (more : List ℕ) → (saw_end ≡ true → more ≡ []) →
      UnlessWrite ending (ToFirst replied (got ++ more) written)
  pub faults : (more : List ℕ) → (saw_end ≡ true → more ≡ []) →
      FaultsAt ending replied (replied + 1) saw_end got (got ++ more)
  pub reads : ReadsInLines replied saw_end got

-- a session, of which what it did is counted. So many lines were done with. It read no more bytes than these lines and
-- what is held may have, and read just so often. If the writer failed, a part of one more reply may be written
pub record DebugsBy (in_old in_new out_old out_new : Option (List ℕ)) (Stated : List ℕ → List ℕ → Ending → Type 0)
    (ToFirst InPart : ℕ → List ℕ → List ℕ → Type 0) (lines reads : ℕ) (ending : Ending) : Type 0 where
  pub debugs : Debugs in_old in_new out_old out_new Stated ToFirst ending
  pub done_with : debugs.replied ≡ lines
  pub few : length debugs.got ≤ lines * (LINE_LIMIT + 2) + HELD_LIMIT
  pub counted : CountsReads reads debugs.got debugs.saw_end ending
  pub unwritten : (more : List ℕ) → (debugs.saw_end ≡ true → more ≡ []) →
      OnWrite ending (InPart lines (debugs.got ++ more) debugs.written)

-- ---- parts of a session

-- a session over a tape that is not too long
pub record IsReady (tape : List ℕ) (limit : ℕ) (width : Width) (p : PlainSession) : Type 0 where
  pub within : length tape ≤ TAPE_LIMIT
  pub is : p ≡ ready tape limit width

-- a command is replied to: all of a reply was written
pub record IsReplied (command : LineCommand) (old new : PlainSession) (out_old out_new : Option (List ℕ)) : Type 0 where
  pub reply : List ℕ
  pub replies : Replies command old reply new
  pub gave : Appends out_old out_new reply

-- a reply could not be made to a command that is no walk. Then nothing was written, and the session stayed as it was.
-- Or a reply could not be written. Then a front of it was, and the session is left as the command made it
pub record IsNotReplied (command : LineCommand) (old new : PlainSession) (out_old out_new : Option (List ℕ))
    (ending : Ending) : Type 0 where
  pub reply : List ℕ
  pub made : PlainSession
  pub replies : Replies command old reply made
  pub front : WritesFront out_old out_new reply
  pub fault : ((ending ≡ Memory) × (front.written ≡ []) × (is_walk command ≡ false) × (new ≡ old))
      ⊎ ((ending ≡ Write) × (new ≡ made))

-- a turn is done with, and the session goes on
abbrev pub Settles : Turn → PlainSession → PlainSession → Option (List ℕ) → Option (List ℕ) → Type 0
Settles Passes old new out_old out_new = (new ≡ old) × Keeps out_old out_new
Settles (Does command) old new out_old out_new = IsReplied command old new out_old out_new
Settles (Ends stop) old new out_old out_new = ⊥

-- the session ends in a turn
abbrev pub Stops : Turn → PlainSession → PlainSession → Option (List ℕ) → Option (List ℕ) → Ending → Type 0
Stops Passes old new out_old out_new ending = ⊥
Stops (Does command) old new out_old out_new ending = IsNotReplied command old new out_old out_new ending
Stops (Ends stop) old new out_old out_new ending = (ending ≡ stop) × Keeps out_old out_new × (new ≡ old)

-- a line stands at the front of the text, whatever comes after it, and is taken with what ends it. No byte was read
-- once it was read. With this number it leads from one session to the other, and the reply to it was written
pub record Advances (in_old in_new out_old out_new : Option (List ℕ)) (reads_old reads_new number : ℕ)
    (lines_old : Pending) (p : PlainSession) (lines_new : Pending) (q : PlainSession) : Type 0 where
  pub got : List ℕ
  pub written : List ℕ
  pub took : Consumes in_old in_new got
  pub gave : Appends out_old out_new written
  pub closed : lines_old.ended ≡ true → (got ≡ []) × (lines_new.ended ≡ true)
  pub at_end : lines_new.ended ≡ true → IsAtEnd in_new
  pub in_line : AreInLine lines_old lines_new.ended got
  pub line : List ℕ
  pub splits : (more : List ℕ) → (lines_new.ended ≡ true → more ≡ []) →
      lines_of (lines_old.bytes ++ (got ++ more)) ≡ line ∷ lines_of (lines_new.bytes ++ more)
  pub leads : LeadsTo (line ∷ []) number p written q
  pub few : length lines_old.bytes + length got ≤ length lines_new.bytes + (LINE_LIMIT + 2)
  pub held : length lines_old.bytes ≤ HELD_LIMIT → length lines_new.bytes ≤ HELD_LIMIT
  pub full : ℕ
  pub came : CameBy full got
  pub counted : reads_new + end_reads lines_old.ended ≡ reads_old + full + end_reads lines_new.ended

-- the session ends. A front was written of what may be written from the line of this number on. That is the whole if
-- there was no fault. Unless the writer failed, nothing was written, and the session stayed as it was. If it failed,
-- the line led from the one session to the other. A fault comes where it may come. No read came once the line was read
pub record Halts (in_old in_new out_old out_new : Option (List ℕ)) (reads_old reads_new number : ℕ)
    (lines_old : Pending) (p q : PlainSession) (ending : Ending) : Type 0 where
  pub got : List ℕ
  pub written : List ℕ
  pub saw_end : Bool
  pub took : Consumes in_old in_new got
  pub gave : Appends out_old out_new written
  pub closed : lines_old.ended ≡ true → (got ≡ []) × (saw_end ≡ true)
  pub at_end : saw_end ≡ true → IsAtEnd in_new
  pub in_line : AreInLine lines_old saw_end got
  pub front : (more : List ℕ) → (saw_end ≡ true → more ≡ []) → (text : List ℕ) × (stop : Ending)
      × MayWrite (lines_of (lines_old.bytes ++ (got ++ more))) number p text stop × IsFrontOf written text
  pub whole : (more : List ℕ) → (saw_end ≡ true → more ≡ []) →
      UnlessFault ending (MayWrite (lines_of (lines_old.bytes ++ (got ++ more))) number p written ending)
  pub nothing : UnlessWrite ending (written ≡ [])
  pub stays : UnlessWrite ending (q ≡ p)
  pub unwritten : (more : List ℕ) → (saw_end ≡ true → more ≡ []) →
      OnWrite ending (RepliesInPart (lines_of (lines_old.bytes ++ (got ++ more))) number p written q)
  pub faults : (more : List ℕ) → (saw_end ≡ true → more ≡ []) →
      FaultsAt ending 0 number saw_end (lines_old.bytes ++ got) (lines_old.bytes ++ (got ++ more))
  pub held : length lines_old.bytes ≤ HELD_LIMIT → length lines_old.bytes + length got ≤ HELD_LIMIT
  pub full : ℕ
  pub came : CameBy full got
  pub counted : reads_new + end_reads lines_old.ended ≡ reads_old + full + empty_reads saw_end ending
