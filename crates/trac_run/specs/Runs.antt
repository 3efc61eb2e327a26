-- What a run reads and writes.
use Rattle.std.specs.Prelude.{◌≡◌, ℕ, ◌+◌, ◌-◌, ◌*◌, ◌<◌, ◌≤◌, Bool, true, if◌then◌else◌, List, [], ◌∷◌, ◌++◌, length}
use Rattle.std.specs.Prelude.{Option, Result, Ok, Err, ◌⊎◌}
use Rattle.std.specs.Io.KnownBytes.{Appends, Consumes, IsAtEnd}
use Rattle.trac_rules.specs.declared.limit.TheConstants.{TEXT_LIMIT, TAPE_LIMIT}
use Rattle.trac_rules.specs.declared.refusal.Refusal.{Refusal}
use Rattle.trac_rules.specs.declared.refusal.Refusal.TheVariants as refusals
use Rattle.trac_rules.specs.declared.reply.Reply.TheVariants.{Refused}
use Rattle.trac_rules.specs.Session.{PlainSession, Command, Feed, End, Step, Back, Commit, done, first_kept}
use Rattle.trac_rules.specs.Session.{new_session, refused, answer, Answers}
use Rattle.trac_rules.specs.declared.width.Width.{Width}
use Rattle.trac_rules.specs.Running.{Output, BudgetSpent, InputEnded, LimitPassed, output_of}
use Rattle.trac_rules.specs.GoingOn.{prepended, going_on_from}
use Rattle.trac_session.specs.Outputs.{Prints}
use Rattle.trac_streams.specs.declared.ending.Ending.{Ending}
use Rattle.trac_streams.specs.declared.input.TheConstants.{READ_SIZE}
use Rattle.trac_streams.specs.declared.ending.Ending.TheVariants.{Ended, Budget, Limit, Memory, Read, Write}
use Rattle.trac_streams.specs.declared.ending.Ending.TheVariants.{NotUnderstood}
use Rattle.trac_rules.specs.Fronts.{IsFrontOf}
use Rattle.trac_streams.specs.Reading.{CameBy, CountsReads, end_reads, empty_reads, fault_reads}

-- ---- endings

-- how a run ends whose feed is refused
abbrev pub ending_of_feed : Refusal → Ending
ending_of_feed refusals.Memory = Memory
ending_of_feed refusal = Limit

-- what an ending says of the stated output. If it is not a fault or want of memory, all of the output is written, and
-- the ending is the stated one
abbrev pub Shows : Ending → List ℕ → Output → Type 0
Shows Ended written o = o ≡ record { bytes = written; stop = InputEnded }
Shows Budget written o = o ≡ record { bytes = written; stop = BudgetSpent }
Shows Limit written o = o ≡ record { bytes = written; stop = LimitPassed }
Shows Memory written o = Unit {0}
Shows Read written o = Unit {0}
Shows Write written o = Unit {0}
-- a run is given no commands
Shows (NotUnderstood line) written o = ⊥

-- ---- a whole run

-- a run of so many steps reads no more bytes than this: for each step as many as a tape may have. Then come a tape that
-- no step reads, and one read for which that tape has no place
abbrev pub most_read : ℕ → ℕ
most_read steps = steps * TAPE_LIMIT + (TAPE_LIMIT + READ_SIZE)

-- a run with numbers of this width read some bytes, and perhaps saw the end of the input, and wrote some. The input may
-- go on after what was read, but not if the end was seen. However it goes on, what was written is a front of the output
-- that is stated for all of it and the budget. The ending of the run is the stated one if it is not a fault or want of
-- memory: all is written then. The run took so many steps within its budget, and read no more than they may. Unless the
-- writer failed, it wrote just what they print
pub record Runs (in_old in_new out_old out_new : Option (List ℕ)) (width : Width) (budget : ℕ) (ending : Ending)
    : Type 0 where
  pub got : List ℕ
  pub written : List ℕ
  pub saw_end : Bool
  pub steps : ℕ
  pub within : steps ≤ budget
  pub few : length got ≤ most_read steps
  pub took : Consumes in_old in_new got
  pub gave : Appends out_old out_new written
  pub at_end : saw_end ≡ true → IsAtEnd in_new
  pub front : (more : List ℕ) → (saw_end ≡ true → more ≡ []) →
      IsFrontOf written (output_of width (got ++ more) budget).bytes
  pub shows : (more : List ℕ) → (saw_end ≡ true → more ≡ []) →
      Shows ending written (output_of width (got ++ more) budget)
  pub exact : (ending ≡ Write → ⊥) → (more : List ℕ) → (saw_end ≡ true → more ≡ []) →
      Prints width (got ++ more) steps written

-- ---- what a run did

-- a run of so many steps reads no more often than this: 33,554,433 times before each step and after the last
abbrev pub most_reads : ℕ → ℕ
most_reads steps = (steps + 1) * (TAPE_LIMIT + 1)

-- a run, of which what it did is counted. It took so many steps, and so many reads gave it its bytes: one for each byte
-- at most, and perhaps one that gave nothing. It read no more often than a run of so many steps may
pub record RunsBy (in_old in_new out_old out_new : Option (List ℕ)) (width : Width) (budget steps reads : ℕ)
    (ending : Ending) : Type 0 where
  pub runs : Runs in_old in_new out_old out_new width budget ending
  pub taken : runs.steps ≡ steps
  pub counted : CountsReads reads runs.got runs.saw_end ending
  pub few_reads : reads ≤ most_reads steps

-- how many of these commands are steps
abbrev pub step_count : List Command → ℕ
step_count [] = 0
step_count (Step ∷ commands) = 1 + step_count commands
step_count (command ∷ commands) = step_count commands

-- the next step waits for input
abbrev pub Waits : PlainSession → Type 0
Waits p = answer Step p ≡ refused refusals.NeedInput p

-- these bytes may be what one read gave
abbrev pub IsOfRead : List ℕ → Type 0
IsOfRead bytes = (0 < length bytes) × (length bytes ≤ READ_SIZE)

-- each of these commands is done, one after another, and none of them is a step back. Input comes only while the next
-- step waits for it: what one read gave, or the end. The commits release this text
abbrev pub AreDone : List Command → PlainSession → List ℕ → PlainSession → Type 0
AreDone [] p text q = (text ≡ []) × (q ≡ p)
AreDone (Back ∷ commands) p text q = ⊥
AreDone (Feed bytes ∷ commands) p text q =
    Waits p × IsOfRead bytes × ((r : PlainSession) × (answer (Feed bytes) p ≡ done r) × AreDone commands r text q)
AreDone (End ∷ commands) p text q = Waits p × ((r : PlainSession) × (answer End p ≡ done r) × AreDone commands r text q)
AreDone (Commit keep ∷ commands) p text q = (r : PlainSession) × (answer (Commit keep) p ≡ done r)
    × ((rest : List ℕ) × (text ≡ (first_kept keep p).output ++ rest) × AreDone commands r rest q)
AreDone (command ∷ commands) p text q = (r : PlainSession) × (answer command p ≡ done r) × AreDone commands r text q

-- one session became the other by so many accepted steps, with feeds, the end of the input and commits between them
pub record TakesSteps (steps : ℕ) (p q : PlainSession) : Type 0 where
  pub commands : List Command
  pub released : List ℕ
  pub are_done : AreDone commands p released q
  pub count : step_count commands ≡ steps

-- what these commands feed
abbrev pub fed_by : List Command → List ℕ
fed_by [] = []
fed_by (Feed bytes ∷ commands) = bytes ++ fed_by commands
fed_by (command ∷ commands) = fed_by commands

-- the same, and what was read is what the feeds between the steps were, and a rest. The rest is nothing, or what a last
-- read gave while the next step waited: so no byte was read but while a step waited. What was written is what the
-- commits between the steps released, and then a front of what is pending
pub record FeedsSteps (in_old in_new out_old out_new : Option (List ℕ)) (steps : ℕ) (rest late : List ℕ)
    (p q : PlainSession) : Type 0 where
  pub takes : TakesSteps steps p q
  pub took : Consumes in_old in_new (fed_by takes.commands ++ rest)
  pub unfed : (rest ≡ []) ⊎ (Waits q × IsOfRead rest)
  pub gave : Appends out_old out_new (takes.released ++ late)
  pub pending : IsFrontOf late q.last.output

-- this rest was read and not fed. If nothing is left, a run ends for want of memory only if the session may lack it for
-- its next step. Else it ends so only if the session may lack it to be fed the rest. So it never does where the rules
-- refuse that step for anything but a limit, nor where the rest has no place on the tape. It ends for a fault of the
-- reader only if the next step waits for input, and nothing is left
abbrev pub Leaves : Ending → List ℕ → PlainSession → Type 0
Leaves Memory rest p = ((rest ≡ []) × Answers Step p (Refused refusals.Memory) p)
    ⊎ ((0 < length rest) × Answers (Feed rest) p (Refused refusals.Memory) p)
Leaves Read rest p = (rest ≡ []) × Waits p
Leaves ending rest p = Unit {0}

-- the same to a run's end, whatever the rest and that front are
abbrev pub FeedsToLast : Ending → Option (List ℕ) → Option (List ℕ) → Option (List ℕ) → Option (List ℕ) → ℕ →
    PlainSession → PlainSession → Type 0
FeedsToLast ending in_old in_new out_old out_new steps p q = (rest : List ℕ) × (late : List ℕ)
    × FeedsSteps in_old in_new out_old out_new steps rest late p q × Leaves ending rest q

-- a part of a run took so many steps. If the run goes on after it, all that it read is fed, and all that it wrote is
-- released
abbrev pub FeedsAsFar : {T : Type 0} → Result T Ending → Option (List ℕ) → Option (List ℕ) → Option (List ℕ) →
    Option (List ℕ) → ℕ → PlainSession → PlainSession → Type 0
FeedsAsFar (Ok x) in_old in_new out_old out_new steps p q = FeedsSteps in_old in_new out_old out_new steps [] [] p q
FeedsAsFar (Err ending) in_old in_new out_old out_new steps p q =
    FeedsToLast ending in_old in_new out_old out_new steps p q

-- a whole run: its session began new, and may keep so many states. What was read is what was fed to it while its next
-- step waited for input, and perhaps what a last such read gave. So no byte was read once the program halted. What was
-- written is what it released, and a front of what was pending
pub record RunsAnew (in_old in_new out_old out_new : Option (List ℕ)) (journal : ℕ) (width : Width) (budget : ℕ)
    (ending : Ending) : Type 0 where
  pub runs : Runs in_old in_new out_old out_new width budget ending
  pub session : PlainSession
  pub feeds : FeedsToLast ending in_old in_new out_old out_new runs.steps (new_session journal width) session

-- ---- parts of a run

-- a session at the beginning of a turn: nothing to go back over, nothing pending and nothing read
pub record IsFresh (p : PlainSession) : Type 0 where
  pub some_records : 1 ≤ p.limit
  pub first : p.earlier ≡ []
  pub nothing_pending : p.last.output ≡ []
  pub nothing_read : p.last.position ≡ 0

-- how many turns there may still be, with so many steps left: each turn takes a step, or lengthens the tape, or ends it
abbrev pub turns_left : PlainSession → ℕ → ℕ
turns_left p n = n * (TAPE_LIMIT + 2) + (TAPE_LIMIT - length p.tape.bytes) + (if p.tape.ended then 0 else 1)

-- how many bytes of the tape are not read yet
abbrev pub unread_count : PlainSession → ℕ
unread_count p = length p.tape.bytes - p.last.position

-- what a part of a run read and wrote, and how many of its reads gave bytes
pub record Transfer (in_old in_new out_old out_new : Option (List ℕ)) : Type 0 where
  pub got : List ℕ
  pub written : List ℕ
  pub took : Consumes in_old in_new got
  pub gave : Appends out_old out_new written
  pub full : ℕ
  pub came : CameBy full got

-- steps were taken, as many as are left less. They and any number of further steps write a text from one session on. It
-- is what was written, and then what the further steps write from the other session on. What was read is unread there,
-- or steps took it, each no more than a tape may have
pub record GoesOn (in_old in_new out_old out_new : Option (List ℕ)) (reads_old reads_new : ℕ) (p : PlainSession) (m : ℕ)
    (q : PlainSession) (n : ℕ) : Type 0 where
  pub moved : Transfer in_old in_new out_old out_new
  pub closed : p.tape.ended ≡ true → (moved.got ≡ []) × (q.tape.ended ≡ true)
  pub at_end : q.tape.ended ≡ true → IsAtEnd in_new
  pub within : n ≤ m
  pub rest : (k : ℕ) → (more : List ℕ) → (q.tape.ended ≡ true → more ≡ []) →
      going_on_from p (moved.got ++ more) (k + (m - n)) ≡ prepended moved.written (going_on_from q more k)
  pub fits : length p.tape.bytes ≤ TAPE_LIMIT → length q.tape.bytes ≤ TAPE_LIMIT
  pub few : length p.tape.bytes ≤ TAPE_LIMIT →
      length moved.got + unread_count p + n * TAPE_LIMIT ≤ unread_count q + m * TAPE_LIMIT
  pub counted : reads_new + end_reads p.tape.ended ≡ reads_old + moved.full + end_reads q.tape.ended

-- what was written is a front of what was to be written from a session on, and the ending is the stated one. Unless the
-- writer failed, it is just what the steps print that were taken. No more was read than may be, with so many of the
-- steps still left, and no more often
pub record Finishes (in_old in_new out_old out_new : Option (List ℕ)) (reads_old reads_new : ℕ) (p : PlainSession)
    (m n : ℕ) (ending : Ending) : Type 0 where
  pub moved : Transfer in_old in_new out_old out_new
  pub closed : p.tape.ended ≡ true → moved.got ≡ []
  pub at_end : p.tape.ended ≡ true → IsAtEnd in_new
  pub front : (more : List ℕ) → (p.tape.ended ≡ true → more ≡ []) →
      IsFrontOf moved.written (going_on_from p (moved.got ++ more) m).bytes
  pub shows : (more : List ℕ) → (p.tape.ended ≡ true → more ≡ []) →
      Shows ending moved.written (going_on_from p (moved.got ++ more) m)
  pub within : n ≤ m
  pub exact : (ending ≡ Write → ⊥) → (more : List ℕ) → (p.tape.ended ≡ true → more ≡ []) →
      going_on_from p (moved.got ++ more) (m - n) ≡ record { bytes = moved.written; stop = BudgetSpent }
  pub few : length p.tape.bytes ≤ TAPE_LIMIT → length moved.got + unread_count p + n * TAPE_LIMIT ≤ most_read m
  pub counted : reads_new + end_reads p.tape.ended ≡ reads_old + moved.full + empty_reads p.tape.ended ending
  pub few_reads : length p.tape.bytes ≤ TAPE_LIMIT →
      moved.full + empty_reads p.tape.ended ending + unread_count p + n * TAPE_LIMIT ≤ m * TAPE_LIMIT + (TAPE_LIMIT + 1)

-- ---- one read

-- the reader gave these bytes, which were fed, or gave none, which is the end
abbrev pub FeedsOrEnds : PlainSession → List ℕ → PlainSession → Option (List ℕ) → Type 0
FeedsOrEnds p got q rest =
    ((got ≡ []) × IsAtEnd rest × (answer End p ≡ done q)) ⊎ ((0 < length got) × (answer (Feed got) p ≡ done q))

-- why the bytes that the reader gave were not fed. It gave none for a fault, or memory may be lacking for them, or more
-- is unread than any text may hold
abbrev pub EndsFor : Ending → PlainSession → List ℕ → Type 0
EndsFor Read p got = got ≡ []
EndsFor Memory p got = (0 < length got) × Answers (Feed got) p (Refused refusals.Memory) p
EndsFor Limit p got = TEXT_LIMIT < length p.tape.bytes
EndsFor Ended p got = ⊥
EndsFor Budget p got = ⊥
EndsFor Write p got = ⊥
EndsFor (NotUnderstood line) p got = ⊥

-- the reader took these bytes from its input, no more than one read gives, and none only if it failed. The session
-- stays as it was
pub record TakesNone (in_old in_new : Option (List ℕ)) (p q : PlainSession) (ending : Ending) : Type 0 where
  pub got : List ℕ
  pub few : length got ≤ READ_SIZE
  pub came : CameBy (1 - fault_reads ending) got
  pub took : Consumes in_old in_new got
  pub same : q ≡ p
  pub why : EndsFor ending p got

-- the reader gave more, or came to its end
pub record TakesMore (in_old in_new : Option (List ℕ)) (p q : PlainSession) : Type 0 where
  pub got : List ℕ
  pub few : length got ≤ READ_SIZE
  pub took : Consumes in_old in_new got
  pub fed : FeedsOrEnds p got q in_new

-- a step that waited for input still waits for it
abbrev pub StillWaits : PlainSession → PlainSession → Type 0
StillWaits p q = answer Step p ≡ refused refusals.NeedInput p → answer Step q ≡ refused refusals.NeedInput q
