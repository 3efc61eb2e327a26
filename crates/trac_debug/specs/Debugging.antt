-- A whole session of the debugger: what is written, and how it ends.
use Rattle.std.specs.Prelude.{◌≡◌, ℕ, ◌+◌, ◌≤◌, nat_le, List, [], ◌∷◌, ◌++◌, drop, length, take, if◌then◌else◌}
use Rattle.std.specs.Prelude.{Bool, true, false, Option, None, Some}
use Rattle.trac_rules.specs.declared.width.Width.{Width}
use Rattle.trac_rules.specs.declared.limit.TheConstants.{TAPE_LIMIT}
use Rattle.trac_rules.specs.Fronts.{IsFrontOf}
use Rattle.trac_rules.specs.Session.{PlainSession, new_session}
use Rattle.trac_streams.specs.declared.ending.Ending.{Ending}
use Rattle.trac_streams.specs.declared.ending.Ending.TheVariants.{Ended, Budget, Limit, NotUnderstood}
use Rattle.trac_streams.specs.declared.lines.TheConstants.{LINE_COUNT_LIMIT}
use Rattle.trac_streams.specs.Lines.{is_within, lines_of}
use Rattle.trac_debug.specs.Commands.{LineCommand, Quit, command_of}
use Rattle.trac_debug.specs.Replies.{Replies, RepliesWithMemory}
use Rattle.trac_debug.specs.Outputs.{Tells}
use Rattle.trac_session.specs.Outputs.{HasReleased}

-- ---- one line

-- what becomes of a line
pub data Turn : Type 0 where
  -- it is passed over
  Passes : Turn
  -- the command is carried out
  Does : LineCommand → Turn
  -- the session ends so
  Ends : Ending → Turn

-- what a command asks for; without one the line of this number is not understood
abbrev pub turn_of : ℕ → Option LineCommand → Turn
turn_of number None = Ends (NotUnderstood number)
turn_of number (Some Quit) = Ends Ended
turn_of number (Some command) = Does command

-- what becomes of a line of this number, which counts from 1, empty lines too. A line past the limit on their number
-- ends the session, whatever it holds. Else an empty line is passed over, and a line that is too long is not understood
abbrev pub turn_at : ℕ → List ℕ → Turn
turn_at number [] = if nat_le number LINE_COUNT_LIMIT then Passes else Ends Budget
turn_at number (b ∷ bs) = if nat_le number LINE_COUNT_LIMIT
    then (if is_within (b ∷ bs) then turn_of number (command_of (b ∷ bs)) else Ends (NotUnderstood number))
    else Ends Budget

-- ---- all lines

-- if the next line comes to this turn, this text in all may be written from this session on, and then the session ends
-- so. `Replied` says how a command may be replied to, and `Rest` the same of the lines after, from the session after
-- the turn
abbrev pub TakesBy : (LineCommand → PlainSession → List ℕ → PlainSession → Type 0) → Turn → PlainSession →
    (PlainSession → List ℕ → Type 0) → List ℕ → Ending → Type 0
TakesBy Replied Passes p Rest text ending = Rest p text
TakesBy Replied (Does command) p Rest text ending = (reply : List ℕ) × (q : PlainSession) × (rest : List ℕ)
    × Replied command p reply q × (text ≡ reply ++ rest) × Rest q rest
TakesBy Replied (Ends stop) p Rest text ending = (text ≡ []) × (ending ≡ stop)

-- if the lines from this number on are these and commands are replied to so, this text may be written from this session
-- on. Then the session ends so. At the end of the lines it ends as if asked to
abbrev pub WritesBy : (LineCommand → PlainSession → List ℕ → PlainSession → Type 0) → List (List ℕ) → ℕ → PlainSession →
    List ℕ → Ending → Type 0
WritesBy Replied [] number p text ending = (text ≡ []) × (ending ≡ Ended)
WritesBy Replied (line ∷ lines) number p text ending =
    TakesBy Replied (turn_at number line) p (λ q rest. WritesBy Replied lines (number + 1) q rest ending) text ending

-- the same with all replies that there may be
abbrev pub Takes : Turn → PlainSession → (PlainSession → List ℕ → Type 0) → List ℕ → Ending → Type 0
Takes turn p Rest text ending = TakesBy Replies turn p Rest text ending

abbrev pub MayWrite : List (List ℕ) → ℕ → PlainSession → List ℕ → Ending → Type 0
MayWrite lines number p text ending = WritesBy Replies lines number p text ending

-- if so many steps led to this session and it has released this text, the reply in this turn tells what becomes of
-- both. `Rest` says the same of what is written after it
abbrev pub TurnTells : Turn → ℕ → List ℕ → PlainSession → (ℕ → List ℕ → PlainSession → List ℕ → Type 0) → List ℕ →
    Type 0
TurnTells Passes steps text p Rest written = Rest steps text p written
TurnTells (Does command) steps text p Rest written =
    (reply : List ℕ) × (q : PlainSession) × (rest : List ℕ) × (after : ℕ) × (more : List ℕ)
    × Replies command p reply q × Tells command reply steps after more × (written ≡ reply ++ rest)
    × Rest after (text ++ more) q rest
TurnTells (Ends stop) steps text p Rest written = written ≡ []

-- so many steps over this input led to this session, and it has released this text. What is written, with these lines
-- from this number on, tells how many steps lead to each later session, and what each has released
abbrev pub TellsOutput : List ℕ → List (List ℕ) → ℕ → ℕ → List ℕ → PlainSession → List ℕ → Type 0
TellsOutput input [] number steps text p written = HasReleased input steps text p × (written ≡ [])
TellsOutput input (line ∷ lines) number steps text p written = HasReleased input steps text p
    × TurnTells (turn_at number line) steps text p
    (λ after all q rest. TellsOutput input lines (number + 1) after all q rest) written

-- from this session on, with these commands, this text may be written, and then the session ends so
abbrev pub MayFollow : PlainSession → List ℕ → List ℕ → Ending → Type 0
MayFollow p commands text ending = MayWrite (lines_of commands) 1 p text ending

-- the turn does not end the session, and this text is written from it on. `Rest` says the same of the lines after,
-- from the session after the turn
abbrev pub TurnLeads : Turn → PlainSession → (PlainSession → List ℕ → Type 0) → List ℕ → Type 0
TurnLeads Passes p Rest text = Rest p text
TurnLeads (Does command) p Rest text = (reply : List ℕ) × (q : PlainSession) × (rest : List ℕ)
    × Replies command p reply q × (text ≡ reply ++ rest) × Rest q rest
TurnLeads (Ends stop) p Rest text = ⊥

-- these lines, from this number on, lead from one session to the other. Each of them is passed over or replied to, and
-- the replies are this text
abbrev pub LeadsTo : List (List ℕ) → ℕ → PlainSession → List ℕ → PlainSession → Type 0
LeadsTo [] number p text q = (text ≡ []) × (q ≡ p)
LeadsTo (line ∷ lines) number p text q =
    TurnLeads (turn_at number line) p (λ r rest. LeadsTo lines (number + 1) r rest q) text

-- these commands have so many lines at least. The first so many of them lead from one session to the other, and the
-- replies to them are this text. These tell what becomes of the output, however the session came where it is
abbrev pub FollowsFirst : PlainSession → PlainSession → ℕ → List ℕ → List ℕ → Type 0
FollowsFirst p q count commands written = (count ≤ length (lines_of commands))
    × LeadsTo (take count (lines_of commands)) 1 p written q
    × ((input : List ℕ) (steps : ℕ) (text : List ℕ) → HasReleased input steps text p →
    TellsOutput input (take count (lines_of commands)) 1 steps text p written)

-- the first of these lines, of this number, leads from one session to the other, and this is a front of the reply to it
abbrev pub RepliesInPart : List (List ℕ) → ℕ → PlainSession → List ℕ → PlainSession → Type 0
RepliesInPart lines number p part q = (line : List ℕ) × (later : List (List ℕ)) × (reply : List ℕ)
    × (lines ≡ line ∷ later) × LeadsTo (line ∷ []) number p reply q × IsFrontOf part reply

-- the first so many lines of these commands lead from a session on, and one more leads to the other session. This text
-- is the replies to them, but of the last a front
abbrev pub FollowsInPart : PlainSession → PlainSession → ℕ → List ℕ → List ℕ → Type 0
FollowsInPart p q count commands written = (r : PlainSession) × (text : List ℕ) × (part : List ℕ)
    × FollowsFirst p r count commands text × RepliesInPart (drop count (lines_of commands)) (count + 1) r part q
    × (written ≡ text ++ part)

-- ---- a whole session

-- the session over a tape that has ended, its journal holding at most so many records, its numbers being so wide
abbrev pub ready : List ℕ → ℕ → Width → PlainSession
ready tape limit width = record (new_session limit width) { tape = record { bytes = tape; ended = true } }

-- the same over any tape, by whether it is not too long: nothing is written if it is too long. `Writes` says what is
-- written from a session on
abbrev pub shown_by : (List (List ℕ) → ℕ → PlainSession → List ℕ → Ending → Type 0) → List ℕ → ℕ → Width → List ℕ →
    List ℕ → Ending → Bool → Type 0
shown_by Writes tape limit width commands text ending true =
    Writes (lines_of commands) 1 (ready tape limit width) text ending
shown_by Writes tape limit width commands text ending false = (text ≡ []) × (ending ≡ Limit)

abbrev pub shown_where : List ℕ → ℕ → Width → List ℕ → List ℕ → Ending → Bool → Type 0
shown_where tape limit width commands text ending within =
    shown_by MayWrite tape limit width commands text ending within

-- over this tape, with such a journal, such numbers and these commands, this text may be written,
-- and then the session ends so
abbrev pub MayShow : List ℕ → ℕ → Width → List ℕ → List ℕ → Ending → Type 0
MayShow tape limit width commands text ending =
    shown_where tape limit width commands text ending (nat_le (length tape) TAPE_LIMIT)

-- the same if there is memory for each step: no reply says that memory was refused
abbrev pub ShowsWithMemory : List ℕ → ℕ → Width → List ℕ → List ℕ → Ending → Type 0
ShowsWithMemory tape limit width commands text ending =
    shown_by (WritesBy RepliesWithMemory) tape limit width commands text ending (nat_le (length tape) TAPE_LIMIT)

-- the same of a session over this tape, with such a journal and such numbers. The first so many lines of these commands
-- lead from it to some session. The replies tell how many steps lead to each session, and what it has released
abbrev pub RepliesToFirst : List ℕ → ℕ → Width → ℕ → List ℕ → List ℕ → Type 0
RepliesToFirst tape limit width count commands text =
    ((q : PlainSession) × FollowsFirst (ready tape limit width) q count commands text)
    × TellsOutput tape (take count (lines_of commands)) 1 0 [] (ready tape limit width) text
