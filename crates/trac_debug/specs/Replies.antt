-- The reply to a command, and the session after it.
use Rattle.std.specs.Prelude.{◌≡◌, ℕ, Bool, true, false, List, [], ◌++◌, length, max, Option, None, Some}
use Rattle.std.specs.Prelude.{codes, decimal}
use Rattle.trac_rules.specs.declared.refusal.Refusal.{Refusal}
use Rattle.trac_rules.specs.declared.refusal.Refusal.TheVariants as refusals
use Rattle.trac_rules.specs.Session as session
use Rattle.trac_rules.specs.Session.{PlainSession, IsWalk, answer, done, first_kept, no_goal}
use Rattle.trac_session.specs.Goals.{IsSearch, is_call_of}
use Rattle.trac_debug.specs.Commands.{LineCommand, Forward, Back, Until, Return, Print, Commit, Quit}
use Rattle.trac_state_lines.specs.StateLines.{state_text}
use Rattle.trac_streams.specs.Escapes.{feed, text_line}

-- ---- walks

abbrev pub refusal_name : Refusal → List ℕ
refusal_name refusals.Memory = codes "Memory"
refusal_name refusals.TooLong = codes "TooLong"
refusal_name refusals.NeedInput = codes "NeedInput"
refusal_name refusals.Ended = codes "Ended"
refusal_name refusals.JournalFull = codes "JournalFull"
refusal_name refusals.AtStart = codes "AtStart"
refusal_name refusals.Closed = codes "Closed"
refusal_name refusals.NotMet = codes "NotMet"

-- after how many steps were taken: why no more were, if there is a reason
abbrev pub reason : Option Refusal → List ℕ
reason None = []
reason (Some refusal) = codes " " ++ refusal_name refusal

-- a word, how many steps were taken, and why no more were
abbrev pub walk_line : List ℕ → ℕ → Option Refusal → List ℕ
walk_line word steps why = word ++ (codes " " ++ (decimal steps ++ (reason why ++ feed)))

-- some walk is replied so: by a word, how many steps it took and why no more
abbrev pub ShowsWalk : (ℕ → Option Refusal → Type 0) → List ℕ → List ℕ → Type 0
ShowsWalk Walked word reply =
    (steps : ℕ) × (why : Option Refusal) × Walked steps why × (reply ≡ walk_line word steps why)

-- ---- commands

-- to this command there may be this reply, and then the session is `new`. There is one reply, but that a step forward
-- may be refused for memory
abbrev pub Replies : LineCommand → PlainSession → List ℕ → PlainSession → Type 0
Replies (Forward n) old reply new =
    ShowsWalk (λ steps why. IsWalk session.Step no_goal n old steps why new) (codes "forward") reply
Replies (Back n) old reply new =
    ShowsWalk (λ steps why. IsWalk session.Back no_goal n old steps why new) (codes "back") reply
Replies (Until name n) old reply new =
    ShowsWalk (λ steps why. IsSearch session.Step (is_call_of name) n old steps why new) (codes "until") reply
-- by as many steps as there are, and one at least, so that without any it is `AtStart`
Replies (Return name) old reply new =
    ShowsWalk (λ steps why. IsSearch session.Back (is_call_of name) (max 1 (length old.earlier)) old steps why new)
    (codes "return") reply
Replies Print old reply new = (reply ≡ state_text old) × (new ≡ old)
-- what was pending at the first state that stays is shown, and released
Replies (Commit keep) old reply new =
    (reply ≡ text_line (codes "commit") (first_kept keep old).output) × (answer (session.Commit keep) old ≡ done new)
-- it is never replied to: the session ends
Replies Quit old reply new = (reply ≡ []) × (new ≡ old)

-- the same if there is memory for each step: then a walk says of no step that memory was refused for it
abbrev pub RepliesWithMemory : LineCommand → PlainSession → List ℕ → PlainSession → Type 0
RepliesWithMemory (Forward n) old reply new =
    ShowsWalk (λ steps why. IsWalk session.Step no_goal n old steps why new × (why ≡ Some refusals.Memory → ⊥))
    (codes "forward") reply
RepliesWithMemory (Until name n) old reply new = ShowsWalk
    (λ steps why. IsSearch session.Step (is_call_of name) n old steps why new × (why ≡ Some refusals.Memory → ⊥))
    (codes "until") reply
RepliesWithMemory command old reply new = Replies command old reply new

-- a reply says that memory was refused for a step
abbrev pub SaysMemory : List ℕ → Type 0
SaysMemory reply = (word : List ℕ) × (steps : ℕ) × (reply ≡ walk_line word steps (Some refusals.Memory))

-- somewhere in a text stands what such a reply says
abbrev pub HasMemoryReply : List ℕ → Type 0
HasMemoryReply text =
    (before : List ℕ) × (reply : List ℕ) × (after : List ℕ) × SaysMemory reply × (text ≡ before ++ (reply ++ after))

-- the command is a walk. No memory is requested for the reply to it, but it is for the state and for what was released
abbrev pub is_walk : LineCommand → Bool
is_walk (Forward n) = true
is_walk (Back n) = true
is_walk (Until name n) = true
is_walk (Return name) = true
is_walk Print = false
is_walk (Commit keep) = false
is_walk Quit = false
