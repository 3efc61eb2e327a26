-- A session as its fields show it: the states before the last one are what the records of its journal say.
use Rattle.std.specs.Prelude.{◌≡◌, ℕ, ◌≤◌, Bool, List, [], ◌∷◌, length, Option, None, Some}
use Rattle.trac_rules.specs.declared.width.Width.{Width}
use Rattle.trac_rules.specs.declared.limit.TheConstants.{TAPE_LIMIT, JOURNAL_LIMIT}
use Rattle.trac_rules.specs.Records.{Record, state_before}
use Rattle.trac_rules.specs.State.{State}
use Rattle.trac_rules.specs.Session.{PlainSession}
use Rattle.trac_rules.specs.Trails.{IsTrail}
use Rattle.trac_rules.specs.Weights.{step_weight, weight}
use Rattle.trac_step.specs.Layout.{Shown}
use Rattle.trac_step.specs.Room.{HasRoom}
use Rattle.trac_session.specs.Knowing.{AreRecent, KnowsItsOwn}

-- ---- going back

-- a state if there is one, and what is led on from it
abbrev pub led_on : Option State → (State → List State) → List State
led_on None rest = []
led_on (Some s) rest = s ∷ rest s

-- the states before a state, the newest first, as the records say them, the newest record first
abbrev pub earlier_of : List Record → State → List State
earlier_of [] t = []
earlier_of (r ∷ records) t = led_on (state_before r t) (λ s. earlier_of records s)

-- a record is that of the step from one state to another. It says the one from the other, and weighs what a record of
-- that step does
pub record IsOfStep (r : Record) (s t : State) : Type 0 where
  pub says : state_before r t ≡ Some s
  pub weighs : weight r ≡ step_weight s

-- a state has no output, and stands at the start of its tape
pub record IsAtStart (s : State) : Type 0 where
  pub nothing_pending : s.output ≡ []
  pub nothing_read : s.position ≡ 0

-- each record is that of a step, and of the state before it something holds. The first of these states has no output,
-- and stands at the start of its tape. So it is from the beginning of a session, and after each commit
abbrev pub AreRecords : (State → Type 0) → List Record → State → Type 0
AreRecords Holds [] t = IsAtStart t
AreRecords Holds (r ∷ records) t = (s : State) × IsOfStep r s t × Holds s × AreRecords Holds records s

-- ---- the fields

-- the session that they show: limit, bytes of the tape and whether it has ended, the records of the journal, last state
abbrev pub plain_of : ℕ → Width → List ℕ → Bool → List Record → State → PlainSession
plain_of limit width bytes ended records last = record {
  limit = limit;
  width = width;
  tape = record { bytes = bytes; ended = ended };
  earlier = earlier_of records last;
  last = last;
}

-- what holds of each earlier state: it stands on a tape of so many bytes, and the machine has room for it
pub record IsWithinReach (machine : Shown) (n : ℕ) (s : State) : Type 0 where
  pub on_tape : s.position ≤ n
  pub room : HasRoom machine s

-- what is true of the journal of every session, of its tape and of its machine
pub record IsSound (limit : ℕ) (bytes : List ℕ) (journal : List Record) (machine : Shown) : Type 0 where
  pub some_records : 1 ≤ limit
  pub not_too_many : limit ≤ JOURNAL_LIMIT
  pub within_limit : length journal ≤ limit
  pub tape_limit : length bytes ≤ TAPE_LIMIT
  pub on_tape : machine.state.position ≤ length bytes
  pub records : AreRecords (IsWithinReach machine (length bytes)) journal machine.state

-- what is true of the fields of every session. They are sound, and the width is that of the machine's numbers. Each
-- state but the first is the step from the one before it. Without a step to go back over no name is known but its own.
-- So many of the earlier states are old, and no more than there are. The names of the forms of all others are recent
pub record IsSession (limit : ℕ) (width : Width) (bytes : List ℕ) (ended : Bool) (mark : ℕ) (journal : List Record)
    (machine : Shown) : Type 0 where
  pub sound : IsSound limit bytes journal machine
  pub wide : machine.width ≡ width
  pub trail : IsTrail (plain_of limit machine.width bytes ended journal machine.state)
  pub names : KnowsItsOwn journal machine
  pub recent : AreRecent mark machine.recent (earlier_of journal machine.state)
