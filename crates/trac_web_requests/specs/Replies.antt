-- What a request leaves in the buffer of the host.
use Rattle.std.specs.Prelude.{◌≡◌, ℕ, ◌≤◌, Bool, true, false, List, ◌++◌, drop, length, take, nat_le, nat_lt}
use Rattle.trac_streams.specs.declared.ending.Ending.{Ending}
use Rattle.trac_streams.specs.declared.ending.Ending.TheVariants.{Write, Memory}
use Rattle.trac_web_requests.specs.declared.outcome.Outcome.{Outcome}
use Rattle.trac_web_requests.specs.declared.outcome.Outcome.TheVariants.{Ends, TooLong}
use Rattle.trac_web_requests.specs.Outcomes.{status_told}

-- how a request ends whose reply has so many bytes, or more, in a buffer of so many. The writer of a reply fails if its
-- buffer is full; if it is not, there was no memory
abbrev pub ends_where : Ending → Bool → Bool → Outcome
ends_where Write true longer = TooLong
ends_where Write false longer = Ends Memory
ends_where ending full true = TooLong
ends_where ending full false = Ends ending

abbrev pub outcome_of : Ending → ℕ → ℕ → Outcome
outcome_of ending size room = ends_where ending (nat_le room size) (nat_lt room size)

-- a text is in the buffer, as much of it as has room from its front on, and the rest of the buffer is as it was
pub record Delivers
    (text : List ℕ) (ending : Ending) (old new : List ℕ) (written : ℕ) (outcome : Outcome) : Type 0 where
  pub within : written ≤ length old
  pub all : length text ≤ length old → written ≡ length text
  pub bytes : new ≡ take written text ++ drop written old
  pub ends : outcome ≡ outcome_of ending (length text) (length old)

-- a text that may be stated so, with this ending, is in the buffer
pub record Gives (Stated : List ℕ → Ending → Type 0) (old new : List ℕ) (written : ℕ) (outcome : Outcome) : Type 0 where
  pub text : List ℕ
  pub ending : Ending
  pub stated : Stated text ending
  pub delivered : Delivers text ending old new written outcome

-- the host is told how that ended
pub record Answers (Stated : List ℕ → Ending → Type 0) (old new : List ℕ) (written status : ℕ) : Type 0 where
  pub outcome : Outcome
  pub gives : Gives Stated old new written outcome
  pub told : status ≡ status_told outcome

-- the host is told why nothing was done
pub record Refuses (why : Outcome) (old new : List ℕ) (written status : ℕ) : Type 0 where
  pub told : status ≡ status_told why
  pub none : written ≡ 0
  pub same : new ≡ old
