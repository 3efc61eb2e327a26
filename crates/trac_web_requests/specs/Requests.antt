-- What each request writes, of whole texts.
use Rattle.std.specs.Prelude.{◌≡◌, ◌≢◌, ℕ, ◌+◌, ◌<◌, ◌≤◌, Bool, List, length, None, Some, Result, Ok, Err, IfOk}
use Rattle.trac_rules.specs.declared.width.Width.{Width}
use Rattle.trac_rules.specs.declared.limit.TheConstants.{JOURNAL_LIMIT, TAPE_LIMIT}
use Rattle.trac_rules.specs.Fronts.{IsFrontOf}
use Rattle.trac_rules.specs.Running.{output_of}
use Rattle.trac_streams.specs.declared.ending.Ending.{Ending}
use Rattle.trac_streams.specs.declared.ending.Ending.TheVariants.{Limit, Write}
use Rattle.trac_streams.specs.declared.lines.TheConstants.{LINE_COUNT_LIMIT}
use Rattle.trac_streams.specs.declared.options.TheConstants.{BUDGET_LIMIT}
use Rattle.trac_streams.specs.Widths.{width_of}
use Rattle.trac_session.specs.Outputs.{Prints}
use Rattle.trac_run.specs.Runs.{Shows}
use Rattle.trac_debug.specs.Debugging.{MayShow, RepliesToFirst}
use Rattle.trac_debug.specs.Debugs.{FaultsAt, UnlessFault, UnlessWrite}
use Rattle.trac_web_requests.specs.declared.outcome.Outcome.{Outcome}
use Rattle.trac_web_requests.specs.declared.outcome.Outcome.TheVariants.{WrongDecimals}
use Rattle.trac_web_requests.specs.Replies.{Refuses}

-- ---- numbers that are taken

-- so many steps a run may be allowed
abbrev pub IsBudget : ℕ → Type 0
IsBudget budget = (1 ≤ budget) × (budget ≤ BUDGET_LIMIT)

-- so many records a journal may be allowed
abbrev pub IsJournal : ℕ → Type 0
IsJournal journal = (1 ≤ journal) × (journal ≤ JOURNAL_LIMIT)

-- a number and how many bits numbers have are judged so. If the number is taken and there are numbers of so many bits,
-- the width; else which of the two is wrong
pub record IsJudged (Taken : Type 0) (wrong : Outcome) (decimals : ℕ) (judged : Result Width Outcome) : Type 0 where
  pub within : IfOk judged (λ width. Taken)
  pub taken : (width : Width) → Taken → width_of decimals ≡ Some width → judged ≡ Ok width
  pub not_taken : (Taken → ⊥) → judged ≡ Err wrong
  pub no_width : Taken → width_of decimals ≡ None → judged ≡ Err WrongDecimals

-- a host that gave such numbers is told what is answered by the width, or which of the two is wrong
pub record Tells (Taken : Type 0) (wrong : Outcome) (decimals : ℕ)
    (AnswersBy : Width → List ℕ → List ℕ → ℕ → ℕ → Type 0) (old new : List ℕ) (written status : ℕ) : Type 0 where
  pub not_taken : (Taken → ⊥) → Refuses wrong old new written status
  pub no_width : Taken → width_of decimals ≡ None → Refuses WrongDecimals old new written status
  pub answers : (width : Width) → Taken → width_of decimals ≡ Some width → AnswersBy width old new written status

-- ---- texts that are written

-- a run of a program, with all of its input, took so many steps, wrote this and ended so: it is what the rules print by
-- the budget. If the buffer is full, or memory was refused, it is a front of that. Unless it ended `Write`, it is just
-- what these steps print
pub record WritesRun (width : Width) (budget steps : ℕ) (input written : List ℕ) (ending : Ending) : Type 0 where
  pub front : IsFrontOf written (output_of width input budget).bytes
  pub shows : Shows ending written (output_of width input budget)
  pub exact : ending ≢ Write → Prints width input steps written

-- the debugger over this tape replied so to these commands, and ended so: it is a text that may be shown. If the buffer
-- is full, or memory was refused, it is a front of one. Unless it ended `Write`, it is whole replies. A fault comes
-- where it may come. It ends for the tape if that is too long
pub record WritesReplies
    (tape : List ℕ) (limit : ℕ) (width : Width) (commands written : List ℕ) (ending : Ending) : Type 0 where
  pub front : (text : List ℕ) × (stop : Ending) × MayShow tape limit width commands text stop × IsFrontOf written text
  pub whole : UnlessFault ending (MayShow tape limit width commands written ending)
  pub replied : ℕ
  pub few_lines : replied ≤ LINE_COUNT_LIMIT
  pub replies : UnlessWrite ending (RepliesToFirst tape limit width replied commands written)
  pub read : List ℕ
  pub saw_end : Bool
  pub front_read : IsFrontOf read commands
  pub faults : FaultsAt ending replied (replied + 1) saw_end read commands
  pub too_long : TAPE_LIMIT < length tape → ending ≡ Limit
