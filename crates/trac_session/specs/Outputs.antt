-- The output of a session, by whatever way it came there: what is released, and what is pending.
use Rattle.std.specs.Prelude.{◌≡◌, ℕ, ◌+◌, ◌-◌, ◌≤◌, List, [], ◌++◌, length, true}
use Rattle.trac_rules.specs.declared.reply.Reply.{Reply}
use Rattle.trac_rules.specs.declared.reply.Reply.TheVariants.{Done}
use Rattle.trac_rules.specs.declared.width.Width.{Width}
use Rattle.trac_rules.specs.Session.{PlainSession, Command, Feed, Step, Back, Commit, first_kept, first_of}
use Rattle.trac_rules.specs.Trails.{IsTrail}
use Rattle.trac_rules.specs.Running.{BudgetSpent, output_of}
use Rattle.trac_rules.specs.GoingOn.{prepended, going_on_from}

-- so many steps over this whole input, from the first state on, are all accepted, and this is what they print
abbrev pub Prints : Width → List ℕ → ℕ → List ℕ → Type 0
Prints width input steps text = output_of width input steps ≡ record { bytes = text; stop = BudgetSpent }

-- the session once it has gone back over all its steps
abbrev pub gone_back : PlainSession → PlainSession
gone_back p = record p { earlier = []; last = first_of p.last p.earlier }

-- so many steps over this input led from the first state to this session, those aside that were gone back over. It has
-- released this text. Each of its states is the step from the one before it. The input may go on, but not if it has
-- ended. However it goes on, a run over all of it prints this text, and then what it prints from the first kept state
-- on. So this text and what is pending are what the steps print (`outputs::sessions_release_what_steps_print`)
pub record HasReleased (input : List ℕ) (steps : ℕ) (text : List ℕ) (p : PlainSession) : Type 0 where
  pub trail : IsTrail p
  pub on_tape : (gone_back p).last.position ≤ length p.tape.bytes
  pub counted : length p.earlier ≤ steps
  pub rest : (n : ℕ) (more : List ℕ) → (p.tape.ended ≡ true → more ≡ []) →
      output_of p.width (input ++ more) ((steps - length p.earlier) + n)
      ≡ prepended text (going_on_from (gone_back p) more n)

-- ---- what a command adds, if it is done

-- to the input: what is fed
abbrev pub fed_by : Command → Reply → List ℕ
fed_by (Feed bytes) Done = bytes
fed_by command reply = []

-- to the steps: a step more, or one less
abbrev pub steps_after : Command → Reply → ℕ → ℕ
steps_after Step Done steps = steps + 1
steps_after Back Done steps = steps - 1
steps_after command reply steps = steps

-- to what is released: the output of the first state that a commit keeps
abbrev pub released_by : Command → Reply → PlainSession → List ℕ
released_by (Commit keep) Done p = (first_kept keep p).output
released_by command reply p = []
