-- There is always something that may be written.
use Rattle.std.proofs.Common.{◌≡◌, ℕ, zero, suc, ◌+◌, ◌≤◌, true, false, List, [], ◌∷◌, ◌++◌, length, refl, ap, subst, ◌∙◌, arith, inl, inr, ⊎_elim}
use Rattle.std.specs.Prelude.{◌⊎◌, Bool, Option, None, Some, max, nat_lt, ◌&&◌, codes}
use Rattle.std.proofs.lemmas.Bool.{cases_Bool}
use Rattle.trac_rules.specs.declared.refusal.Refusal.{Refusal}
use Rattle.trac_rules.specs.declared.refusal.Refusal.TheVariants.{Memory, TooLong, NeedInput, Ended, JournalFull, AtStart}
use Rattle.trac_rules.specs.declared.reply.Reply.{Reply}
use Rattle.trac_rules.specs.declared.reply.Reply.TheVariants.{Done, Refused}
use Rattle.trac_rules.specs.Session as session
use Rattle.trac_rules.specs.Session.{PlainSession, Goal, Answer, IsWalk, Answers, answer, committed, first_kept, refused, no_goal}
use Rattle.trac_rules.proofs.Replies.{Back_refused, Step_refusals, answer_Commit}
use Rattle.trac_session.specs.Goals.{is_call_of, outcome}
use Rattle.trac_session.proofs.Walked.{GoesOn, Back_answered, Back_refused_same, Step_refused_same, goes_on_first, goes_on_more, stopped_walk, met_walk, one_walk, whole_walk}
use Rattle.trac_streams.specs.declared.ending.Ending.{Ending}
use Rattle.trac_streams.specs.declared.ending.Ending.TheVariants as endings
use Rattle.trac_debug.specs.Commands.{LineCommand, Forward, Back, Until, Return, Print, Commit, Quit}
use Rattle.trac_state_lines.specs.StateLines.{state_text}
use Rattle.trac_streams.specs.Escapes.{text_line}
use Rattle.trac_debug.specs.Replies.{Replies, RepliesWithMemory, walk_line}
use Rattle.trac_debug.specs.Debugging.{Turn, Passes, Does, Ends, TakesBy, WritesBy, MayWrite, turn_at}

-- ---- walks

-- a step is not refused for memory by the definitions
step_not_Memory : (p q : PlainSession) → answer session.Step p ≡ refused Memory q → ⊥
step_not_Memory p q h = ⊎_elim
    (λ (a : Memory ≡ JournalFull). cc)
    (λ (r : (Memory ≡ TooLong) ⊎ (((Memory ≡ NeedInput) × (p.tape.ended ≡ false)) ⊎ (Memory ≡ Ended))). ⊎_elim
    (λ (b : Memory ≡ TooLong). cc)
    (λ (s : ((Memory ≡ NeedInput) × (p.tape.ended ≡ false)) ⊎ (Memory ≡ Ended)). ⊎_elim
    (λ (c : (Memory ≡ NeedInput) × (p.tape.ended ≡ false)). let e = c.0 in cc)
    (λ (d : Memory ≡ Ended). cc) s) r)
    (Step_refusals p q Memory h)

-- any other refusal is answered where the definitions say it
pub answered_as_said : (command : session.Command) (p q : PlainSession) (refusal : Refusal) → (refusal ≡ Memory → ⊥) →
    (Answers command p (Refused refusal) q → answer command p ≡ refused refusal q) × (answer command p ≡ refused refusal q → Answers command p (Refused refusal) q)
answered_as_said command p q Memory other = absurd (other refl)
answered_as_said command p q refusal other = (λ h. h, λ h. h)

step_refused_as : (p q : PlainSession) (refusal : Refusal) → answer session.Step p ≡ refused refusal q → Answers session.Step p (Refused refusal) q
step_refused_as p q refusal h =
    (answered_as_said session.Step p q refusal (λ is. step_not_Memory p q (subst (λ (r : Refusal). answer session.Step p ≡ refused r q) is h))).1 h

-- a command whose refusals are those of the definitions, never for memory, and change nothing
record IsPlain (command : session.Command) : Type 0 where
  as_said : (p q : PlainSession) → (refusal : Refusal) → answer command p ≡ refused refusal q → Answers command p (Refused refusal) q
  same : (p q : PlainSession) → (refusal : Refusal) → answer command p ≡ refused refusal q → q ≡ p
  not_memory : (p q : PlainSession) → answer command p ≡ refused Memory q → ⊥

Step_plain : IsPlain session.Step
Step_plain = record {
  as_said = step_refused_as;
  same = λ p q refusal h. Step_refused_same p q refusal (step_refused_as p q refusal h);
  not_memory = step_not_Memory;
}

Back_plain : IsPlain session.Back
Back_plain = record {
  as_said = λ p q refusal h. Back_answered p q (Refused refusal) h;
  same = λ p q refusal h. Back_refused_same p q refusal (Back_answered p q (Refused refusal) h);
  not_memory = λ p q h. let at : Memory ≡ AtStart = (Back_refused p q Memory h).1 in cc;
}

-- a walk that is over after so many steps at most, however many more it may take; memory did not end it
abbrev IsOver : session.Command → Goal → ℕ → PlainSession → Type 0
IsOver command goal n old =
    (steps : ℕ) × (why : Option Refusal) × (new : PlainSession) × ((m : ℕ) → n ≤ m → IsWalk command goal m old steps why new) × (why ≡ Some Memory → ⊥)

abbrev IsUnder : session.Command → Goal → ℕ → PlainSession → Type 0
IsUnder command goal n old = (now : PlainSession) × GoesOn command goal old n now

-- a refusal that is not for memory ends no walk for memory
ends_otherwise : (refusal : Refusal) → (refusal ≡ Memory → ⊥) → Some refusal ≡ Some Memory → ⊥
ends_otherwise refusal other is = let e : refusal ≡ Memory = cc in other e

-- one step more: it is refused, meets the goal, or neither
one_more : (command : session.Command) → IsPlain command → (goal : Goal) (n : ℕ) (old now : PlainSession) → GoesOn command goal old n now → (reply : Reply) (next : PlainSession) →
    answer command now ≡ record { reply = reply; session = next } → IsUnder command goal (n + 1) old ⊎ IsOver command goal (n + 1) old
one_more command plain goal n old now on Done next h = ⊎_elim
    (λ (met : goal next.last ≡ true). inr (n + 1, None, next, λ m l. met_walk command goal m n 1 old now next on (one_walk command goal now next h) (omega arith) (omega arith) met, λ none. cc))
    (λ (not_met : goal next.last ≡ false). inl (next, goes_on_more command goal old now next n on h not_met))
    (cases_Bool (goal next.last))
one_more command plain goal n old now on (Refused refusal) next h =
    inr (
      n,
      Some refusal,
      next,
      λ m l. stopped_walk command goal m n old now next refusal on (omega arith) (plain.same now next refusal h) (plain.as_said now next refusal h),
      ends_otherwise refusal (λ memory. plain.not_memory now next (h ∙ ap (λ r. refused r next) memory)),
    )

-- after so many steps it goes on, or is over
under_or_over : (command : session.Command) → IsPlain command → (goal : Goal) (n : ℕ) (old : PlainSession) → IsUnder command goal n old ⊎ IsOver command goal n old
under_or_over command plain goal zero old = inl (old, goes_on_first command goal old)
under_or_over command plain goal (suc n) old =
    let count : n + 1 ≡ suc n = omega arith in
    subst (λ k. IsUnder command goal k old ⊎ IsOver command goal k old) count (⊎_elim
    (λ (under : IsUnder command goal n old).
    let said : Answer = answer command under.0 in
    one_more command plain goal n old under.0 under.1 said.reply said.session refl)
    (λ (over : IsOver command goal n old). inr (over.0, over.1, over.2, λ m l. over.3 m (omega arith), over.4))
    (under_or_over command plain goal n old))

-- there is a walk that memory does not end
some_walk : (command : session.Command) → IsPlain command → (goal : Goal) (n : ℕ) (old : PlainSession) →
    (steps : ℕ) × (why : Option Refusal) × (new : PlainSession) × IsWalk command goal n old steps why new × (why ≡ Some Memory → ⊥)
some_walk command plain goal n old = ⊎_elim
    (λ (under : IsUnder command goal n old). (n, None, under.0, whole_walk command goal n old under.0 under.1, λ none. cc))
    (λ (over : IsOver command goal n old). (over.0, over.1, over.2, over.3 n (omega arith), over.4))
    (under_or_over command plain goal n old)

-- ---- replies

-- what a search says is that memory was refused only where its walk says so
search_otherwise : (met : Bool) (ended : Option Refusal) → (ended ≡ Some Memory → ⊥) → outcome met ended ≡ Some Memory → ⊥
search_otherwise met (Some refusal) other says = other says
search_otherwise true None other says = cc
search_otherwise false None other says = cc

-- there is a reply to each command that does not say that memory was refused
pub some_reply_with : (command : LineCommand) (old : PlainSession) → (reply : List ℕ) × (new : PlainSession) × RepliesWithMemory command old reply new
some_reply_with (Forward n) old =
    let walk = some_walk session.Step Step_plain no_goal n old in
    (walk_line (codes "forward") walk.0 walk.1, walk.2, (walk.0, walk.1, (walk.3, walk.4), refl))
some_reply_with (Back n) old =
    let walk = some_walk session.Back Back_plain no_goal n old in
    (walk_line (codes "back") walk.0 walk.1, walk.2, (walk.0, walk.1, walk.3, refl))
some_reply_with (Until name n) old =
    let walk = some_walk session.Step Step_plain (is_call_of name) n old in
    let met : Bool = nat_lt 0 walk.0 && is_call_of name walk.2.last in
    let why : Option Refusal = outcome met walk.1 in
    (walk_line (codes "until") walk.0 why, walk.2, (walk.0, why, ((walk.1, walk.3, refl), search_otherwise met walk.1 walk.4), refl))
some_reply_with (Return name) old =
    let walk = some_walk session.Back Back_plain (is_call_of name) (max 1 (length old.earlier)) old in
    let why : Option Refusal = outcome (nat_lt 0 walk.0 && is_call_of name walk.2.last) walk.1 in
    (walk_line (codes "return") walk.0 why, walk.2, (walk.0, why, (walk.1, walk.3, refl), refl))
some_reply_with Print old = (state_text old, old, (refl, refl))
some_reply_with (Commit keep) old = (text_line (codes "commit") (first_kept keep old).output, committed keep old, (refl, answer_Commit keep old))
some_reply_with Quit old = ([], old, (refl, refl))

-- it is one of those that there may be
pub reply_allowed : (command : LineCommand) (old new : PlainSession) (reply : List ℕ) → RepliesWithMemory command old reply new → Replies command old reply new
reply_allowed (Forward n) old new reply is = (is.0, is.1, is.2.0, is.3)
reply_allowed (Until name n) old new reply is = (is.0, is.1, is.2.0, is.3)
reply_allowed other old new reply is = is

-- so there is a reply to each command
pub some_reply : (command : LineCommand) (old : PlainSession) → (reply : List ℕ) × (new : PlainSession) × Replies command old reply new
some_reply command old =
    let some = some_reply_with command old in
    (some.0, some.1, reply_allowed command old some.1 some.0 some.2)

-- ---- texts

module _ (Replied : LineCommand → PlainSession → List ℕ → PlainSession → Type 0) (reply : (command : LineCommand) (old : PlainSession) → (text : List ℕ) × (new : PlainSession) × Replied command old text new) where
  -- a turn may write something, where the lines after it may
  takes_some : (turn : Turn) (lines : List (List ℕ)) (number : ℕ) (p : PlainSession) →
      ((q : PlainSession) → (text : List ℕ) × (stop : Ending) × WritesBy Replied lines number q text stop) →
      (text : List ℕ) × (stop : Ending) × TakesBy Replied turn p (λ q rest. WritesBy Replied lines number q rest stop) text stop
  takes_some Passes lines number p rest = rest p
  takes_some (Does command) lines number p rest =
      let first = reply command p in
      let more = rest first.1 in
      (first.0 ++ more.0, more.1, (first.0, first.1, more.0, first.2, refl, more.2))
  takes_some (Ends stop) lines number p rest = ([], stop, (refl, refl))

  -- from each session, whatever lines are left, something may be written
  some_text_by : (lines : List (List ℕ)) (number : ℕ) (p : PlainSession) → (text : List ℕ) × (stop : Ending) × WritesBy Replied lines number p text stop
  some_text_by [] number p = ([], endings.Ended, (refl, refl))
  some_text_by (line ∷ lines) number p = takes_some (turn_at number line) lines (number + 1) p (λ q. some_text_by lines (number + 1) q)

-- with any replies that there may be
pub some_text : (lines : List (List ℕ)) (number : ℕ) (p : PlainSession) → (text : List ℕ) × (stop : Ending) × MayWrite lines number p text stop
some_text lines number p = some_text_by Replies some_reply lines number p

-- and with those that do not say that memory was refused
pub some_text_with : (lines : List (List ℕ)) (number : ℕ) (p : PlainSession) → (text : List ℕ) × (stop : Ending) × WritesBy RepliesWithMemory lines number p text stop
some_text_with lines number p = some_text_by RepliesWithMemory some_reply_with lines number p
