-- The steps that a session took, a part of a run after the other.
use Rattle.std.proofs.Common.{◌≡◌, ℕ, zero, suc, ◌+◌, ◌-◌, ◌<◌, ◌≤◌, List, [], ◌∷◌, ◌++◌, length, refl, sym, ap, subst, ◌∙◌, arith, inl, inr, ⊎_elim}
use Rattle.std.specs.Io.KnownBytes.{Appends, Consumes, IsAtEnd}
use Rattle.std.specs.Prelude.{◌⊎◌}
use Rattle.std.proofs.lemmas.List.{append-nil, append_assoc}
use Rattle.std.proofs.lemmas.Option.{option_and_then_some}
use Rattle.std.specs.Prelude.{Option, Some, Result, Ok, Err}
use Rattle.trac_rules.specs.declared.refusal.Refusal.{Refusal}
use Rattle.trac_rules.specs.declared.refusal.Refusal.TheVariants as refusals
use Rattle.trac_rules.specs.declared.reply.Reply.TheVariants.{Refused}
use Rattle.trac_rules.specs.Fronts.{IsFrontOf}
use Rattle.trac_rules.specs.Session.{PlainSession, Command, Feed, End, Step, Back, Commit, Answers, done, accepted_by, answer, first_kept, repeated, no_goal}
use Rattle.trac_rules.proofs.Replies.{accepted_done}
use Rattle.trac_session.specs.Within.{IsWalkWithin}
use Rattle.trac_streams.specs.declared.ending.Ending.{Ending}
use Rattle.trac_streams.specs.declared.ending.Ending.TheVariants.{Memory, Read, Write}
use Rattle.trac_streams.specs.Written.{Closes, WritesFront}
use Rattle.trac_streams.proofs.Known.{Appends-both, Appends-nothing, Consumes-both, Consumes-nothing, front_of_nothing}
use Rattle.trac_run.specs.Runs.{AreDone, EndsFor, FeedsAsFar, FeedsSteps, FeedsToLast, IsOfRead, Leaves, TakesMore, TakesNone, TakesSteps, Waits, fed_by, step_count}

-- ---- lists of commands

-- these commands and those after them
done_both : (first second : List Command) (a b : List ℕ) (p q r : PlainSession) → AreDone first p a q → AreDone second q b r → AreDone (first ++ second) p (a ++ b) r
done_both [] second a b p q r before later =
    subst (λ text. AreDone second p (text ++ b) r) (sym before.0) (subst (λ s. AreDone second s b r) before.1 later)
done_both (Feed bytes ∷ first) second a b p q r before later = (before.0, before.1, (before.2.0, before.2.1, done_both first second a b before.2.0 q r before.2.2 later))
done_both (End ∷ first) second a b p q r before later = (before.0, (before.1.0, before.1.1, done_both first second a b before.1.0 q r before.1.2 later))
done_both (Step ∷ first) second a b p q r before later = (before.0, before.1, done_both first second a b before.0 q r before.2 later)
done_both (Back ∷ first) second a b p q r before later = absurd before
done_both (Commit keep ∷ first) second a b p q r before later =
    let rest : List ℕ = before.2.0 in (
      before.0,
      before.1,
      (
        rest ++ b,
        ap (λ text. text ++ b) before.2.1 ∙ append_assoc (first_kept keep p).output rest b,
        done_both first second rest b before.0 q r before.2.2 later,
      ),
    )

count_both : (first second : List Command) → step_count (first ++ second) ≡ step_count first + step_count second
count_both [] second = omega arith
count_both (Feed bytes ∷ first) second = count_both first second
count_both (End ∷ first) second = count_both first second
count_both (Step ∷ first) second = omega (arith, count_both first second)
count_both (Back ∷ first) second = count_both first second
count_both (Commit keep ∷ first) second = count_both first second

fed_both : (first second : List Command) → fed_by (first ++ second) ≡ fed_by first ++ fed_by second
fed_both [] second = refl
fed_both (Feed bytes ∷ first) second = ap (λ text. bytes ++ text) (fed_both first second) ∙ sym (append_assoc bytes (fed_by first) (fed_by second))
fed_both (End ∷ first) second = fed_both first second
fed_both (Step ∷ first) second = fed_both first second
fed_both (Back ∷ first) second = fed_both first second
fed_both (Commit keep ∷ first) second = fed_both first second

-- ---- the steps

pub no_step : (n : ℕ) → 0 ≡ n - n
no_step n = omega arith

-- a session that stays took none
pub steps_none : (p q : PlainSession) → q ≡ p → TakesSteps 0 p q
steps_none p q same = record { commands = []; released = []; are_done = (refl, same); count = refl }

pub steps_both : (m n : ℕ) (p q r : PlainSession) → TakesSteps m p q → TakesSteps n q r → TakesSteps (m + n) p r
steps_both m n p q r first second = record {
  commands = first.commands ++ second.commands;
  released = first.released ++ second.released;
  are_done = done_both first.commands second.commands first.released second.released p q r first.are_done second.are_done;
  count = omega (arith, count_both first.commands second.commands, first.count, second.count);
}

steps_one : (p q : PlainSession) → answer Step p ≡ done q → TakesSteps 1 p q
steps_one p q h = record { commands = Step ∷ []; released = []; are_done = (q, h, (refl, refl)); count = refl }

-- a commit takes none, and releases what was pending in the first state that is kept
pub steps_commit : (keep : ℕ) (p q : PlainSession) → answer (Commit keep) p ≡ done q → TakesSteps 0 p q
steps_commit keep p q h =
    let text : List ℕ = (first_kept keep p).output in
    record { commands = Commit keep ∷ []; released = text; are_done = (q, h, ([], sym (append-nil text), (refl, refl))); count = refl }

-- many steps, one after another
pub steps_many : (k : ℕ) (p q : PlainSession) → repeated Step k p ≡ Some q → TakesSteps k p q
steps_many zero p q h = let same : q ≡ p = cc in steps_none p q same
steps_many (suc k) p q h =
    option_and_then_some (λ m. accepted_by (answer Step m)) (repeated Step k p) q h
    (λ m walked last.
    let count : k + 1 ≡ suc k = omega arith in
    subst (λ n. TakesSteps n p q) count (steps_both k 1 p m q (steps_many k p m walked) (steps_one m q (accepted_done (answer Step m) q last))))

-- ---- with what is fed, and what is written

-- a session that stays was fed nothing, and some of what is pending may have been written
pub feeds_late : {input out_old out_new : Option (List ℕ)} (p q : PlainSession) → q ≡ p → (front : WritesFront out_old out_new q.last.output) → FeedsSteps input input out_old out_new 0 [] front.written p q
unfolding steps_none
feeds_late {input} {out_old} {out_new} p q same front = record { takes = steps_none p q same; took = Consumes-nothing input; unfed = inl refl; gave = front.gave; pending = front.front }

-- nothing was written
pub wrote_none : (output : Option (List ℕ)) (text : List ℕ) → WritesFront output output text
wrote_none output text = record { written = []; front = front_of_nothing text; gave = Appends-nothing output }

pub feeds_none : (input output : Option (List ℕ)) (p q : PlainSession) → q ≡ p → FeedsSteps input input output output 0 [] [] p q
unfolding wrote_none
feeds_none input output p q same = feeds_late p q same (wrote_none output q.last.output)

-- what is pending is written, and then released
pub feeds_commit : (input : Option (List ℕ)) {out_old out_new : Option (List ℕ)} (p q : PlainSession) → Appends out_old out_new p.last.output → answer (Commit 0) p ≡ done q → FeedsSteps input input out_old out_new 0 [] [] p q
unfolding steps_commit
feeds_commit input {out_old} {out_new} p q gave h = record {
  takes = steps_commit 0 p q h;
  took = Consumes-nothing input;
  unfed = inl refl;
  gave = subst (Appends out_old out_new) (sym (append-nil p.last.output)) gave;
  pending = front_of_nothing q.last.output;
}

-- a part of which all is fed and all is released, and the next
pub feeds_both : {in_old in_now in_new out_old out_now out_new : Option (List ℕ)} {rest late : List ℕ} (m n : ℕ) (p q r : PlainSession) →
    FeedsSteps in_old in_now out_old out_now m [] [] p q → FeedsSteps in_now in_new out_now out_new n rest late q r → FeedsSteps in_old in_new out_old out_new (m + n) rest late p r
unfolding steps_both
feeds_both {in_old} {in_now} {in_new} {out_old} {out_now} {out_new} {rest} {late} m n p q r first second =
    let one : List ℕ = fed_by first.takes.commands in
    let two : List ℕ = fed_by second.takes.commands in
    let a : List ℕ = first.takes.released in
    let b : List ℕ = second.takes.released in
    record {
      takes = steps_both m n p q r first.takes second.takes;
      took = subst (Consumes in_old in_new) (sym (append_assoc one two rest) ∙ ap (λ text. text ++ rest) (sym (fed_both first.takes.commands second.takes.commands)))
          (Consumes-both in_old in_now in_new one (two ++ rest) (subst (Consumes in_old in_now) (append-nil one) first.took) second.took);
      unfed = second.unfed;
      gave = subst (Appends out_old out_new) (sym (append_assoc a b late))
          (Appends-both out_old out_now out_new a (b ++ late) (subst (Appends out_old out_now) (append-nil a) first.gave) second.gave);
      pending = second.pending;
    }

-- many steps
feeds_many : (input output : Option (List ℕ)) (k : ℕ) (p q : PlainSession) → repeated Step k p ≡ Some q → FeedsSteps input input output output k [] [] p q
unfolding steps_one
feeds_many input output zero p q h = let same : q ≡ p = cc in feeds_none input output p q same
feeds_many input output (suc k) p q h =
    option_and_then_some (λ m. accepted_by (answer Step m)) (repeated Step k p) q h
    (λ m walked last.
    let count : k + 1 ≡ suc k = omega arith in
    let one : FeedsSteps input input output output 1 [] [] m q = record {
      takes = steps_one m q (accepted_done (answer Step m) q last);
      took = Consumes-nothing input;
      unfed = inl refl;
      gave = Appends-nothing output;
      pending = front_of_nothing q.last.output;
    } in
    subst (λ n. FeedsSteps input input output output n [] [] p q) count (feeds_both k 1 p m q (feeds_many input output k p m walked) one))

-- what a read gave
feeds_fed : (in_old in_new output : Option (List ℕ)) (bytes : List ℕ) (p q : PlainSession) → Waits p → IsOfRead bytes → answer (Feed bytes) p ≡ done q → Consumes in_old in_new bytes → FeedsSteps in_old in_new output output 0 [] [] p q
feeds_fed in_old in_new output bytes p q waits read fed took = record {
  takes = record { commands = Feed bytes ∷ []; released = []; are_done = (waits, read, (q, fed, (refl, refl))); count = refl };
  took = subst (Consumes in_old in_new) (sym (append-nil bytes) ∙ sym (append-nil (bytes ++ []))) took;
  unfed = inl refl;
  gave = Appends-nothing output;
  pending = front_of_nothing q.last.output;
}

-- what a read gave, if anything, is the rest
feeds_left : {in_old in_new out_old out_new : Option (List ℕ)} (bytes : List ℕ) (p q : PlainSession) → Waits p → length bytes ≤ 4096 → q ≡ p → Consumes in_old in_new bytes → (front : WritesFront out_old out_new q.last.output) →
    FeedsSteps in_old in_new out_old out_new 0 bytes front.written p q
unfolding steps_none
feeds_left bytes p q waits few same took front = record { takes = steps_none p q same; took = took; unfed = some_or_none bytes few; gave = front.gave; pending = front.front }
  where
    some_or_none : (read : List ℕ) → length read ≤ 4096 → (read ≡ []) ⊎ (Waits q × IsOfRead read)
    some_or_none [] few = inl refl
    some_or_none (b ∷ bs) few = inr (subst Waits (sym same) waits, (omega arith, few))

-- the end of the input
feeds_end : (in_old in_new output : Option (List ℕ)) (p q : PlainSession) → Waits p → answer End p ≡ done q → Consumes in_old in_new [] → FeedsSteps in_old in_new output output 0 [] [] p q
feeds_end in_old in_new output p q waits h took = record {
  takes = record { commands = End ∷ []; released = []; are_done = (waits, (q, h, (refl, refl))); count = refl };
  took = took;
  unfed = inl refl;
  gave = Appends-nothing output;
  pending = front_of_nothing q.last.output;
}

-- ---- what an ending leaves

-- a fault of the writer says nothing of it
pub leaves_written : (ending : Ending) (rest : List ℕ) (p : PlainSession) → ending ≡ Write → Leaves ending rest p
leaves_written ending rest p fault = subst (λ e. Leaves e rest p) (sym fault) tt

-- nor does it change what was to be said
pub leaves_closed : {A : Type 0} (ending result : Ending) (rest : List ℕ) (p : PlainSession) → ((result ≡ ending) × A) ⊎ (result ≡ Write) → Leaves ending rest p → Leaves result rest p
leaves_closed {A} ending result rest p ends leaves = ⊎_elim
    (λ (all : (result ≡ ending) × A). subst (λ e. Leaves e rest p) (sym all.0) leaves)
    (λ (fault : result ≡ Write). leaves_written result rest p fault)
    ends

-- what a read gave that changed nothing
pub leaves_unfed : (ending : Ending) (got : List ℕ) (r s : PlainSession) → Waits r → s ≡ r → EndsFor ending r got → Leaves ending got s
leaves_unfed Memory got r s waits same why = inr (why.0, subst (λ p. Answers (Feed got) p (Refused refusals.Memory) p) (sym same) why.1)
leaves_unfed Read got r s waits same why = (why, subst Waits (sym same) waits)
leaves_unfed ending got r s waits same why = tt

-- ---- a turn

-- a walk, and what comes after it, which takes no step
pub feeds_turn : {in_old in_new out_old out_new : Option (List ℕ)} {rest late : List ℕ} {most n m k : ℕ} {why : Option Refusal} {p q : PlainSession} (r : PlainSession) → k ≤ m → IsWalkWithin most no_goal n p k why q →
    FeedsSteps in_old in_new out_old out_new 0 rest late q r → FeedsSteps in_old in_new out_old out_new (m - (m - k)) rest late p r
feeds_turn {in_old} {in_new} {out_old} {out_new} {rest} {late} {most} {n} {m} {k} {why} {p} {q} r within walk after =
    let count : k + 0 ≡ m - (m - k) = omega arith in
    subst (λ l. FeedsSteps in_old in_new out_old out_new l rest late p r) count (feeds_both k 0 p q r (feeds_many in_old out_old k p q walk.walk.walked) after)

-- the run ends after it, with what is pending written, or a front of it
pub feeds_walk : {input out_old out_new : Option (List ℕ)} {most n m k : ℕ} {why : Option Refusal} {p q : PlainSession} (lent : List ℕ) (ending result : Ending) → k ≤ m → IsWalkWithin most no_goal n p k why q →
    lent ≡ q.last.output → Closes out_old out_new lent ending result → Leaves ending [] q → FeedsToLast result input input out_old out_new (m - (m - k)) p q
feeds_walk {input} {out_old} {out_new} {most} {n} {m} {k} {why} {p} {q} lent ending result within walk is closes leaves =
    let front : WritesFront out_old out_new q.last.output = record { written = closes.written; front = subst (IsFrontOf closes.written) is closes.front; gave = closes.gave } in
    ([], front.written, feeds_turn {m = m} q within walk (feeds_late q q refl front), leaves_closed ending result [] q closes.ends leaves)

-- a commit of what was written, and a read that gave more, or the end
pub feeds_taken : {in_old in_new out_old out_new : Option (List ℕ)} (q r s : PlainSession) → Waits r → Appends out_old out_new q.last.output → answer (Commit 0) q ≡ done r → TakesMore in_old in_new r s →
    FeedsSteps in_old in_new out_old out_new 0 [] [] q s
feeds_taken {in_old} {in_new} {out_old} {out_new} q r s waits gave e taken = feeds_both 0 0 q r s (feeds_commit in_old q r gave e)
    (⊎_elim
    (λ (end : (taken.got ≡ []) × IsAtEnd in_new × (answer End r ≡ done s)). feeds_end in_old in_new out_new r s waits end.2 (subst (Consumes in_old in_new) end.0 taken.took))
    (λ (fed : (0 < length taken.got) × (answer (Feed taken.got) r ≡ done s)). feeds_fed in_old in_new out_new taken.got r s waits (fed.0, taken.few) fed.1 taken.took)
    taken.fed)

-- a commit of what was written, and a read that changed nothing; then what is pending is written, or a front of it
pub feeds_untaken : {in_old in_new out_old out_now out_new : Option (List ℕ)} {A : Type 0} (q r s : PlainSession) (ending result : Ending) → Waits r → Appends out_old out_now q.last.output → answer (Commit 0) q ≡ done r → TakesNone in_old in_new r s ending →
    WritesFront out_now out_new s.last.output → ((result ≡ ending) × A) ⊎ (result ≡ Write) → FeedsToLast result in_old in_new out_old out_new 0 q s
feeds_untaken {in_old} q r s ending result waits gave e taken front ends = (
  taken.got,
  front.written,
  feeds_both 0 0 q r s (feeds_commit in_old q r gave e) (feeds_left taken.got r s waits taken.few taken.same taken.took front),
  leaves_closed ending result taken.got s ends (leaves_unfed ending taken.got r s waits taken.same taken.why),
)

-- ---- parts that go on or end

-- a part after a walk
pub as_far_turn : {T : Type 0} (in_old in_new out_old out_new : Option (List ℕ)) {most n m k : ℕ} {why : Option Refusal} {p q : PlainSession} (r : PlainSession) (result : Result T Ending) → k ≤ m → IsWalkWithin most no_goal n p k why q →
    FeedsAsFar result in_old in_new out_old out_new 0 q r → FeedsAsFar result in_old in_new out_old out_new (m - (m - k)) p r
as_far_turn in_old in_new out_old out_new {m = m} r (Ok x) within walk rest = feeds_turn {m = m} r within walk rest
as_far_turn in_old in_new out_old out_new {m = m} r (Err ending) within walk rest = (rest.0, rest.1, feeds_turn {m = m} r within walk rest.2, rest.3)
