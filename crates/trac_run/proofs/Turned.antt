-- One turn of a run, from a session with nothing to go back over and nothing pending.
use Rattle.std.proofs.Common.{◌≡◌, ℕ, zero, suc, ◌+◌, ◌-◌, ◌*◌, ◌<◌, ◌≤◌, Bool, true, false, List, [], ◌++◌, length, refl, sym, ap, subst, ◌∙◌, arith, ⊎_elim}
use Rattle.std.specs.Prelude.{Option, None, Some, MatchOption, Result, Ok, Err, OnOk, IfErr, if◌then◌else◌, ◌⊎◌, ◌==◌}
use Rattle.std.specs.Io.KnownBytes.{Appends, IsAtEnd}
use Rattle.std.proofs.lemmas.Bool.{cases_lt, false≢true}
use Rattle.std.proofs.lemmas.Bool.Decides.{nat_tests}
use Rattle.std.proofs.lemmas.List.{length-drop}
use Rattle.trac_rules.specs.declared.limit.TheConstants.{TAPE_LIMIT}
use Rattle.trac_rules.specs.declared.refusal.Refusal.{Refusal}
use Rattle.trac_rules.specs.declared.refusal.Refusal.TheVariants as refusals
use Rattle.trac_rules.specs.declared.reply.Reply.TheVariants.{Refused}
use Rattle.trac_rules.specs.Session.{PlainSession, Step, Commit, done, refused, answer, Answers, repeated, HasEnded, IsWalk, no_goal}
use Rattle.trac_rules.specs.Running.{Output, BudgetSpent, LimitPassed}
use Rattle.trac_rules.specs.GoingOn.{prepended, going_on_from}
use Rattle.trac_rules.proofs.GoingOn.{after_repeated, going_on-repeated, after_Commit, going_on-Commit, going_on_spent, going_on_ended, going_on_too_long}
use Rattle.trac_rules.proofs.Replies.{Commit_done, Step_refused_JournalFull, Step_refusals}
use Rattle.trac_session.specs.Within.{IsWalkWithin}
use Rattle.trac_streams.specs.declared.ending.Ending.{Ending}
use Rattle.trac_streams.specs.declared.ending.Ending.TheVariants.{Ended, Budget, Limit, Read, Write}
use Rattle.trac_rules.specs.Fronts.{IsFrontOf}
use Rattle.trac_streams.specs.Reading.{end_reads, empty_reads, fault_reads}
use Rattle.trac_streams.specs.Written.{WritesFront, Closes}
use Rattle.trac_run.specs.Runs.{Shows, IsFresh, turns_left, unread_count, most_read, GoesOn, Finishes}
use Rattle.trac_streams.proofs.Gathered.{empty_reads_one, empty_reads_sound}
use Rattle.trac_streams.proofs.Known.{front_of_front}
use Rattle.trac_run.proofs.Transfers.{only_written}

-- ---- the walk

-- what k accepted steps of at most m leave
pub record AfterWalk (p : PlainSession) (m k : ℕ) (q : PlainSession) : Type 0 where
  pub within : k ≤ m
  pub tape : q.tape ≡ p.tape
  pub some_records : 1 ≤ q.limit
  pub on_tape : q.last.position ≤ length q.tape.bytes
  pub taken : length q.earlier ≡ k
  pub unmoved : k ≡ 0 → q ≡ p
  pub rest : (n : ℕ) → (more : List ℕ) → (p.tape.ended ≡ true → more ≡ []) → going_on_from p more (n + k) ≡ going_on_from q more n

-- no step at all
pub unmoved_by_none : (k : ℕ) (p q : PlainSession) → repeated Step k p ≡ Some q → k ≡ 0 → q ≡ p
unmoved_by_none zero p q h e = cc
unmoved_by_none (suc k) p q h e = absurd (omega arith)

-- what a walk of n steps at most leaves, where m are left
pub after_walk : {most n : ℕ} {p : PlainSession} {m k : ℕ} {why : Option Refusal} {q : PlainSession} → n ≤ m → IsFresh p → IsWalkWithin most no_goal n p k why q → AfterWalk p m k q
after_walk {most} {n} {p} {m} {k} {why} {q} fewer fresh walk =
    let start : p.last.position ≤ length p.tape.bytes = omega (arith, fresh.nothing_read) in
    let after = after_repeated k p q start walk.walk.walked in
    let l : k ≤ m = omega (arith, walk.walk.within, walk.within, fewer) in
    record {
      within = l;
      tape = after.tape;
      some_records = omega (arith, after.limit, fresh.some_records);
      on_tape = after.within;
      taken = omega (arith, after.earlier, ap length fresh.first);
      unmoved = unmoved_by_none k p q walk.walk.walked;
      rest = λ n more none. going_on-repeated k n p q more start none walk.walk.walked;
    }

-- with the steps that are left
pub walked_left : (p : PlainSession) (m k : ℕ) (q : PlainSession) → AfterWalk p m k q → (more : List ℕ) → (p.tape.ended ≡ true → more ≡ []) → going_on_from p more m ≡ going_on_from q more (m - k)
walked_left p m k q after more none =
    let count : m ≡ (m - k) + k = omega (arith, after.within) in
    ap (going_on_from p more) count ∙ after.rest (m - k) more none

-- the tape after a walk is the one before
pub tape_after_walk : (p : PlainSession) (m k : ℕ) (q : PlainSession) → AfterWalk p m k q → length q.tape.bytes ≡ length p.tape.bytes
tape_after_walk p m k q after = ap (λ t. length t.bytes) after.tape

-- a walk reads no more than its steps may
pub unread_by_walk : (p : PlainSession) (m k : ℕ) (q : PlainSession) → AfterWalk p m k q → length p.tape.bytes ≤ TAPE_LIMIT → unread_count p ≤ unread_count q + k * TAPE_LIMIT
unread_by_walk p m zero q after fits = omega (arith, ap unread_count (after.unmoved refl))
unread_by_walk p m (suc k) q after fits = omega (arith, fits)

-- a run that ends with nothing read
pub few_of_none : (p : PlainSession) (m n : ℕ) → n ≤ m → length p.tape.bytes ≤ TAPE_LIMIT → 0 + unread_count p + n * TAPE_LIMIT ≤ most_read m
few_of_none p m n fewer fits = omega (arith, fewer, fits)

-- and no more often
pub few_reads_of_none : (p : PlainSession) (m n : ℕ) (ending : Ending) → n ≤ m → length p.tape.bytes ≤ TAPE_LIMIT →
    0 + empty_reads p.tape.ended ending + unread_count p + n * TAPE_LIMIT ≤ m * TAPE_LIMIT + (TAPE_LIMIT + 1)
few_reads_of_none p m n ending fewer fits = omega (arith, fewer, fits, empty_reads_one p.tape.ended ending)

-- whatever is no fault of the reader
pub sound_unless : (ending : Ending) → (ending ≡ Read → ⊥) → fault_reads ending ≡ 0
sound_unless Read other = absurd (other refl)
sound_unless ending other = refl

-- a fault of the writer is none of the reader
pub writer_sound : (ending : Ending) → ending ≡ Write → fault_reads ending ≡ 0
writer_sound ending e = rw e refl

-- nor is the ending that was to be
pub closed_sound : {A : Type 0} (ending result : Ending) → ((result ≡ ending) × A) ⊎ (result ≡ Write) → fault_reads ending ≡ 0 → fault_reads result ≡ 0
closed_sound {A} ending result ends sound = ⊎_elim
    (λ (all : (result ≡ ending) × A). ap fault_reads all.0 ∙ sound)
    (λ (fault : result ≡ Write). writer_sound result fault)
    ends

-- no read is counted where none is made
pub none_counted : (reads : ℕ) (p : PlainSession) (ending : Ending) → fault_reads ending ≡ 0 → reads + end_reads p.tape.ended ≡ reads + 0 + empty_reads p.tape.ended ending
none_counted reads p ending sound = omega (arith, empty_reads_sound p.tape.ended ending sound)

-- what a commit leaves on the tape is what was unread
pub unread_after_Commit : (q r : PlainSession) → answer (Commit 0) q ≡ done r → (length r.tape.bytes ≡ unread_count q) × (unread_count r ≡ unread_count q)
unread_after_Commit q r h =
    let kept : length r.tape.bytes ≡ unread_count q =
    ap (λ (s : PlainSession). length s.tape.bytes) (Commit_done 0 q r h) ∙ length-drop q.last.position q.tape.bytes in
    (kept, omega (arith, kept, (after_Commit q r h).2))

-- why a walk was stopped
pub stopped_for : {most : ℕ} {p : PlainSession} {m k : ℕ} {why : Option Refusal} {q : PlainSession} {refusal r : Refusal} → IsWalkWithin most no_goal m p k why q → why ≡ Some refusal → refusal ≡ r →
    (k < m) × Answers Step q (Refused r) q
stopped_for {most} {p} {m} {k} {why} {q} {refusal} {r} walk e same =
    let n : ℕ = walk.allowed in
    let stop = subst (λ w. MatchOption w (HasEnded no_goal n k q) (λ x. (k < n) × (0 < k → no_goal q.last ≡ false) × Answers Step q (Refused x) q))
    (e ∙ ap (λ x. Some x) same) walk.walk.stopped in
    (omega (arith, stop.0, walk.within), stop.2)

-- a walk that no refusal stopped
pub not_stopped : (p : PlainSession) (m k : ℕ) (why : Option Refusal) (q : PlainSession) → IsWalk Step no_goal m p k why q → why ≡ None → k ≡ m
not_stopped p m k why q walk e =
    ⊎_elim
    (λ (all : k ≡ m). all)
    (λ (met : (0 < k) × (no_goal q.last ≡ true)). absurd (false≢true met.1))
    (subst (λ w. MatchOption w (HasEnded no_goal m k q) (λ x. (k < m) × (0 < k → no_goal q.last ≡ false) × Answers Step q (Refused x) q)) e walk.stopped)

-- a walk that no refusal stopped took a step at least, where it may take any: all of these, or until its records were heavy
pub taken_unstopped : {most : ℕ} {p : PlainSession} {n k : ℕ} {why : Option Refusal} {q : PlainSession} → IsWalkWithin most no_goal n p k why q → why ≡ None → 0 < n → 0 < k
taken_unstopped {most} {p} {n} {k} {why} {q} walk e some =
    let all : k ≡ walk.allowed = not_stopped p walk.allowed k why q walk.walk e in
    ⊎_elim
    (λ (early : walk.allowed < n). omega (arith, all, (walk.heavy early).0))
    (λ (last : n ≤ walk.allowed). omega (arith, all, last, some))
    (cases_lt walk.allowed n)

-- a step is refused for nothing else
pub refused_for_none : (q : PlainSession) (refusal : Refusal) → answer Step q ≡ refused refusal q →
    (refusal ≡ refusals.JournalFull → ⊥) → (refusal ≡ refusals.TooLong → ⊥) → (refusal ≡ refusals.NeedInput → ⊥) → (refusal ≡ refusals.Ended → ⊥) → ⊥
refused_for_none q refusal h not_full not_long not_input not_ended =
    ⊎_elim not_full
    (λ (others : (refusal ≡ refusals.TooLong) ⊎ (((refusal ≡ refusals.NeedInput) × (q.tape.ended ≡ false)) ⊎ (refusal ≡ refusals.Ended))).
    ⊎_elim not_long
    (λ (wants : ((refusal ≡ refusals.NeedInput) × (q.tape.ended ≡ false)) ⊎ (refusal ≡ refusals.Ended)).
    ⊎_elim (λ (input : (refusal ≡ refusals.NeedInput) × (q.tape.ended ≡ false)). not_input input.0) not_ended wants)
    others)
    (Step_refusals q q refusal h)

-- ---- the end of the tape

-- the tape is ended after a walk only if it was before
pub still_at_end : {p q : PlainSession} {m k : ℕ} {At_end : Type 0} → AfterWalk p m k q → (p.tape.ended ≡ true → At_end) → q.tape.ended ≡ true → At_end
still_at_end {p} {q} {m} {k} {At_end} after at_end over = at_end (sym (ap (λ t. t.ended) after.tape) ∙ over)

-- and after what follows, if that does not end it, however it ends itself
pub at_end_either : {T : Type 0} (result : Result T Ending) {p q : PlainSession} (r : PlainSession) {m k : ℕ} {At_end : Type 0} → AfterWalk p m k q → (p.tape.ended ≡ true → At_end) →
    r.tape.ended ≡ q.tape.ended → IfErr result (λ ending. r.tape.ended ≡ true → At_end)
at_end_either (Ok done) r after at_end same = tt
at_end_either (Err ending) r after at_end same = λ over. still_at_end after at_end (sym same ∙ over)

-- ---- the end of a run

-- what is pending is a front of what is written
pub front_pending : (q : PlainSession) (more : List ℕ) (n : ℕ) → IsFrontOf q.last.output (going_on_from q more n).bytes
front_pending q more n = (_, refl)

-- a fault of the writer ends every run
pub Shows-Write : (result : Ending) (written : List ℕ) (o : Output) → result ≡ Write → Shows result written o
Shows-Write result written o e = rw e tt

-- the stated ending, with all written
pub Shows-closed : (ending result : Ending) (written text : List ℕ) (o : Output) → ((result ≡ ending) × (written ≡ text)) ⊎ (result ≡ Write) → Shows ending text o → Shows result written o
Shows-closed ending result written text o ends shows =
    ⊎_elim
    (λ (all : (result ≡ ending) × (written ≡ text)). rw (all.0, all.1) shows)
    (λ (fault : result ≡ Write). Shows-Write result written o fault)
    ends

-- without a step what is pending is written, and no more
pub no_steps_write : (q : PlainSession) (n : ℕ) (more written : List ℕ) → written ≡ q.last.output → going_on_from q more (n - n) ≡ record { bytes = written; stop = BudgetSpent }
no_steps_write q n more written all =
    let count : n - n ≡ 0 = omega arith in
    ap (going_on_from q more) count ∙ going_on_spent q more ∙ ap (λ (bytes : List ℕ). record { bytes = bytes; stop = BudgetSpent }) (sym all)

-- a run that ends here, with nothing read
pub finishes_here : (input : Option (List ℕ)) (out_old out_new : Option (List ℕ)) (reads : ℕ) (q : PlainSession) (n : ℕ) (written : List ℕ) (ending : Ending) → fault_reads ending ≡ 0 →
    (q.tape.ended ≡ true → IsAtEnd input) → IsFrontOf written q.last.output → Appends out_old out_new written → ((more : List ℕ) → (q.tape.ended ≡ true → more ≡ []) → Shows ending written (going_on_from q more n)) →
    ((ending ≡ Write → ⊥) → written ≡ q.last.output) → Finishes input input out_old out_new reads reads q n n ending
finishes_here input out_old out_new reads q n written ending sound at_end front gave shows all = record {
  moved = only_written input out_old out_new written gave;
  closed = λ _. refl;
  at_end = at_end;
  front = λ more none. front_of_front written q.last.output (going_on_from q more n).bytes front (front_pending q more n);
  shows = shows;
  within = omega arith;
  exact = λ sound_ more none. no_steps_write q n more written (all sound_);
  few = few_of_none q n n (omega arith);
  counted = none_counted reads q ending sound;
  few_reads = few_reads_of_none q n n ending (omega arith);
}

-- finishing from the session after the walk
walked_end : (in_old in_new out_old out_new : Option (List ℕ)) (reads_old reads_new : ℕ) (p : PlainSession) (m k : ℕ) (q : PlainSession) (n : ℕ) (ending : Ending) →
    AfterWalk p m k q → Finishes in_old in_new out_old out_new reads_old reads_new q (m - k) n ending → Finishes in_old in_new out_old out_new reads_old reads_new p m n ending
walked_end in_old in_new out_old out_new reads_old reads_new p m k q n ending after on =
    let ended : q.tape.ended ≡ p.tape.ended = ap (λ t. t.ended) after.tape in
    let all : (more : List ℕ) → (p.tape.ended ≡ true → more ≡ []) → going_on_from p (on.moved.got ++ more) m ≡ going_on_from q (on.moved.got ++ more) (m - k) =
    λ more none. walked_left p m k q after (on.moved.got ++ more) (λ over. ap (λ g. g ++ more) (on.closed (ended ∙ over)) ∙ none over) in
    let count : m - n ≡ (m - k - n) + k = omega (arith, after.within, on.within) in
    record {
      moved = on.moved;
      closed = λ over. on.closed (ended ∙ over);
      at_end = λ over. on.at_end (ended ∙ over);
      front = λ more none. subst (λ (o : Output). IsFrontOf on.moved.written o.bytes) (sym (all more none)) (on.front more (λ over. none (sym ended ∙ over)));
      shows = λ more none. subst (λ (o : Output). Shows ending on.moved.written o) (sym (all more none)) (on.shows more (λ over. none (sym ended ∙ over)));
      within = omega (arith, after.within, on.within);
      exact = λ sound more none.
          ap (going_on_from p (on.moved.got ++ more)) count
          ∙ after.rest (m - k - n) (on.moved.got ++ more) (λ over. ap (λ g. g ++ more) (on.closed (ended ∙ over)) ∙ none over)
          ∙ on.exact sound more (λ over. none (sym ended ∙ over));
      few = λ fits_. omega (arith, on.few (omega (arith, fits_, tape_after_walk p m k q after)), unread_by_walk p m k q after fits_, after.within);
      counted = omega (arith, on.counted, ap end_reads ended, ap (λ b. empty_reads b ending) ended);
      few_reads = λ fits_. omega (
        arith,
        on.few_reads (omega (arith, fits_, tape_after_walk p m k q after)),
        ap (λ b. empty_reads b ending) ended,
        unread_by_walk p m k q after fits_,
        after.within,
      );
    }

-- a run that ends after the walk, with nothing read since
ends_after : (input : Option (List ℕ)) (out_old out_new : Option (List ℕ)) (reads : ℕ) (p : PlainSession) (m k : ℕ) (q : PlainSession) (written : List ℕ) (ending : Ending) → AfterWalk p m k q →
    (p.tape.ended ≡ true → IsAtEnd input) → fault_reads ending ≡ 0 → IsFrontOf written q.last.output → Appends out_old out_new written →
    ((more : List ℕ) → (q.tape.ended ≡ true → more ≡ []) → Shows ending written (going_on_from q more (m - k))) → ((ending ≡ Write → ⊥) → written ≡ q.last.output) → Finishes input input out_old out_new reads reads p m (m - k) ending
ends_after input out_old out_new reads p m k q written ending after at_end sound front gave shows all =
    walked_end input input out_old out_new reads reads p m k q (m - k) ending after
    (finishes_here input out_old out_new reads q (m - k) written ending sound (λ over. at_end (sym (ap (λ t. t.ended) after.tape) ∙ over)) front gave shows all)

-- the same by its last writes
pub closed_run : (input : Option (List ℕ)) (out_old out_new : Option (List ℕ)) (reads : ℕ) {p : PlainSession} {m k : ℕ} {q : PlainSession} (text : List ℕ) (ending result : Ending) →
    fault_reads ending ≡ 0 → AfterWalk p m k q → (p.tape.ended ≡ true → IsAtEnd input) → text ≡ q.last.output → Closes out_old out_new text ending result →
    ((more : List ℕ) → (q.tape.ended ≡ true → more ≡ []) → Shows ending q.last.output (going_on_from q more (m - k))) →
    Finishes input input out_old out_new reads reads p m (m - k) result
closed_run input out_old out_new reads {p} {m} {k} {q} text ending result sound after at_end pending closes shows =
    ends_after input out_old out_new reads p m k q closes.written result after at_end (closed_sound ending result closes.ends sound) (subst (IsFrontOf closes.written) pending closes.front) closes.gave
    (λ more none. Shows-closed ending result closes.written q.last.output (going_on_from q more (m - k))
    (subst (λ t. ((result ≡ ending) × (closes.written ≡ t)) ⊎ (result ≡ Write)) pending closes.ends) (shows more none))
    (λ sound_. ⊎_elim (λ (all : (result ≡ ending) × (closes.written ≡ text)). all.1 ∙ pending) (λ (fault : result ≡ Write). absurd (sound_ fault)) closes.ends)

-- the budget is spent
pub shows_spent : (q : PlainSession) (n : ℕ) → n ≡ 0 → (more : List ℕ) → (q.tape.ended ≡ true → more ≡ []) → Shows Budget q.last.output (going_on_from q more n)
shows_spent q n e more none = rw e (going_on_spent q more)

-- a number above 0
pub one_above : (n : ℕ) → 0 < n → (k : ℕ) × (n ≡ suc k)
one_above n l = (n - 1, omega arith)

-- the input has ended
pub shows_ended : (q : PlainSession) (n : ℕ) → 0 < n → q.last.position ≤ length q.tape.bytes → answer Step q ≡ refused refusals.Ended q →
    (more : List ℕ) → (q.tape.ended ≡ true → more ≡ []) → Shows Ended q.last.output (going_on_from q more n)
shows_ended q n l on_tape h more none =
    let count = one_above n l in
    rw count.1 (going_on_ended q q more count.0 on_tape h none)

-- a limit is passed, with nothing pending
pub shows_limit : (q : PlainSession) (n : ℕ) → 0 < n → q.last.position ≤ length q.tape.bytes → answer Step q ≡ refused refusals.TooLong q → q.last.output ≡ [] →
    (more : List ℕ) → (q.tape.ended ≡ true → more ≡ []) → Shows Limit q.last.output (going_on_from q more n)
shows_limit q n l on_tape h nothing more none =
    let count = one_above n l in
    rw count.1 (going_on_too_long q q more count.0 on_tape h none nothing ∙ ap (λ (bytes : List ℕ). record { bytes = bytes; stop = LimitPassed }) (sym nothing))

-- without a step taken nothing is pending
pub nothing_pending_unmoved : {p : PlainSession} {m k : ℕ} {q : PlainSession} → IsFresh p → AfterWalk p m k q → length q.earlier ≡ 0 → q.last.output ≡ []
nothing_pending_unmoved {p} {m} {k} {q} fresh after none =
    let same : q ≡ p = after.unmoved (omega (arith, after.taken)) in
    ap (λ (s : PlainSession). s.last.output) same ∙ fresh.nothing_pending

-- whether there is a step to go back over, as it is tested
pub taken_of_test : {p : PlainSession} {m k : ℕ} {q : PlainSession} (empty : Bool) → AfterWalk p m k q → empty ≡ (length q.earlier == 0) → empty ≡ false → 0 < k
taken_of_test {p} {m} {k} {q} empty after is none = grind (arith, nat_tests, after.taken)

pub none_taken_of_test : (q : PlainSession) (empty : Bool) → empty ≡ (length q.earlier == 0) → empty ≡ true → length q.earlier ≡ 0
none_taken_of_test q empty is none = grind (arith, nat_tests)

-- ---- a commit after the walk

-- what was to be written is the pending output, and what is to be written from the committed session on
pub released_rest : (p : PlainSession) (m k : ℕ) (q r : PlainSession) → AfterWalk p m k q → answer (Commit 0) q ≡ done r →
    (n : ℕ) → (more : List ℕ) → (p.tape.ended ≡ true → more ≡ []) → going_on_from p more (n + (m - (m - k))) ≡ prepended q.last.output (going_on_from r more n)
released_rest p m k q r after h n more none =
    let count : n + (m - (m - k)) ≡ n + k = omega (arith, after.within) in
    ap (going_on_from p more) count ∙ after.rest n more none ∙ going_on-Commit q r more n after.on_tape h

-- the tape of the committed session has ended where the first one had
pub ended_after_Commit : (q r : PlainSession) → answer (Commit 0) q ≡ done r → r.tape.ended ≡ q.tape.ended
ended_after_Commit q r h = ap (λ (s : PlainSession). s.tape.ended) (Commit_done 0 q r h)

-- ---- the turns

-- the end adds at most one
pub end_turns : (b : Bool) → (if b then 0 else 1) ≤ 1
end_turns true = omega arith
end_turns false = omega arith

-- with a step taken there are fewer turns left, whatever became of the tape
pub fewer_by_step : (p r : PlainSession) (m n : ℕ) → n < m → turns_left r n < turns_left p m
fewer_by_step p r m n l = omega (arith, end_turns r.tape.ended)

-- a release, a step having been taken: the run goes on with the committed session, which is fresh and has fewer turns
-- left; or a front of what is pending was written
pub released : (input : Option (List ℕ)) (out_old out_new : Option (List ℕ)) (reads : ℕ) {p : PlainSession} {m k : ℕ} {q : PlainSession} (r : PlainSession) (result : Result (Unit {0}) Ending) →
    AfterWalk p m k q → (p.tape.ended ≡ true → IsAtEnd input) → 0 < k → OnOk result (Appends out_old out_new q.last.output) → OnOk result (answer (Commit 0) q ≡ done r) →
    IfErr result (λ ending. (ending ≡ Write) × WritesFront out_old out_new q.last.output) →
    OnOk result (GoesOn input input out_old out_new reads reads p m r (m - k)) × IfErr result (Finishes input input out_old out_new reads reads p m (m - k))
    × OnOk result (IsFresh r) × OnOk result (turns_left r (m - k) < turns_left p m)
released input out_old out_new reads {p} {m} {k} {q} r (Err ending) after at_end some gave h failed =
    let fault : ending ≡ Write = failed.0 in
    let front = failed.1 in (
      tt,
      ends_after input out_old out_new reads p m k q front.written ending after at_end (writer_sound ending fault) front.front front.gave
          (λ more none. Shows-Write ending front.written (going_on_from q more (m - k)) fault) (λ sound_. absurd (sound_ fault)),
      tt,
      tt,
    )
released input out_old out_new reads {p} {m} {k} {q} r (Ok u) after at_end some gave h failed =
    let ended : r.tape.ended ≡ p.tape.ended = ended_after_Commit q r h ∙ ap (λ t. t.ended) after.tape in
    let left = after_Commit q r h in (
      record {
        moved = only_written input out_old out_new q.last.output gave;
        closed = λ over. (refl, ended ∙ over);
        at_end = λ over. at_end (sym ended ∙ over);
        within = omega arith;
        rest = λ n more none. released_rest p m k q r after h n more (λ over. none (ended ∙ over));
        fits = λ fits_. omega (arith, fits_, (unread_after_Commit q r h).0, tape_after_walk p m k q after);
        few = λ fits_. omega (arith, (unread_after_Commit q r h).1, unread_by_walk p m k q after fits_, after.within);
        counted = omega (arith, ap end_reads ended);
      },
      tt,
      record {
        some_records = omega (arith, left.3, after.some_records);
        first = left.1;
        nothing_pending = left.0;
        nothing_read = left.2;
      },
      fewer_by_step p r m (m - k) (omega (arith, some, after.within)),
    )

-- a full journal has a step
pub taken_when_full : {p q : PlainSession} {m k : ℕ} → AfterWalk p m k q → answer Step q ≡ refused refusals.JournalFull q → 0 < k
taken_when_full {p} {q} {m} {k} after h = omega (arith, after.taken, after.some_records, Step_refused_JournalFull q q h)

-- ---- input after the walk

-- going on from the session after the walk
pub walked_on : (in_old in_new out_old out_new : Option (List ℕ)) (reads_old reads_new : ℕ) {p : PlainSession} {m k : ℕ} {q : PlainSession} (r : PlainSession) (result : Result (Unit {0}) Ending) →
    AfterWalk p m k q → OnOk result (GoesOn in_old in_new out_old out_new reads_old reads_new q (m - k) r (m - k)) →
    OnOk result (GoesOn in_old in_new out_old out_new reads_old reads_new p m r (m - k))
walked_on in_old in_new out_old out_new reads_old reads_new {p} {m} {k} {q} r (Err e) after on = tt
walked_on in_old in_new out_old out_new reads_old reads_new {p} {m} {k} {q} r (Ok u) after on =
    let ended : q.tape.ended ≡ p.tape.ended = ap (λ t. t.ended) after.tape in
    record {
      moved = on.moved;
      closed = λ over. on.closed (ended ∙ over);
      at_end = on.at_end;
      within = omega arith;
      rest = λ n more none.
          let count : n + (m - (m - k)) ≡ n + ((m - k) - (m - k)) + k = omega (arith, after.within) in
          ap (going_on_from p (on.moved.got ++ more)) count
          ∙ after.rest (n + ((m - k) - (m - k))) (on.moved.got ++ more) (λ over. let at = on.closed (ended ∙ over) in ap (λ g. g ++ more) at.0 ∙ none at.1)
          ∙ on.rest n more none;
      fits = λ fits_. on.fits (omega (arith, fits_, tape_after_walk p m k q after));
      few = λ fits_. omega (arith, on.few (omega (arith, fits_, tape_after_walk p m k q after)), unread_by_walk p m k q after fits_, after.within);
      counted = omega (arith, on.counted, ap end_reads ended);
    }

-- finishing from it
walked_finish : (in_old in_new out_old out_new : Option (List ℕ)) (reads_old reads_new : ℕ) (p : PlainSession) (m k : ℕ) (q : PlainSession) (n : ℕ) (result : Result (Unit {0}) Ending) →
    AfterWalk p m k q → IfErr result (Finishes in_old in_new out_old out_new reads_old reads_new q (m - k) n) → IfErr result (Finishes in_old in_new out_old out_new reads_old reads_new p m n)
walked_finish in_old in_new out_old out_new reads_old reads_new p m k q n (Ok u) after on = tt
walked_finish in_old in_new out_old out_new reads_old reads_new p m k q n (Err e) after on = walked_end in_old in_new out_old out_new reads_old reads_new p m k q n e after on

-- the same with at least one step left, which the input says with a number after it
pub walked_finish_one : (in_old in_new out_old out_new : Option (List ℕ)) (reads_old reads_new : ℕ) {p : PlainSession} {m k : ℕ} {q : PlainSession} (result : Result (Unit {0}) Ending) →
    AfterWalk p m k q → k < m → ((n : ℕ) → IfErr result (Finishes in_old in_new out_old out_new reads_old reads_new q (n + 1) (n + 1))) →
    IfErr result (Finishes in_old in_new out_old out_new reads_old reads_new p m (m - k))
walked_finish_one in_old in_new out_old out_new reads_old reads_new {p} {m} {k} {q} result after l on =
    let count : (m - k - 1) + 1 ≡ m - k = omega arith in
    walked_finish in_old in_new out_old out_new reads_old reads_new p m k q (m - k) result after
    (subst (λ (n : ℕ). IfErr result (Finishes in_old in_new out_old out_new reads_old reads_new q n n)) count (on (m - k - 1)))

-- fewer turns after input
pub walked_fewer : (p : PlainSession) (m k : ℕ) (q r : PlainSession) (result : Result (Unit {0}) Ending) → IsFresh p → AfterWalk p m k q →
    (q.last.position ≡ 0 → OnOk result (turns_left r (m - k) < turns_left q (m - k))) → OnOk result (turns_left r (m - k) < turns_left p m)
walked_fewer p m zero q r result fresh after fewer =
    let same : q ≡ p = after.unmoved refl in
    let start : q.last.position ≡ 0 = ap (λ (s : PlainSession). s.last.position) same ∙ fresh.nothing_read in
    let count : m - 0 ≡ m = omega arith in
    subst (λ (s : PlainSession). OnOk result (turns_left r (m - 0) < turns_left s m)) same
    (subst (λ (n : ℕ). OnOk result (turns_left r (m - 0) < turns_left q n)) count (fewer start))
walked_fewer p m (suc k) q r (Err e) fresh after fewer = tt
walked_fewer p m (suc k) q r (Ok u) fresh after fewer = fewer_by_step p r m (m - suc k) (omega (arith, after.within))
