-- Input that is taken: what is pending is written, the session commits, and the reader is asked once.
use Rattle.std.proofs.Common.{◌≡◌, ℕ, suc, ◌+◌, ◌-◌, ◌*◌, ◌<◌, ◌≤◌, true, false, List, [], ◌++◌, length, take, drop, refl, sym, ap, subst, ◌∙◌, arith, ⊎_elim}
use Rattle.std.specs.Prelude.{Option}
use Rattle.std.specs.Io.KnownBytes.{Keeps, Appends, Consumes, IsAtEnd}
use Rattle.std.proofs.lemmas.Bool.{false≢true}
use Rattle.std.proofs.lemmas.List.{append-nil, length-drop, length-append, length-take-le}
use Rattle.trac_rules.specs.declared.limit.TheConstants.{TEXT_LIMIT, TAPE_LIMIT}
use Rattle.trac_rules.specs.declared.refusal.Refusal.{Refusal}
use Rattle.trac_rules.specs.declared.refusal.Refusal.TheVariants as refusals
use Rattle.trac_rules.specs.declared.reply.Reply.TheVariants.{Refused}
use Rattle.trac_rules.specs.Session.{PlainSession, Step, Commit, Feed, End, done, refused, answer, Answers, over}
use Rattle.trac_rules.specs.GoingOn.{prepended, going_on_from}
use Rattle.trac_rules.proofs.GoingOn.{after_Commit, going_on-Commit, after_Feed, going_on-Feed, after_End, going_on-End, going_on_hopeless}
use Rattle.trac_rules.proofs.Refusals.{wants_input_of_open}
use Rattle.trac_rules.proofs.Replies.{Commit_done, End_done, Feed_done, Feed_refused, Step_refused_NeedInput}
use Rattle.trac_streams.specs.declared.ending.Ending.{Ending}
use Rattle.trac_streams.specs.declared.ending.Ending.TheVariants.{Ended, Budget, Limit, Memory, Read, Write, NotUnderstood}
use Rattle.trac_streams.specs.Reading.{CameBy, end_reads, empty_reads, fault_reads}
use Rattle.trac_streams.specs.Written.{WritesFront, Closes}
use Rattle.trac_run.specs.Runs.{Shows, ending_of_feed, IsFresh, turns_left, unread_count, most_read, GoesOn, Finishes, EndsFor, TakesNone, TakesMore}
use Rattle.trac_streams.proofs.Gathered.{came_by_none, came_by_one, empty_reads_open, end_reads_ended, end_reads_open, fault_reads_one, if_ended, if_open}
use Rattle.trac_streams.proofs.Known.{Appends-both, Appends-kept, front_of_itself, empty_front}
use Rattle.trac_run.proofs.Turned.{closed_sound, finishes_here, front_pending, no_steps_write, Shows-Write, ended_after_Commit, end_turns, unread_after_Commit, writer_sound}

-- ---- one read

-- a feed that was refused for anything but memory was too long, and then much is unread
pub too_long_for : (p q : PlainSession) (got : List ℕ) (refusal : Refusal) → p.tape.ended ≡ false → length got ≤ 4096 → answer (Feed got) p ≡ refused refusal q → (q ≡ p) × (TEXT_LIMIT < length p.tape.bytes)
too_long_for p q got refusal open_ few h =
    let at = Feed_refused got p q refusal h in (
      at.0,
      ⊎_elim
          (λ (closed : (refusal ≡ refusals.Closed) × (p.tape.ended ≡ true)). absurd (false≢true (sym open_ ∙ closed.1)))
          (λ (long : (refusal ≡ refusals.TooLong) × (p.tape.ended ≡ false) × (TAPE_LIMIT < length p.tape.bytes + length got)). omega (arith, long.2))
          at.1,
    )

-- how a refused feed ends a run
pub feed_ends : (p q : PlainSession) (got : List ℕ) (refusal : Refusal) → p.tape.ended ≡ false → 0 < length got → length got ≤ 4096 → Answers (Feed got) p (Refused refusal) q → (q ≡ p) × EndsFor (ending_of_feed refusal) p got
feed_ends p q got refusals.Memory open_ some few h = (h.1, (some, (h.0, refl)))
feed_ends p q got refusals.TooLong open_ some few h = too_long_for p q got refusals.TooLong open_ few h
feed_ends p q got refusals.NeedInput open_ some few h = too_long_for p q got refusals.NeedInput open_ few h
feed_ends p q got refusals.Ended open_ some few h = too_long_for p q got refusals.Ended open_ few h
feed_ends p q got refusals.JournalFull open_ some few h = too_long_for p q got refusals.JournalFull open_ few h
feed_ends p q got refusals.AtStart open_ some few h = too_long_for p q got refusals.AtStart open_ few h
feed_ends p q got refusals.Closed open_ some few h = too_long_for p q got refusals.Closed open_ few h
feed_ends p q got refusals.NotMet open_ some few h = too_long_for p q got refusals.NotMet open_ few h

-- it is no fault of the reader
pub feed_sound : (refusal : Refusal) → fault_reads (ending_of_feed refusal) ≡ 0
feed_sound refusals.Memory = refl
feed_sound refusal = refl

-- what was not fed
pub takes_none : (in_old in_new : Option (List ℕ)) (p q : PlainSession) (buffer : List ℕ) (n : ℕ) (refusal : Refusal) (ending : Ending) → p.tape.ended ≡ false → 0 < n → n ≤ length buffer → length buffer ≤ 4096 →
    ending ≡ ending_of_feed refusal → Consumes in_old in_new (take n buffer) → Answers (Feed (take n buffer)) p (Refused refusal) q → TakesNone in_old in_new p q ending
takes_none in_old in_new p q buffer n refusal ending open_ some l few is took h =
    let few_ : length (take n buffer) ≤ 4096 = omega (arith, length-take-le n buffer l) in
    let at = feed_ends p q (take n buffer) refusal open_ (omega (arith, length-take-le n buffer l, some)) few_ h in
    record {
      got = take n buffer;
      few = few_;
      came = subst (λ full. CameBy full (take n buffer)) (sym (ap (λ full. 1 - full) (ap fault_reads is ∙ feed_sound refusal))) (came_by_one buffer n some l few);
      took = took;
      same = at.0;
      why = subst (λ e. EndsFor e p (take n buffer)) (sym is) at.1;
    }

-- ---- before the read

-- what is wanted is wanted of a tape that has not ended
pub wanted_open : (q : PlainSession) → answer Step q ≡ refused refusals.NeedInput q → q.tape.ended ≡ false
wanted_open q h = wants_input_of_open (over q.width q.tape) q.last (Step_refused_NeedInput q q h)

-- also after the commit
pub wanted_open_after : (q r : PlainSession) → answer Step q ≡ refused refusals.NeedInput q → answer (Commit 0) q ≡ done r → r.tape.ended ≡ false
wanted_open_after q r h e = ended_after_Commit q r e ∙ wanted_open q h

-- where a step waits, the tape is not ended; nor once what is pending was committed, if nothing was fed
pub wanted_never_ended : {At_end : Type 0} (q : PlainSession) → answer Step q ≡ refused refusals.NeedInput q → q.tape.ended ≡ true → At_end
wanted_never_ended {At_end} q h over = absurd (false≢true (sym (wanted_open q h) ∙ over))

pub unfed_never_ended : {At_end : Type 0} (q r s : PlainSession) → answer Step q ≡ refused refusals.NeedInput q → answer (Commit 0) q ≡ done r → s ≡ r → s.tape.ended ≡ true → At_end
unfed_never_ended {At_end} q r s h e same over = absurd (false≢true (sym (wanted_open_after q r h e) ∙ sym (ap (λ (p : PlainSession). p.tape.ended) same) ∙ over))

-- the tape after the commit is what was unread
pub tape_after_Commit : (q r : PlainSession) → answer (Commit 0) q ≡ done r → r.tape.bytes ≡ drop q.last.position q.tape.bytes
tape_after_Commit q r e = ap (λ (s : PlainSession). s.tape.bytes) (Commit_done 0 q r e)

-- the committed session stands on its tape
pub on_tape_after_Commit : (q r : PlainSession) → answer (Commit 0) q ≡ done r → r.last.position ≤ length r.tape.bytes
on_tape_after_Commit q r e = omega (arith, (after_Commit q r e).2)

-- ---- the session goes on

-- what is written from here, where more came
pub fed_rest : (q r s : PlainSession) (got more : List ℕ) (n : ℕ) → q.last.position ≤ length q.tape.bytes → answer (Commit 0) q ≡ done r → answer (Feed got) r ≡ done s →
    going_on_from q (got ++ more) n ≡ prepended q.last.output (going_on_from s more n)
fed_rest q r s got more n on_tape e h =
    going_on-Commit q r (got ++ more) n on_tape e ∙ ap (prepended q.last.output) (going_on-Feed r s got more n h)

-- where the end came
pub ended_rest : (q r s : PlainSession) (got more : List ℕ) (n : ℕ) → q.last.position ≤ length q.tape.bytes → answer (Commit 0) q ≡ done r → got ≡ [] → more ≡ [] → answer End r ≡ done s →
    going_on_from q (got ++ more) n ≡ prepended q.last.output (going_on_from s more n)
ended_rest q r s got more n on_tape e none last h =
    rw (none, last) (going_on-Commit q r [] n on_tape e ∙ ap (prepended q.last.output) (going_on-End r s n h))

-- what the reader gave is unread
pub unread_taken : (in_old in_new : Option (List ℕ)) (q r s : PlainSession) → answer (Commit 0) q ≡ done r → (taken : TakesMore in_old in_new r s) →
    (length taken.got + unread_count q ≡ unread_count s) × (length q.tape.bytes ≤ TAPE_LIMIT → length s.tape.bytes ≤ TAPE_LIMIT)
unread_taken in_old in_new q r s e taken =
    let left = unread_after_Commit q r e in
    let start = (after_Commit q r e).2 in
    ⊎_elim
    (λ (end : (taken.got ≡ []) × IsAtEnd in_new × (answer End r ≡ done s)).
    let same : length s.tape.bytes ≡ length r.tape.bytes = ap (λ (t : PlainSession). length t.tape.bytes) (End_done r s end.2) in
    let at : s.last.position ≡ 0 = ap (λ t. t.position) (after_End r s (on_tape_after_Commit q r e) end.2).0 ∙ start in
    (omega (arith, ap length end.0, same, left.0, at), λ fits. omega (arith, fits, same, left.0)))
    (λ (fed : (0 < length taken.got) × (answer (Feed taken.got) r ≡ done s)).
    let done_ = Feed_done taken.got r s fed.1 in
    let longer : length s.tape.bytes ≡ length r.tape.bytes + length taken.got = ap (λ (t : PlainSession). length t.tape.bytes) done_.0 ∙ length-append r.tape.bytes taken.got in
    let at : s.last.position ≡ 0 = ap (λ t. t.position) (after_Feed r s taken.got (on_tape_after_Commit q r e) fed.1).0 ∙ start in
    (omega (arith, longer, left.0, at), λ fits. omega (arith, longer, done_.2)))
    taken.fed

-- how many reads gave bytes, of one that gave what was fed, or the end
full_of : (in_old in_new : Option (List ℕ)) (q r s : PlainSession) → q.last.position ≤ length q.tape.bytes → answer (Commit 0) q ≡ done r → r.tape.ended ≡ false → (taken : TakesMore in_old in_new r s) →
    (full : ℕ) × CameBy full taken.got × (1 ≡ full + end_reads s.tape.ended)
full_of in_old in_new q r s on_tape e unended taken = ⊎_elim
    (λ (end : (taken.got ≡ []) × IsAtEnd in_new × (answer End r ≡ done s)).
    (0, subst (CameBy 0) (sym end.0) came_by_none, omega (arith, end_reads_ended s.tape.ended (after_End r s (on_tape_after_Commit q r e) end.2).4)))
    (λ (fed : (0 < length taken.got) × (answer (Feed taken.got) r ≡ done s)).
    (1, (omega (arith, fed.0), omega (arith, taken.few)), omega (arith, end_reads_open s.tape.ended (after_Feed r s taken.got (on_tape_after_Commit q r e) fed.1).4)))
    taken.fed

-- the session goes on from what the reader gave
pub taken_on : (in_old in_new out_old out_new : Option (List ℕ)) (reads_old reads_new : ℕ) (q r s : PlainSession) (n : ℕ) → answer Step q ≡ refused refusals.NeedInput q → q.last.position ≤ length q.tape.bytes → answer (Commit 0) q ≡ done r →
    Appends out_old out_new q.last.output → TakesMore in_old in_new r s → reads_new ≡ reads_old + 1 → GoesOn in_old in_new out_old out_new reads_old reads_new q n s n
taken_on in_old in_new out_old out_new reads_old reads_new q r s n wanted on_tape e gave taken once =
    let shut : q.tape.ended ≡ true → ⊥ = λ over. false≢true (sym (wanted_open q wanted) ∙ over) in
    let full = full_of in_old in_new q r s on_tape e (wanted_open_after q r wanted e) taken in
    record {
      moved = record { got = taken.got; written = q.last.output; took = taken.took; gave = gave; full = full.0; came = full.1 };
      closed = λ over. absurd (shut over);
      at_end = λ over. ⊎_elim
          (λ (end : (taken.got ≡ []) × IsAtEnd in_new × (answer End r ≡ done s)). end.1)
          (λ (more : (0 < length taken.got) × (answer (Feed taken.got) r ≡ done s)).
          absurd (false≢true (sym (after_Feed r s taken.got (on_tape_after_Commit q r e) more.1).4 ∙ over)))
          taken.fed;
      within = omega arith;
      rest = λ k more none.
          let count : k + (n - n) ≡ k = omega arith in
          ap (going_on_from q (taken.got ++ more)) count
          ∙ ⊎_elim
          (λ (end : (taken.got ≡ []) × IsAtEnd in_new × (answer End r ≡ done s)).
          ended_rest q r s taken.got more k on_tape e end.0 (none (after_End r s (on_tape_after_Commit q r e) end.2).4) end.2)
          (λ (fed : (0 < length taken.got) × (answer (Feed taken.got) r ≡ done s)). fed_rest q r s taken.got more k on_tape e fed.1)
          taken.fed;
      fits = (unread_taken in_old in_new q r s e taken).1;
      few = λ fits. omega (arith, (unread_taken in_old in_new q r s e taken).0);
      counted = omega (arith, once, full.2, end_reads_open q.tape.ended (wanted_open q wanted));
    }

-- a session that is as fresh as the committed one
pub fresh_like : (q r s : PlainSession) → 1 ≤ q.limit → answer (Commit 0) q ≡ done r → (s.last ≡ r.last) × (s.earlier ≡ r.earlier) × (s.limit ≡ r.limit) → IsFresh s
fresh_like q r s some e same =
    let left = after_Commit q r e in
    record {
      some_records = omega (arith, left.3, same.2);
      first = same.1 ∙ left.1;
      nothing_pending = ap (λ t. t.output) same.0 ∙ left.0;
      nothing_read = ap (λ t. t.position) same.0 ∙ left.2;
    }

-- it is fresh
pub taken_fresh : (in_old in_new : Option (List ℕ)) (q r s : PlainSession) → 1 ≤ q.limit → answer (Commit 0) q ≡ done r → TakesMore in_old in_new r s → IsFresh s
taken_fresh in_old in_new q r s some e taken =
    ⊎_elim
    (λ (end : (taken.got ≡ []) × IsAtEnd in_new × (answer End r ≡ done s)).
    let at = after_End r s (on_tape_after_Commit q r e) end.2 in fresh_like q r s some e (at.0, at.1, at.2))
    (λ (fed : (0 < length taken.got) × (answer (Feed taken.got) r ≡ done s)).
    let at = after_Feed r s taken.got (on_tape_after_Commit q r e) fed.1 in fresh_like q r s some e (at.0, at.1, at.2))
    taken.fed

-- with nothing read before, there are fewer turns left: the tape is longer, or it has ended
pub taken_fewer : (in_old in_new : Option (List ℕ)) (q r s : PlainSession) (n : ℕ) → answer Step q ≡ refused refusals.NeedInput q → answer (Commit 0) q ≡ done r → TakesMore in_old in_new r s →
    q.last.position ≡ 0 → turns_left s n < turns_left q n
taken_fewer in_old in_new q r s n wanted e taken start =
    let kept : length r.tape.bytes ≡ length q.tape.bytes =
    ap length (tape_after_Commit q r e) ∙ length-drop q.last.position q.tape.bytes ∙ ap (λ k. length q.tape.bytes - k) start ∙ omega arith in
    let before = if_open q.tape.ended (wanted_open q wanted) in
    ⊎_elim
    (λ (end : (taken.got ≡ []) × IsAtEnd in_new × (answer End r ≡ done s)).
    let same : length s.tape.bytes ≡ length r.tape.bytes = ap (λ (t : PlainSession). length t.tape.bytes) (End_done r s end.2) in
    let after = if_ended s.tape.ended (after_End r s (on_tape_after_Commit q r e) end.2).4 in
    omega (arith, before, after, same, kept))
    (λ (fed : (0 < length taken.got) × (answer (Feed taken.got) r ≡ done s)).
    let at = Feed_done taken.got r s fed.1 in
    let longer : length s.tape.bytes ≡ length r.tape.bytes + length taken.got = ap (λ (t : PlainSession). length t.tape.bytes) at.0 ∙ length-append r.tape.bytes taken.got in
    omega (arith, before, end_turns s.tape.ended, longer, kept, at.2, fed.0))
    taken.fed

-- ---- the run ends

-- a front of what is pending was written, and nothing read
pub unwritten_finish : (input : Option (List ℕ)) (out_old out_new : Option (List ℕ)) (reads : ℕ) (q : PlainSession) (n : ℕ) (ending : Ending) → answer Step q ≡ refused refusals.NeedInput q → ending ≡ Write →
    WritesFront out_old out_new q.last.output → Finishes input input out_old out_new reads reads q n n ending
unwritten_finish input out_old out_new reads q n ending wanted fault front =
    finishes_here input out_old out_new reads q n front.written ending (writer_sound ending fault) (λ over. absurd (false≢true (sym (wanted_open q wanted) ∙ over))) front.front front.gave
    (λ more none. Shows-Write ending front.written (going_on_from q more n) fault) (λ sound. absurd (sound fault))

-- all of a text was written, and a flush failed
pub unflushed_front : (out_old out_mid out_new : Option (List ℕ)) (text : List ℕ) → Appends out_old out_mid text → Keeps out_mid out_new → WritesFront out_old out_new text
unflushed_front out_old out_mid out_new text gave kept = record { written = text; front = front_of_itself text; gave = Appends-kept out_old out_mid out_new text gave kept }

-- what an ending without a feed says, with all that is pending written
pub shows_unfed : (q r : PlainSession) (n : ℕ) (got : List ℕ) (ending : Ending) → answer Step q ≡ refused refusals.NeedInput q → q.last.position ≤ length q.tape.bytes → answer (Commit 0) q ≡ done r → EndsFor ending r got →
    (more : List ℕ) → Shows ending q.last.output (going_on_from q more (n + 1))
shows_unfed q r n got Ended wanted on_tape e why more = absurd why
shows_unfed q r n got Budget wanted on_tape e why more = absurd why
shows_unfed q r n got Limit wanted on_tape e why more =
    let long : TEXT_LIMIT < length (drop q.last.position q.tape.bytes) = omega (arith, why, ap length (tape_after_Commit q r e)) in
    let count : n + 1 ≡ suc n = omega arith in
    ap (going_on_from q more) count ∙ going_on_hopeless q q more n on_tape wanted long
shows_unfed q r n got Memory wanted on_tape e why more = tt
shows_unfed q r n got Read wanted on_tape e why more = tt
shows_unfed q r n got Write wanted on_tape e why more = absurd why
shows_unfed q r n got (NotUnderstood line) wanted on_tape e why more = absurd why

-- no more was read than one read gives
pub few_of_read : (q : PlainSession) (n : ℕ) (got : List ℕ) → length got ≤ 4096 → length q.tape.bytes ≤ TAPE_LIMIT → length got + unread_count q + n * TAPE_LIMIT ≤ most_read n
few_of_read q n got few fits = omega (arith, few, fits)

-- the one read was counted, by whether it failed
read_counted : (q : PlainSession) (reads_old reads_new : ℕ) (ending : Ending) → q.tape.ended ≡ false → reads_new ≡ reads_old + 1 →
    reads_new + end_reads q.tape.ended ≡ reads_old + (1 - fault_reads ending) + empty_reads q.tape.ended ending
read_counted q reads_old reads_new ending unended once =
    omega (arith, once, end_reads_open q.tape.ended unended, empty_reads_open q.tape.ended ending unended, fault_reads_one ending)

-- and is one
few_reads_of_read : (q : PlainSession) (n : ℕ) (ending : Ending) → q.tape.ended ≡ false → length q.tape.bytes ≤ TAPE_LIMIT →
    (1 - fault_reads ending) + empty_reads q.tape.ended ending + unread_count q + n * TAPE_LIMIT ≤ n * TAPE_LIMIT + (TAPE_LIMIT + 1)
few_reads_of_read q n ending unended fits = omega (arith, fits, empty_reads_open q.tape.ended ending unended, fault_reads_one ending)

-- all that is pending was written, and the run ends so for what the reader gave or did not give
unfed_ends : {in_old in_new out_old out_new : Option (List ℕ)} (reads_old reads_new : ℕ) (q r s : PlainSession) (n : ℕ) (ending result : Ending) → fault_reads result ≡ fault_reads ending → answer Step q ≡ refused refusals.NeedInput q →
    Appends out_old out_new q.last.output → TakesNone in_old in_new r s ending → ((more : List ℕ) → Shows result q.last.output (going_on_from q more (n + 1))) → reads_new ≡ reads_old + 1 →
    Finishes in_old in_new out_old out_new reads_old reads_new q (n + 1) (n + 1) result
unfed_ends {in_old} {in_new} {out_old} {out_new} reads_old reads_new q r s n ending result same wanted gave taken shows once =
    let unended = wanted_open q wanted in
    let shut : q.tape.ended ≡ true → ⊥ = λ over. false≢true (sym unended ∙ over) in
    let came : CameBy (1 - fault_reads result) taken.got = subst (λ fault. CameBy (1 - fault) taken.got) (sym same) taken.came in
    record {
      moved = record { got = taken.got; written = q.last.output; took = taken.took; gave = gave; full = 1 - fault_reads result; came = came };
      closed = λ over. absurd (shut over);
      at_end = λ over. absurd (shut over);
      front = λ more none. front_pending q (taken.got ++ more) (n + 1);
      shows = λ more none. shows (taken.got ++ more);
      within = omega arith;
      exact = λ sound more none. no_steps_write q (n + 1) (taken.got ++ more) q.last.output refl;
      few = few_of_read q (n + 1) taken.got taken.few;
      counted = read_counted q reads_old reads_new result unended once;
      few_reads = few_reads_of_read q (n + 1) result unended;
    }

-- it ends for that
pub unfed_finish : (in_old in_new out_old out_new : Option (List ℕ)) (reads_old reads_new : ℕ) (q r s : PlainSession) (n : ℕ) (ending : Ending) → answer Step q ≡ refused refusals.NeedInput q → q.last.position ≤ length q.tape.bytes → answer (Commit 0) q ≡ done r →
    Appends out_old out_new q.last.output → TakesNone in_old in_new r s ending → reads_new ≡ reads_old + 1 → Finishes in_old in_new out_old out_new reads_old reads_new q (n + 1) (n + 1) ending
unfed_finish in_old in_new out_old out_new reads_old reads_new q r s n ending wanted on_tape e gave taken once =
    unfed_ends reads_old reads_new q r s n ending ending refl wanted gave taken (shows_unfed q r n taken.got ending wanted on_tape e taken.why) once

-- what is written when the pending text is empty: nothing
pub closes_nothing : (out_old out_mid out_new : Option (List ℕ)) (x text : List ℕ) (ending result : Ending) → text ≡ [] → Appends out_old out_mid x → Closes out_mid out_new text ending result → Appends out_old out_new x
closes_nothing out_old out_mid out_new x text ending result none gave closes =
    let empty : closes.written ≡ [] = empty_front closes.written text closes.front none in
    subst (Appends out_old out_new) (ap (λ t. x ++ t) empty ∙ append-nil x) (Appends-both out_old out_mid out_new x closes.written gave closes.gave)

-- then the run ends, after a last flush
pub unfed_closed : (in_old in_new out_old out_mid out_new : Option (List ℕ)) (reads_old reads_new : ℕ) (q r s : PlainSession) (n : ℕ) (ending result : Ending) → fault_reads ending ≡ 0 → answer Step q ≡ refused refusals.NeedInput q → q.last.position ≤ length q.tape.bytes →
    answer (Commit 0) q ≡ done r → Appends out_old out_mid q.last.output → TakesNone in_old in_new r s ending → Closes out_mid out_new s.last.output ending result → reads_new ≡ reads_old + 1 →
    Finishes in_old in_new out_old out_new reads_old reads_new q (n + 1) (n + 1) result
unfed_closed in_old in_new out_old out_mid out_new reads_old reads_new q r s n ending result sound wanted on_tape e gave taken closes once =
    let as_sound : fault_reads result ≡ fault_reads ending = closed_sound ending result closes.ends sound ∙ sym sound in
    let nothing : s.last.output ≡ [] = ap (λ (t : PlainSession). t.last.output) taken.same ∙ (after_Commit q r e).0 in
    unfed_ends reads_old reads_new q r s n ending result as_sound wanted (closes_nothing out_old out_mid out_new q.last.output s.last.output ending result nothing gave closes) taken
    (λ more. ⊎_elim
    (λ (all : (result ≡ ending) × (closes.written ≡ s.last.output)).
    subst (λ w. Shows w q.last.output (going_on_from q more (n + 1))) (sym all.0) (shows_unfed q r n taken.got ending wanted on_tape e taken.why more))
    (λ (fault : result ≡ Write). Shows-Write result q.last.output (going_on_from q more (n + 1)) fault)
    closes.ends)
    once
