-- Input that is taken piece after piece, for a step that goes on waiting.
use Rattle.std.proofs.Common.{◌≡◌, ℕ, ◌+◌, ◌-◌, ◌<◌, ◌≤◌, Bool, true, false, List, [], ◌++◌, length, refl, sym, ap, subst, ◌∙◌, arith, ⊎_elim}
use Rattle.std.specs.Prelude.{Option, None, Some, is_some, not}
use Rattle.std.proofs.lemmas.Bool.{cases_Bool, false≢true, true≢false}
use Rattle.std.proofs.lemmas.List.{append_assoc, length-append}
use Rattle.trac_rules.specs.declared.limit.TheConstants.{TAPE_LIMIT}
use Rattle.trac_rules.specs.declared.refusal.Refusal.TheVariants as refusals
use Rattle.trac_rules.specs.Fronts.{IsFrontOf}
use Rattle.trac_rules.specs.Session.{PlainSession, Step, refused, answer}
use Rattle.trac_rules.specs.Running.{Output}
use Rattle.trac_rules.specs.GoingOn.{prepended, going_on_from}
use Rattle.trac_streams.specs.declared.ending.Ending.{Ending}
use Rattle.trac_run.specs.Runs.{Shows, IsFresh, FeedsSteps, turns_left, GoesOn, Finishes}
use Rattle.trac_streams.specs.Reading.{empty_reads}
use Rattle.trac_streams.proofs.Gathered.{empty_reads_open, end_reads_one}
use Rattle.trac_streams.proofs.Known.{front_after}
use Rattle.trac_run.proofs.Taken.{wanted_open}
use Rattle.trac_run.proofs.Ran.{Shows-prepended}
use Rattle.trac_run.proofs.Transfers.{both_moved, goes_on_twice, rest_left}
use Rattle.trac_run.proofs.Stepped.{feeds_both}

-- ---- one part of a run after another

-- going on, and then finishing from a session whose input has not ended
pub goes_on_to_finish : (in_old in_now in_new out_old out_now out_new : Option (List ℕ)) (reads_old reads_now reads_new : ℕ) (p q : PlainSession) (l m n : ℕ) (ending : Ending) → q.tape.ended ≡ false →
    GoesOn in_old in_now out_old out_now reads_old reads_now p l q m → Finishes in_now in_new out_now out_new reads_now reads_new q m n ending →
    Finishes in_old in_new out_old out_new reads_old reads_new p l n ending
goes_on_to_finish in_old in_now in_new out_old out_now out_new reads_old reads_now reads_new p q l m n ending unended on last =
    let shut : q.tape.ended ≡ true → ⊥ = λ over. false≢true (sym unended ∙ over) in
    let before : p.tape.ended ≡ false = ⊎_elim (λ (over : p.tape.ended ≡ true). absurd (shut (on.closed over).1)) (λ (open_ : p.tape.ended ≡ false). open_) (cases_Bool p.tape.ended) in
    let faults : empty_reads p.tape.ended ending ≡ empty_reads q.tape.ended ending = empty_reads_open p.tape.ended ending before ∙ sym (empty_reads_open q.tape.ended ending unended) in
    let one = on.moved in
    let two = last.moved in
    let all : (more : List ℕ) → going_on_from p ((one.got ++ two.got) ++ more) l ≡ prepended one.written (going_on_from q (two.got ++ more) m) =
    λ more. ap (λ text. going_on_from p text l) (append_assoc one.got two.got more) ∙ rest_left on (two.got ++ more) (λ over. absurd (shut over)) in
    let count : l - n ≡ (m - n) + (l - m) = omega (arith, on.within, last.within) in
    record {
      moved = both_moved one two;
      closed = λ over. absurd (shut (on.closed over).1);
      at_end = λ over. absurd (shut (on.closed over).1);
      front = λ more none. subst (λ (o : Output). IsFrontOf (one.written ++ two.written) o.bytes) (sym (all more))
          (front_after one.written two.written (going_on_from q (two.got ++ more) m).bytes (last.front more (λ over. absurd (shut over))));
      shows = λ more none. subst (λ (o : Output). Shows ending (one.written ++ two.written) o) (sym (all more))
          (Shows-prepended ending one.written two.written (going_on_from q (two.got ++ more) m) (last.shows more (λ over. absurd (shut over))));
      within = omega (arith, on.within, last.within);
      exact = λ sound more none.
          ap (λ text. going_on_from p text (l - n)) (append_assoc one.got two.got more)
          ∙ ap (going_on_from p (one.got ++ (two.got ++ more))) count
          ∙ on.rest (m - n) (two.got ++ more) (λ over. absurd (shut over))
          ∙ ap (prepended one.written) (last.exact sound more (λ over. absurd (shut over)));
      few = λ fits_. omega (arith, length-append one.got two.got, on.few fits_, last.few (on.fits fits_));
      counted = omega (arith, on.counted, last.counted, faults);
      few_reads = λ fits_. omega (arith, one.came.0, on.few fits_, last.few_reads (on.fits fits_), faults);
    }

-- ---- piece after piece

-- what the pieces so far have come to, and whether the step is sure to go on waiting
pub record HasTaken (in_old in_now out_old out_now : Option (List ℕ)) (reads_old reads_now : ℕ) (p q : PlainSession) (waits : Bool) : Type 0 where
  pub on : (n : ℕ) → GoesOn in_old in_now out_old out_now reads_old reads_now p n q n
  pub steps : FeedsSteps in_old in_now out_old out_now 0 [] [] p q
  pub fresh : IsFresh q
  pub fewer : (n : ℕ) → p.last.position ≡ 0 → turns_left q n < turns_left p n
  pub wanted : waits ≡ true → answer Step q ≡ refused refusals.NeedInput q

-- one piece more
pub has_taken_more : (in_old in_now in_new out_old out_now out_new : Option (List ℕ)) (reads_old reads_now reads_new : ℕ) (p q r : PlainSession) (waited waits : Bool) →
    HasTaken in_old in_now out_old out_now reads_old reads_now p q waited → ((n : ℕ) → GoesOn in_now in_new out_now out_new reads_now reads_new q n r n) → FeedsSteps in_now in_new out_now out_new 0 [] [] q r → IsFresh r → ((n : ℕ) → q.last.position ≡ 0 → turns_left r n < turns_left q n) →
    (waits ≡ true → answer Step r ≡ refused refusals.NeedInput r) → HasTaken in_old in_new out_old out_new reads_old reads_new p r waits
has_taken_more in_old in_now in_new out_old out_now out_new reads_old reads_now reads_new p q r waited waits before on steps fresh fewer wanted = record {
  on = λ n. goes_on_twice in_old in_now in_new out_old out_now out_new reads_old reads_now reads_new p q r n n n (before.on n) (on n);
  steps = feeds_both 0 0 p q r before.steps steps;
  fresh = fresh;
  fewer = λ n start. omega (arith, before.fewer n start, fewer n before.fresh.nothing_read);
  wanted = wanted;
}

-- no more reads than a tape has bytes, and one
pub few_taken : (in_old in_now out_old out_now : Option (List ℕ)) (reads_old reads_now : ℕ) (p q : PlainSession) (waits : Bool) → length p.tape.bytes ≤ TAPE_LIMIT →
    HasTaken in_old in_now out_old out_now reads_old reads_now p q waits → reads_now ≤ reads_old + TAPE_LIMIT + 1
few_taken in_old in_now out_old out_now reads_old reads_now p q waits fits taken =
    let on = taken.on 0 in
    omega (arith, on.counted, on.moved.came.0, on.few fits, on.fits fits, end_reads_one q.tape.ended)

-- the run ends with a piece
pub has_taken_all : (in_old in_now in_new out_old out_now out_new : Option (List ℕ)) (reads_old reads_now reads_new : ℕ) (p q : PlainSession) (waits : Bool) (n : ℕ) (ending : Ending) →
    HasTaken in_old in_now out_old out_now reads_old reads_now p q waits → waits ≡ true →
    Finishes in_now in_new out_now out_new reads_now reads_new q n n ending → Finishes in_old in_new out_old out_new reads_old reads_new p n n ending
has_taken_all in_old in_now in_new out_old out_now out_new reads_old reads_now reads_new p q waits n ending before e last =
    goes_on_to_finish in_old in_now in_new out_old out_now out_new reads_old reads_now reads_new p q n n n ending (wanted_open q (before.wanted e)) (before.on n) last

-- ---- whether the step is sure to go on waiting

-- a search that is tested to have found nothing
pub none_by_test : (at : Option ℕ) (absent : Bool) → is_some at ≡ not absent → absent ≡ true → at ≡ None
none_by_test None absent is e = refl
none_by_test (Some k) absent is e = absurd (true≢false (is ∙ ap not e))
