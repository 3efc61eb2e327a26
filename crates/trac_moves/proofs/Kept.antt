-- What a window shows of the output, as it is made, walked and cut.
use Rattle.std.proofs.Common.{◌≡◌, ℕ, zero, suc, ◌+◌, ◌-◌, ◌^◌, false, List, [], ◌++◌, length, min, sym, ap, subst, ◌∙◌, arith}
use Rattle.std.specs.Prelude.{Some}
use Rattle.std.proofs.lemmas.List.{append-nil, length-append}
use Rattle.std.proofs.lemmas.Option.{option_and_then_some}
use Rattle.trac_rules.specs.declared.reply.Reply.TheVariants.{Done}
use Rattle.trac_rules.specs.declared.width.Width.{Width}
use Rattle.trac_rules.specs.Session.{PlainSession, Back, Commit, End, Feed, Step, accepted_by, answer, done, first_kept, new_session, repeated}
use Rattle.trac_rules.proofs.GoingOn.{after_repeated}
use Rattle.trac_rules.proofs.Released.{length-committed}
use Rattle.trac_rules.proofs.Replies.{Commit_done, End_done, Feed_done, Step_done, accepted_done}
use Rattle.trac_session.specs.Outputs.{HasReleased}
use Rattle.trac_session.proofs.Released.{answered_released, back_released, commit_released, end_released, last_on_tape, new_released, stepped_released}
use Rattle.trac_session.proofs.Returned.{back_count}
use Rattle.trac_moves.specs.Windows.{IsWindow}

-- a window over a tape has released nothing
pub over_tape : (tape : List ℕ) (limit : ℕ) (width : Width) (p : PlainSession) → answer (Feed tape) (new_session limit width) ≡ done p → IsWindow tape 0 [] 0 0 p
over_tape tape limit width p fed = record {
  has = subst (λ (q : PlainSession). HasReleased tape 0 [] q) (sym (Feed_done tape (new_session limit width) p fed).0) (new_released limit width (record { bytes = tape; ended = false }));
  steps_forgotten = omega arith;
  bytes_forgotten = omega arith;
}

-- each step adds a state to those before the last one
pub step_count : (k : ℕ) (p q : PlainSession) → repeated Step k p ≡ Some q → length q.earlier ≡ length p.earlier + k
step_count zero p q h = let same : p ≡ q = cc in omega (arith, ap (λ (s : PlainSession). length s.earlier) same)
step_count (suc k) p q h =
    option_and_then_some (λ (m : PlainSession). accepted_by (answer Step m)) (repeated Step k p) q h
    (λ m there next.
    omega (arith, step_count k p m there, ap (λ (s : PlainSession). length s.earlier) (Step_done m q (accepted_done (answer Step m) q next)).2))

-- a commit keeps so many of these at most
pub count_kept : (keep : ℕ) (p q : PlainSession) → answer (Commit keep) p ≡ done q → length q.earlier ≡ min keep (length p.earlier)
count_kept keep p q h = ap (λ (r : PlainSession). length r.earlier) (Commit_done keep p q h) ∙ length-committed keep p

-- steps forward and back
pub forward : (n : ℕ) (input text : List ℕ) (steps forgotten released : ℕ) (p q : PlainSession) → IsWindow input steps text forgotten released p → repeated Step n p ≡ Some q →
    IsWindow input (steps + n) text forgotten released q
forward n input text steps forgotten released p q w walked =
    let longer = (after_repeated n p q (last_on_tape p w.has.trail w.has.on_tape) walked).earlier in
    record { has = stepped_released n input text steps p q w.has walked; steps_forgotten = omega (arith, w.steps_forgotten, longer); bytes_forgotten = w.bytes_forgotten }

pub backward : (n : ℕ) (input text : List ℕ) (steps forgotten released : ℕ) (p q : PlainSession) → IsWindow input steps text forgotten released p → repeated Back n p ≡ Some q →
    IsWindow input (steps - n) text forgotten released q
backward n input text steps forgotten released p q w walked = record {
  has = (back_released n input text steps p q w.has walked).1;
  steps_forgotten = omega (arith, w.steps_forgotten, back_count n p q walked);
  bytes_forgotten = w.bytes_forgotten;
}

-- the end of the input
pub ended : (input text : List ℕ) (steps forgotten released : ℕ) (p q : PlainSession) → IsWindow input steps text forgotten released p → answer End p ≡ done q →
    IsWindow input steps text forgotten released q
ended input text steps forgotten released p q w h =
    record { has = end_released input text steps p q w.has h; steps_forgotten = omega (arith, w.steps_forgotten, ap (λ (r : PlainSession). length r.earlier) (End_done p q h)); bytes_forgotten = w.bytes_forgotten }

-- more input
pub fed : (bytes input text : List ℕ) (steps forgotten released : ℕ) (p q : PlainSession) → IsWindow input steps text forgotten released p → answer (Feed bytes) p ≡ done q →
    IsWindow (input ++ bytes) steps text forgotten released q
fed bytes input text steps forgotten released p q w h = record {
  has = subst (λ (all : List ℕ). HasReleased (input ++ bytes) steps all q) (append-nil text) (answered_released (Feed bytes) Done input text steps p q w.has h);
  steps_forgotten = omega (arith, w.steps_forgotten, ap (λ (r : PlainSession). length r.earlier) (Feed_done bytes p q h).0);
  bytes_forgotten = w.bytes_forgotten;
}

-- some of the steps are kept, and the others counted
pub kept : (keep forgotten released forgets releases : ℕ) (p q : PlainSession) (input text : List ℕ) (steps : ℕ) → IsWindow input steps text forgotten released p → answer (Commit keep) p ≡ done q →
    forgets ≡ min (forgotten + (length p.earlier - keep)) (2 ^ 64 - 1) → releases ≡ min (released + length (first_kept keep p).output) (2 ^ 64 - 1) →
    IsWindow input steps (text ++ (first_kept keep p).output) forgets releases q
kept keep forgotten released forgets releases p q input text steps w h forgot freed =
    let left = count_kept keep p q h in
    record {
      has = commit_released keep input text steps p q w.has h;
      steps_forgotten = omega (arith, w.steps_forgotten, w.has.counted, forgot, left);
      bytes_forgotten = omega (arith, w.bytes_forgotten, freed, length-append text (first_kept keep p).output);
    }
